-- Equal answers over two types of texts.
use Rattle.std.specs.Prelude.{◌≡◌, ℕ, List, map, Result, Ok, Err}
use Rattle.fluent_syntax_tree.specs.View.{resource_view}
use Rattle.fluent_syntax_tree.specs.declared.ast.Resource.{Resource}
use Rattle.fluent_syntax_parser.specs.Faults.{fault_of}
use Rattle.fluent_syntax_parser.specs.declared.fault.ParseFault.{ParseFault}
use Rattle.fluent_syntax_parser.specs.declared.fault.ParseFault.TheVariants.{Syntax, Memory}

-- Both have trees that are equal text by text, and equal errors or none. Where memory ran out for one, nothing is said.
abbrev pub SameAnswers : {S Z : Type 0} (text : S → List ℕ) (other : Z → List ℕ) → Result (Resource S) (ParseFault S) →
    Result (Resource Z) (ParseFault Z) → Type 0
SameAnswers text other (Ok x) (Ok y) = resource_view text x ≡ resource_view other y
SameAnswers text other (Ok x) (Err (Syntax y others)) = ⊥
SameAnswers text other (Ok x) (Err Memory) = Unit {0}
SameAnswers text other (Err (Syntax x errors)) (Ok y) = ⊥
SameAnswers text other (Err (Syntax x errors)) (Err (Syntax y others)) =
    (resource_view text x ≡ resource_view other y) × (map fault_of errors.items ≡ map fault_of others.items)
SameAnswers text other (Err (Syntax x errors)) (Err Memory) = Unit {0}
SameAnswers text other (Err Memory) b = Unit {0}
