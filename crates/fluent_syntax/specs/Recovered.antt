-- The tree and the errors that parsing answers, apart.
use Rattle.std.specs.Prelude.{◌≡◌, List, [], Result, Ok, Err}
use Rattle.fluent_syntax_tree.specs.declared.ast.Resource.{Resource}
use Rattle.fluent_syntax_tree.specs.declared.errors.ParserError.{ParserError}
use Rattle.fluent_syntax_parser.specs.declared.fault.ParseFault.{ParseFault}
use Rattle.fluent_syntax_parser.specs.declared.fault.ParseFault.TheVariants.{Syntax, Memory}

-- The tree and the errors are those of the answer; of one without errors there are none.
abbrev pub HasRecovered : {S : Type 0} → Result (Resource S) (ParseFault S) → Resource S → List ParserError → Type 0
HasRecovered (Ok whole) tree errors = (tree ≡ whole) × (errors ≡ [])
HasRecovered (Err (Syntax recovered found)) tree errors = (tree ≡ recovered) × (errors ≡ found.items)
HasRecovered (Err Memory) tree errors = ⊥
