-- What parsing answers: the tree and the errors of a tiling.
use Rattle.std.specs.Prelude.{◌≡◌, ◌≢◌, ℕ, ◌≤◌, List, [], length, map, All, Some, Result, Ok, Err}
use Rattle.fluent_syntax_tree.specs.Entry.{BodyTree}
use Rattle.fluent_syntax_tree.specs.View.{resource_view}
use Rattle.fluent_syntax_tree.specs.declared.ast.Resource.{Resource}
use Rattle.fluent_syntax_tree.specs.declared.edition.Edition.{Edition}
use Rattle.fluent_syntax_tree.specs.declared.spans.Span.{Span}
use Rattle.fluent_syntax_grammar.specs.Tiling.{Tile, Tiling, RuntimeTiling}
use Rattle.fluent_syntax_grammar.specs.Body.{faults, body}
use Rattle.fluent_syntax_parser.specs.Faults.{fault_of}
use Rattle.fluent_syntax_parser.specs.declared.fault.ParseFault.{ParseFault}
use Rattle.fluent_syntax_parser.specs.declared.fault.ParseFault.TheVariants.{Syntax, Memory}

-- A text with these tiles is answered: the tree is what their body becomes, and there are errors exactly where the
-- tiles have faults, which these report, in order. `text` reads the texts of the tree.
module _ {S X : Type 0} (text : S → X) (whole : BodyTree Span → BodyTree X) where
  abbrev pub Answers : List Tile → Result (Resource S) (ParseFault S) → Type 0
  Answers tiles (Ok tree) = (resource_view text tree ≡ whole (body tiles)) × (faults tiles ≡ [])
  Answers tiles (Err (Syntax tree errors)) =
      (resource_view text tree ≡ whole (body tiles)) × (map fault_of errors.items ≡ map Some (faults tiles)) ×
      (faults tiles ≢ [])
  Answers tiles (Err Memory) = Unit {0}

  -- The answer is that of a tiling of the text.
  abbrev pub AnswersTiling : Edition → List ℕ → Result (Resource S) (ParseFault S) → Type 0
  AnswersTiling edition t result = (tiles : List Tile) × Tiling edition t tiles × Answers tiles result

  -- The answer is that of a tiling of the text without comments.
  abbrev pub AnswersRuntimeTiling : Edition → List ℕ → Result (Resource S) (ParseFault S) → Type 0
  AnswersRuntimeTiling edition t result = (tiles : List Tile) × RuntimeTiling edition t tiles × Answers tiles result

-- The answer is that of a tiling of the text, with the ranges of its texts as they are.
abbrev pub AnswersSpans : Edition → List ℕ → Result (Resource Span) (ParseFault Span) → Type 0
AnswersSpans edition t result = AnswersTiling (λ s. s) (λ b. b) edition t result

-- The same of a tiling of the text without comments.
abbrev pub AnswersRuntimeSpans : Edition → List ℕ → Result (Resource Span) (ParseFault Span) → Type 0
AnswersRuntimeSpans edition t result = AnswersRuntimeTiling (λ s. s) (λ b. b) edition t result

-- The place of each error begins within the text.
abbrev pub ErrorsInText : {S : Type 0} → List ℕ → Result (Resource S) (ParseFault S) → Type 0
ErrorsInText t (Ok tree) = Unit {0}
ErrorsInText t (Err (Syntax tree errors)) = All (λ e. e.pos.start ≤ length t) errors.items
ErrorsInText t (Err Memory) = Unit {0}
