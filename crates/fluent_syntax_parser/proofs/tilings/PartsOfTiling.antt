-- The texts of an answer are parts of the source.
use Rattle.std.proofs.Common.{List, ℕ, sym, subst}
use Rattle.std.specs.Prelude.{Result, Ok, Err}
use Rattle.std.specs.Str.{IsUtf8}
use Rattle.fluent_syntax_tree.specs.Every.{body_every}
use Rattle.fluent_syntax_tree.specs.Spans.{IsTextRange}
use Rattle.fluent_syntax_tree.specs.declared.ast.Resource.{Resource}
use Rattle.fluent_syntax_tree.specs.declared.edition.Edition.{Edition}
use Rattle.fluent_syntax_tree.specs.declared.spans.Span.{Span}
use Rattle.fluent_syntax_grammar.specs.Tiling.{Tile}
use Rattle.fluent_syntax_grammar.specs.Body.{body}
use Rattle.fluent_syntax_parser.specs.Answers.{Answers}
use Rattle.fluent_syntax_parser.specs.Rest.{AnswersSpansIn}
use Rattle.fluent_syntax_parser.specs.Parts.{HasParts}
use Rattle.fluent_syntax_parser.proofs.tilings.PartsOfEntries.{body_of_tiles_has_parts_in_text}
use Rattle.fluent_syntax_parser.specs.declared.options.Comments.{Comments}
use Rattle.fluent_syntax_parser.specs.declared.fault.ParseFault.{ParseFault}
use Rattle.fluent_syntax_parser.specs.declared.fault.ParseFault.TheVariants.{Syntax, Memory}

module _ (t : List ℕ) where
  answer_of_tiles_has_parts_in_text : (tiles : List Tile) (result : Result (Resource Span) (ParseFault Span)) →
      body_every (IsTextRange t) (body tiles) → Answers (λ s. s) (λ b. b) tiles result → HasParts t result
  answer_of_tiles_has_parts_in_text tiles (Ok tree) parts (same, none) =
      subst (body_every (IsTextRange t)) (sym same) parts
  answer_of_tiles_has_parts_in_text tiles (Err (Syntax tree errors)) parts (same, stated, some) =
      subst (body_every (IsTextRange t)) (sym same) parts
  answer_of_tiles_has_parts_in_text tiles (Err Memory) parts given = tt

  pub answer_has_parts_in_text : (comments : Comments) (edition : Edition)
      (result : Result (Resource Span) (ParseFault Span)) →
      IsUtf8 t → AnswersSpansIn comments edition t result → HasParts t result
  answer_has_parts_in_text comments edition result utf8 (tiles, tiled, given) =
      answer_of_tiles_has_parts_in_text tiles result
      (body_of_tiles_has_parts_in_text t edition comments tiles utf8 tiled) given
