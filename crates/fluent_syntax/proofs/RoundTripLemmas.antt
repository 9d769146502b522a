-- The answers of a tiling: readable once joined; and, of a written tree, the tree.
use Rattle.std.proofs.Common.{◌≡◌, ℕ, List, [], true, false, sym, ◌∙◌, subst, ap}
use Rattle.std.specs.Prelude.{Result, Ok, Err}
use Rattle.fluent_syntax_tree.specs.Entry.{BodyTree, body_map}
use Rattle.fluent_syntax_tree.specs.Spans.{bytes_at}
use Rattle.fluent_syntax_tree.specs.View.{resource_view}
use Rattle.fluent_syntax_tree.specs.declared.ast.Resource.{Resource}
use Rattle.fluent_syntax_tree.specs.declared.edition.Edition.TheVariants.{One}
use Rattle.fluent_syntax_grammar.specs.Tiling.{Tile, Tiling}
use Rattle.fluent_syntax_grammar.specs.Body.{faults}
use Rattle.fluent_syntax_grammar.specs.Written.{Text, written}
use Rattle.fluent_syntax_grammar.specs.Readable.{is_readable}
use Rattle.fluent_syntax_grammar.specs.Joined.{joined_body}
use Rattle.fluent_syntax_grammar.specs.RoundTrip.{ReadsAs, tree_of}
use Rattle.fluent_syntax_grammar.proofs.OneTiling.{tilings_of_text_are_same}
use Rattle.fluent_syntax_grammar.proofs.SomeTiling.{text_has_tiling}
use Rattle.fluent_syntax_grammar.proofs.backward.Bodies.{joined_is_readable, joined_is_same}
use Rattle.fluent_syntax_parser.specs.Answers.{Answers, AnswersTiling}
use Rattle.fluent_syntax_parser.specs.declared.fault.ParseFault.{ParseFault}
use Rattle.fluent_syntax_parser.specs.declared.fault.ParseFault.TheVariants.{Syntax, Memory}
use Rattle.fluent_syntax.specs.RoundTrip.{AnswersReadable, AnswersWritten, IsTree}

module _ {S : Type 0} (text : S → List ℕ) where
  -- ---- what was read is readable

  resource_of_readable_tree_is_readable : (found : Resource S) (tree : BodyTree Text) →
      resource_view text found ≡ tree →
      is_readable One (joined_body tree) ≡ true → is_readable One (joined_body (resource_view text found)) ≡ true
  resource_of_readable_tree_is_readable found tree same h = ap (λ b. is_readable One (joined_body b)) same ∙ h

  resource_of_joined_tree_is_joined : (found : Resource S) (tree : BodyTree Text) → resource_view text found ≡ tree →
      joined_body tree ≡ tree → joined_body (resource_view text found) ≡ resource_view text found
  resource_of_joined_tree_is_joined found tree same h = ap joined_body same ∙ (h ∙ sym same)

  answers_of_tiling_are_readable : (t : Text) (tiles : List Tile) (result : Result (Resource S) (ParseFault S)) →
      Tiling One t tiles → Answers text (body_map (bytes_at t)) tiles result → AnswersReadable text t result
  answers_of_tiling_are_readable t tiles (Ok found) tiling (same, clean) = (
    λ bare. resource_of_readable_tree_is_readable found (tree_of t tiles) same (joined_is_readable t tiles bare tiling),
    λ none. resource_of_joined_tree_is_joined found (tree_of t tiles) same (joined_is_same t tiles none tiling clean),
  )
  answers_of_tiling_are_readable t tiles (Err (Syntax found errors)) tiling (same, stated, some) =
      λ bare. resource_of_readable_tree_is_readable found (tree_of t tiles) same
      (joined_is_readable t tiles bare tiling)
  answers_of_tiling_are_readable t tiles (Err Memory) tiling given = tt

  pub answer_of_text_is_readable : (t : Text) (result : Result (Resource S) (ParseFault S)) →
      AnswersTiling text (body_map (bytes_at t)) One t result → AnswersReadable text t result
  answer_of_text_is_readable t result (tiles, tiling, given) =
      answers_of_tiling_are_readable t tiles result tiling given

  -- ---- what was written is read back

  -- where memory ran out
  pub memory_error_writes_nothing : (tree : BodyTree Text) → AnswersWritten text tree (Err Memory)
  memory_error_writes_nothing tree = let s = text_has_tiling One (written false tree) in (s.0, s.1, tt)

  answer_of_faultless_tiles_has_tree : (t : Text) (tiles : List Tile) (tree : BodyTree Text)
      (result : Result (Resource S) (ParseFault S)) →
      faults tiles ≡ [] → tree_of t tiles ≡ tree → Answers text (body_map (bytes_at t)) tiles result →
      IsTree text tree result
  answer_of_faultless_tiles_has_tree t tiles tree (Ok found) clean is (same, none) = same ∙ is
  answer_of_faultless_tiles_has_tree t tiles tree (Err (Syntax found errors)) clean is (same, stated, some) = some clean
  answer_of_faultless_tiles_has_tree t tiles tree (Err Memory) clean is given = tt

  -- A text that reads as a tree is answered with that tree.
  pub reading_that_gives_tree_answers_tiling : (t : Text) (tree : BodyTree Text)
      (result : Result (Resource S) (ParseFault S)) →
      ReadsAs One t tree → AnswersTiling text (body_map (bytes_at t)) One t result → IsTree text tree result
  reading_that_gives_tree_answers_tiling t tree result r (tiles, tiling, given) =
      answer_of_faultless_tiles_has_tree t r.tiles tree result r.no_faults r.same
      (subst (λ xs. Answers text (body_map (bytes_at t)) xs result)
      (tilings_of_text_are_same One t tiles r.tiles tiling r.tiling)
      given)
