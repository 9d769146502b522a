-- Two answers of one tiling.
use Rattle.std.proofs.Common.{ℕ, List, sym, ◌∙◌, subst}
use Rattle.std.specs.Prelude.{Result, Ok, Err}
use Rattle.fluent_syntax_tree.specs.Entry.{BodyTree}
use Rattle.fluent_syntax_tree.specs.declared.ast.Resource.{Resource}
use Rattle.fluent_syntax_tree.specs.declared.edition.Edition.{Edition}
use Rattle.fluent_syntax_tree.specs.declared.spans.Span.{Span}
use Rattle.fluent_syntax_grammar.specs.Tiling.{Tile}
use Rattle.fluent_syntax_grammar.proofs.OneTiling.{tilings_of_text_are_same, runtime_tilings_of_text_are_equal}
use Rattle.fluent_syntax_parser.specs.Answers.{Answers, AnswersTiling, AnswersRuntimeTiling}
use Rattle.fluent_syntax_parser.specs.declared.fault.ParseFault.{ParseFault}
use Rattle.fluent_syntax_parser.specs.declared.fault.ParseFault.TheVariants.{Syntax, Memory}
use Rattle.fluent_syntax.specs.SameAnswers.{SameAnswers}

module _ {S Z : Type 0} (text : S → List ℕ) (other : Z → List ℕ) (whole : BodyTree Span → BodyTree (List ℕ)) where
  answers_of_one_tiling_are_same :
      (tiles : List Tile) (a : Result (Resource S) (ParseFault S)) (b : Result (Resource Z) (ParseFault Z)) →
      Answers text whole tiles a → Answers other whole tiles b → SameAnswers text other a b
  answers_of_one_tiling_are_same tiles (Ok x) (Ok y) (p, e) (q, f) = p ∙ sym q
  answers_of_one_tiling_are_same tiles (Ok x) (Err (Syntax y others)) (p, e) (q, stated, some) = some e
  answers_of_one_tiling_are_same tiles (Ok x) (Err Memory) h k = tt
  answers_of_one_tiling_are_same tiles (Err (Syntax x errors)) (Ok y) (p, stated, some) (q, f) = some f
  answers_of_one_tiling_are_same tiles (Err (Syntax x errors)) (Err (Syntax y others)) (p, stated, some)
      (q, found, any) =
      (p ∙ sym q, stated ∙ sym found)
  answers_of_one_tiling_are_same tiles (Err (Syntax x errors)) (Err Memory) h k = tt
  answers_of_one_tiling_are_same tiles (Err Memory) b h k = tt

  module _ (edition : Edition) (t : List ℕ) (a : Result (Resource S) (ParseFault S))
      (b : Result (Resource Z) (ParseFault Z)) where
    pub answers_of_one_text_are_same : AnswersTiling text whole edition t a → AnswersTiling other whole edition t b →
        SameAnswers text other a b
    answers_of_one_text_are_same (xs, p, h) (ys, q, k) =
        answers_of_one_tiling_are_same ys a b
        (subst (λ tiles. Answers text whole tiles a) (tilings_of_text_are_same edition t xs ys p q) h) k

    pub runtime_answers_of_one_text_are_same : AnswersRuntimeTiling text whole edition t a →
        AnswersRuntimeTiling other whole edition t b → SameAnswers text other a b
    runtime_answers_of_one_text_are_same (xs, p, h) (ys, q, k) =
        answers_of_one_tiling_are_same ys a b
        (subst (λ tiles. Answers text whole tiles a) (runtime_tilings_of_text_are_equal edition t xs ys p q) h)
        k
