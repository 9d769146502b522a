-- Endings of lines.
use Rattle.std.proofs.Common.{◌≡◌, ℕ, ◌+◌, List, Option, Some, None, refl, sym, subst}
use Rattle.std.specs.Prelude.{◌==◌, if◌then◌else◌}
use Rattle.fluent_syntax_grammar.specs.Construct.{Outcome, Read, peek, goes_on, given, passed, chosen, at_place}
use Rattle.fluent_syntax_grammar.specs.Layout.{text_end, lf_at, crlf_at}
use Rattle.fluent_syntax_grammar.specs.Family.{Family}
use Rattle.fluent_syntax_grammar.specs.Layout as layout
use Rattle.fluent_syntax_grammar.specs.Lines.{ending, ending_of}
use Rattle.fluent_syntax_grammar.specs.Patterns.{layout_at}
use Rattle.fluent_syntax_grammar.specs.Places.{after_eol}

module _ (t : List ℕ) where
  pub ending_without_eol_is_text_end : (i : ℕ) → after_eol t i ≡ None → ending t i (Read text_end i)
  ending_without_eol_is_text_end i e =
      goes_on at_place (chosen (subst (λ o. ending_of t i o i (Read text_end i)) (sym e) given))

  pub line_ending_read : (i j : ℕ) → after_eol t i ≡ Some j → ending t i
      (Read (if j == i + 1 then lf_at i else crlf_at i) j)
  line_ending_read i j e =
      goes_on at_place
      (chosen
      (subst (λ o. ending_of t i o i (Read (if j == i + 1 then lf_at i else crlf_at i) j)) (sym e)
      (goes_on (passed (record { there = refl })) given)))

  -- a layout, by the line end at its place
  pub layout_by_its_eol_is_layout : (R : Family) (i : ℕ) (x : Option ℕ) (o : Outcome layout.Layout) →
      x ≡ after_eol t i → layout_at t R x i o → peek (after_eol t) (layout_at t R) i o
  layout_by_its_eol_is_layout R i x o e h = chosen (subst (λ x. layout_at t R x i o) e h)
