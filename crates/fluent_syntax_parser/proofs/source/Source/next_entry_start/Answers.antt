use Rattle.std.proofs.Common.{sym, refl, arith, inl, inr}
use Rattle.fluent_syntax_grammar.proofs.Facts.{at_most_is_less_or_same, lt_or_le}
use Rattle.fluent_syntax_parser.proofs.source.Source.next_entry_start.Goals as goal

pub loop-place-preserved : goal.loop-place-preserved
loop-place-preserved c =
    let inv = c.loop-place.invariant in
    let next = c.next_line-place.ensures in
    record {
      forward = omega (arith, inv.forward, next.within.0);
      within = next.within.1;
      nearest = λ k l r. elim (lt_or_le k c.loop-place.place) [
        | inl before ↦ inv.nearest k l before
        | inr on ↦ elim (at_most_is_less_or_same c.loop-place.place k on) [
          | inl after ↦ rw (next.line k after r) refl
          | inr here ↦ rw (← here) (sym c.if-not-is_entry_start.ensures)
        ]
      ];
    }
