use Rattle.std.proofs.Common.{◌≡◌, ◌+◌, sym, ap, ◌∙◌, subst, nat_eq, get_or, true, below_more, rules}
use Rattle.fluent_syntax.specs.Flat.{starts_line, may_occur}
use Rattle.fluent_syntax.proofs.FlatSteps.{starts_line-next}
use Rattle.fluent_syntax.proofs.flat.is_flat.Goals as goal

pub loop-byte-preserved : goal.loop-byte-preserved
loop-byte-preserved c =
    let i = c.loop-byte.byte-index in
    let text = c.args.text.now in
    let here : may_occur (starts_line text i) (get_or text i 0) ≡ true =
    ap (λ first. may_occur first (get_or text i 0)) (sym c.loop-byte.invariant.start)
    ∙ ap (λ xs. may_occur c.loop-byte.starts_line (get_or xs i 0)) (sym c.loop-byte.invariant.bytes)
    ∙ sym c.can_occur.ensures ∙ search rules in
    record {
      bytes = c.loop-byte.invariant.bytes;
      start =
          subst (λ xs. nat_eq (get_or xs i 0) 10 ≡ starts_line text (i + 1)) (sym c.loop-byte.invariant.bytes)
          (starts_line-next text i);
      each = below_more _ _ c.loop-byte.invariant.each here;
    }
