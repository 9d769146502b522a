use Rattle.std.proofs.Common.{sym, ◌∙◌, rules}
use Rattle.fluent_syntax_tree.proofs.Equal.{decides_by_view-Resource}
use Rattle.fluent_syntax_tree.proofs.laws.same_texts.Goals as goal

pub returns : goal.returns
returns g c =
    let d =
    decides_by_view-Resource g.row.S g.S.PartialEq g.S.PartialEq-dict (record { laws = g.met.S.PartialEq.laws })
    g.S.Slice.text (g.met.S.Slice c.lifetimes (search rules)).eq_by_text c.args.a.now c.args.b.now in
    (λ h. d.0 (sym c.eq.ensures ∙ h), λ q. c.eq.ensures ∙ d.1 q)
