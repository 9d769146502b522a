use Rattle.std.proofs.Common.{◌≡◌, ◌≤◌, ◌∙◌, ap, sym, subst, arith}
use Rattle.ftl_lsp.specs.Positions.{position_at, IsPosition}
use Rattle.ftl_lsp.proofs.PositionLemmas.{position_at_is_position}
use Rattle.ftl_lsp.proofs.documents.positions.Positions.position.Goals as goal
use Rattle.ftl_lsp.proofs.documents.positions.Positions.position.Goals.{then-byte-self, else-byte-self}

pub returns-clause-meaning : goal.returns-clause-meaning
returns-clause-meaning c =
    let s = c.args.self.now in
    let ahead : c.if-byte-self.from.1 ≤ c.args.byte =
    elim c.if-byte-self.branch [
      | then-byte-self w ↦ omega (arith, ap (λ x. x.1) w.from-is)
      | else-byte-self w ↦ omega (arith, ap (λ x. x.1) w.from-is)
    ] in
    let end = c.loop-at.auto.at-end ahead in
    let there : c.loop-at.at ≡ c.args.byte = omega (arith, end) in
    let here : c.loop-at.here ≡ position_at s c.args.byte =
    c.loop-at.invariant ∙ ap (λ t. position_at t c.loop-at.at) c.self.view_is ∙ ap (position_at s) there in
    subst (IsPosition s c.args.byte) (sym here) (position_at_is_position s c.args.byte c.requires)
