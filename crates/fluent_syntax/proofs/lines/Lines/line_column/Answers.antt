use Rattle.std.proofs.Common.{arith, ◌≡◌, ◌≤◌, ◌<◌, ◌+◌, ◌-◌, length, ap, subst}
use Rattle.fluent_syntax.specs.Lines.{column_at}
use Rattle.fluent_syntax.proofs.Columns.{column_counts_from_line_start}
use Rattle.fluent_syntax.proofs.lines.Lines.line_column.Goals as goal
use Rattle.fluent_syntax.proofs.lines.Lines.line_column.Goals.{then-place-self, else-place-self}

pub returns-clause-column : goal.returns-clause-column
returns-clause-column c =
    let ahead : c.if-place-self.line.2 ≤ c.args.place =
    elim c.if-place-self.branch [
      | then-place-self w ↦ omega (arith, ap (λ x. x.2) w.line-is)
      | else-place-self w ↦ omega (arith, ap (λ x. x.2) w.line-is)
    ] in
    let end = c.loop-at.auto.at-end ahead in
    let at_place : c.loop-at.at ≡ c.args.place = omega (arith, end) in
    let before : c.loop-at.start ≤ c.args.place = omega (arith, at_place) in
    let source = c.self.inside.text.now in
    let within : c.args.place ≤ length source = rw c.self.view_is c.requires in
    let column : 1 + c.args.place - c.loop-at.start ≡ column_at source c.args.place =
    column_counts_from_line_start source c.args.place c.loop-at.start within before c.loop-at.invariant.starts
    (λ k f l. let inside : k < c.loop-at.at = omega (arith, at_place) in c.loop-at.invariant.same_line k f inside) in
    subst (λ t. 1 + c.args.place - c.loop-at.start ≡ column_at t c.args.place) c.self.view_is column
