use Rattle.std.proofs.Common.{◌≡◌, IfOk, subst}
use Rattle.fluent_syntax_tree.specs.Spans.{bytes_at}
use Rattle.fluent_syntax_tree.specs.View.{resource_view}
use Rattle.fluent_syntax_tree.proofs.Natural.{natural-Resource}
use Rattle.fluent_syntax.proofs.resolved.resolve.Goals as goal

pub returns-clause-texts : goal.returns-clause-texts
returns-clause-texts g c =
    subst (λ v. IfOk c.resource.result (λ resource. resource_view g.S.Slice.text resource ≡ v))
    (natural-Resource (λ s. s) (bytes_at (g.S.Slice.text c.args.source.now)) c.args.tree.now)
    c.resource.ensures.copy
