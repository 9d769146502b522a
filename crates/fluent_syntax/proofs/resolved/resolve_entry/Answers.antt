use Rattle.std.proofs.Common.{◌≡◌, IfOk, subst}
use Rattle.fluent_syntax_tree.specs.Spans.{bytes_at}
use Rattle.fluent_syntax_tree.specs.View.{entry_view}
use Rattle.fluent_syntax_tree.proofs.Natural.{natural-Entry}
use Rattle.fluent_syntax.proofs.resolved.resolve_entry.Goals as goal

pub returns : goal.returns
returns g c =
    record {
      texts = subst (λ v. IfOk c.entry.result (λ made. entry_view g.S.Slice.text made ≡ v))
          (natural-Entry (λ s. s) (bytes_at (g.S.Slice.text c.args.source.now)) c.args.entry.now)
          c.entry.ensures;
    }
