use Rattle.std.proofs.Common.{Option, subst, sym}
use Rattle.serde_json.specs.View.{view}
use Rattle.ftl_lsp.specs.Asking.{IsRangeFormattingOf}
use Rattle.ftl_lsp.specs.OpenDocuments.{OpenText}
use Rattle.ftl_lsp.specs.RangeFormatting.{FormatsRange, leaves_entries}
use Rattle.ftl_lsp.proofs.sessions.server.Server.range_formatting.Goals as goal

pub returns-in_default-2-clause-formats : goal.returns-in_default-2-clause-formats
returns-in_default-2-clause-formats c =
    subst (λ (here : Option OpenText). IsRangeFormattingOf here (view c.null.result)) c.in-Some.ensures
    (subst (FormatsRange _) (sym c.null.ensures) leaves_entries)
