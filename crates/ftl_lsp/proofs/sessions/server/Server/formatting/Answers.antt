use Rattle.std.proofs.Common.{List, Option, subst, sym, ℕ}
use Rattle.serde_json.specs.View.{view}
use Rattle.ftl_lsp.specs.Asking.{IsFormattingOf}
use Rattle.ftl_lsp.specs.Formatting.{FormatsText, leaves}
use Rattle.ftl_lsp.specs.OpenDocuments.{OpenText}
use Rattle.ftl_lsp.proofs.sessions.server.Server.formatting.Goals as goal

pub returns-in_default-2-clause-formats : goal.returns-in_default-2-clause-formats
returns-in_default-2-clause-formats c =
    subst (λ (here : Option OpenText). IsFormattingOf here (view c.null.result)) c.in-Some.ensures
    (subst (λ (t : List ℕ). FormatsText t (view c.null.result)) c.text-text.ensures
    (subst (FormatsText c.text-text.result.now) (sym c.null.ensures)
    (leaves (rw c.in_default-2.is at c.in_ok-formatted.ensures))))
