use Rattle.std.proofs.Common.{ℕ, arith, map, subst, sym}
use Rattle.std.specs.Prelude.{string_bytes}
use Rattle.ftl_lsp.specs.Diagnostics.{DiagnosesText, shown}
use Rattle.ftl_lsp.specs.Sessions.{session_of}
use Rattle.ftl_lsp.proofs.SessionLemmas.{open_text_is_published, diagnostics_of_text_are_published}
use Rattle.ftl_lsp.proofs.SessionLemmas.{unopened_document_is_unpublished}
use Rattle.ftl_lsp.proofs.sessions.server.Server.publish.Goals as goal

pub returns-in_default-clause-sent : goal.returns-in_default-clause-sent
returns-in_default-clause-sent c =
    unopened_document_is_unpublished (session_of c.args.self.now) (session_of c.look_up_names.new.self) c.args.uri.now
    c.in_ok-look_up_names.ensures.same c.in_default.ensures

pub returns-clause-sent : goal.returns-clause-sent
returns-clause-sent c =
    open_text_is_published (session_of c.args.self.now) (session_of c.look_up_names.new.self) c.args.uri.now _ _ _
    c.in_ok-look_up_names.ensures.same c.in-Some.ensures c.in_ok-diagnostics_notification.ensures
    (diagnostics_of_text_are_published _ _ c.look_up_names.new.self.related c.diagnostics-errors.result.now
    c.more_errors.result c.saturating_add-more.result c.in_ok-list.list.items c.in_ok-others.others.items
    c.in_ok-count.count.items c.append.new.self.items c.append-2.new.self.items
    (subst (λ (n : ℕ). ∥ DiagnosesText (string_bytes c.in-Some.open.now.document.text)
    (map shown c.diagnostics-errors.result.now) n ∥₁) (sym c.more_errors.ensures)
    c.diagnostics-errors.ensures)
    c.in_ok-list.ensures c.in_ok-others.ensures c.in_ok-count.ensures
    (let sum = c.saturating_add-more.ensures in let fits = c.more_errors.type_inv in omega arith)
    c.in_ok-append.ensures.items c.in_ok-append-2.ensures.items)
