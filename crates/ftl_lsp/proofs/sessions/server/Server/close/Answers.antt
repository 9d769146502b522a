use Rattle.std.proofs.Common.{ap, map, refl, sym}
use Rattle.serde_json.specs.View.{view}
use Rattle.ftl_lsp.specs.OpenDocuments.{texts}
use Rattle.ftl_lsp.specs.Replies.{silence, sends_none, withdrawn}
use Rattle.ftl_lsp.specs.Sessions.{closes, passes}
use Rattle.ftl_lsp.specs.declared.sessions.methods.Method.TheVariants.{DidClose}
use Rattle.ftl_lsp.proofs.SessionLemmas.{empty_list_withdraws_diagnostics, unnamed_is_closed, named_document_is_open}
use Rattle.std.proofs.Common.{Some, ◌∙◌}
use Rattle.ftl_lsp.proofs.sessions.server.Server.close.Goals as goal

pub returns-in_default-clause-follows : goal.returns-in_default-clause-follows
returns-in_default-clause-follows c =
    (silence, sends_none, passes (Some DidClose) _ (unnamed_is_closed _ _ (sym c.in_default.ensures)) refl)

pub returns-then-not-contains-clause-follows : goal.returns-then-not-contains-clause-follows
returns-then-not-contains-clause-follows c =
    let named = named_document_is_open (texts c.args.self.now.documents) _ c.in-Some.uri.now (sym c.in-Some.ensures) in
    (silence, sends_none, passes (Some DidClose) _ (named ∙ sym c.if-not-contains.ensures) refl)

pub returns-clause-follows : goal.returns-clause-follows
returns-clause-follows c = (
  withdrawn c.in-Some.uri.now,
  empty_list_withdraws_diagnostics c.in-Some.uri.now _ _ c.in_ok-diagnostics_notification.ensures
      (ap (map view) c.new-none.ensures.items),
  closes c.in-Some.uri.now _ (sym c.in-Some.ensures) (sym c.if-not-contains.ensures) c.close.ensures,
)
