use Rattle.std.proofs.Common.{ap}
use Rattle.std.proofs.lemmas.Result.{IfOk-weaker}
use Rattle.serde_json.specs.View.{view}
use Rattle.ftl_lsp.specs.OpenDocuments.{texts}
use Rattle.ftl_lsp.specs.Sessions.{concerns}
use Rattle.ftl_lsp.proofs.SessionLemmas.{unconcerned_texts_take_nothing, other_method_passes_over}
use Rattle.ftl_lsp.proofs.SessionLemmas.{initialized_is_answered_by_watching}
use Rattle.ftl_lsp.proofs.sessions.server.Server.handle_notification.Goals as goal

pub returns-in_default-clause-follows : goal.returns-in_default-clause-follows
returns-in_default-clause-follows c =
    unconcerned_texts_take_nothing (texts c.args.self.now.documents) (view c.args.message.now) c.args.method
    (ap (concerns (texts c.args.self.now.documents) (view c.args.message.now)) c.in_default.is)

pub returns-in-Initialized-clause-follows : goal.returns-in-Initialized-clause-follows
returns-in-Initialized-clause-follows c =
    IfOk-weaker c.watch.result _ _
    (λ sent is. initialized_is_answered_by_watching
    (texts c.args.self.now.documents) _ c.args.method c.in-Some.method _ c.in-Some.is
    c.in-Initialized.is is)
    c.watch.ensures

pub returns-in_default-method-clause-follows : goal.returns-in_default-method-clause-follows
returns-in_default-method-clause-follows c =
    other_method_passes_over (texts c.args.self.now.documents) (view c.args.message.now) c.args.method c.in-Some.method
    c.in-Some.is c.in_default-method.not-DidOpen c.in_default-method.not-DidChange
    c.in_default-method.not-DidClose c.in_default-method.not-DidSave
