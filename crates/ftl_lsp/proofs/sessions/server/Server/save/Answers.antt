use Rattle.std.proofs.Common.{ap, refl, sym}
use Rattle.std.proofs.lemmas.Result.{IfOk-weaker}
use Rattle.serde_json.specs.View.{view}
use Rattle.ftl_lsp.specs.Replies.{silence, sends_none}
use Rattle.ftl_lsp.specs.Sessions.{passes, session_of}
use Rattle.ftl_lsp.specs.declared.sessions.methods.Method.TheVariants.{DidSave}
use Rattle.ftl_lsp.proofs.SessionLemmas.{unnamed_is_closed, saved_text_is_published}
use Rattle.std.proofs.Common.{Some}
use Rattle.ftl_lsp.proofs.sessions.server.Server.save.Goals as goal

pub returns-in-Some-clause-phase : goal.returns-in-Some-clause-phase
returns-in-Some-clause-phase c = IfOk-weaker c.publish.result _ _ (λ sent e. ap (λ s. s.phase) e) c.publish.ensures.same

pub returns-in-Some-clause-follows : goal.returns-in-Some-clause-follows
returns-in-Some-clause-follows c =
    saved_text_is_published c.publish.result (view c.args.message.now) c.in-Some.uri.now (session_of c.args.self.now)
    (session_of c.publish.new.self) (sym c.in-Some.ensures) c.publish.ensures.same c.publish.ensures.sent

pub returns-in-None-clause-follows : goal.returns-in-None-clause-follows
returns-in-None-clause-follows c =
    (silence, sends_none, passes (Some DidSave) _ (unnamed_is_closed _ _ (sym c.in-None.ensures)) refl)
