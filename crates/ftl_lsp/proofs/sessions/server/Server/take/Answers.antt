use Rattle.std.proofs.Common.{sym}
use Rattle.std.proofs.lemmas.Result.{IfOk-weaker}
use Rattle.serde_json.specs.Data.{null}
use Rattle.serde_json.specs.View.{view}
use Rattle.ftl_lsp.specs.Replies.{refused, silence, sends_none}
use Rattle.ftl_lsp.specs.Sessions.{garbled, responded, session_of, unasked}
use Rattle.ftl_lsp.specs.declared.sessions.phases.ErrorCode.TheVariants.{InvalidRequest, ParseError}
use Rattle.ftl_lsp.proofs.SessionLemmas.{session_takes_notification, request_by_method_is_sent_for_message}
use Rattle.ftl_lsp.proofs.sessions.server.Server.take.Goals as goal

pub returns-in_default : goal.returns-in_default
returns-in_default g c =
    IfOk-weaker c.refuse_unnamed.result _ _
    (λ sent is. (
      refused null ParseError,
      is,
      garbled (c.in-Err.ensures.err (λ memory. c.in_default.not-Memory (c.classify.ensures.memory.1 memory))),
    ))
    c.refuse_unnamed.ensures

pub returns-in-Request : goal.returns-in-Request
returns-in-Request g c =
    request_by_method_is_sent_for_message c.request.result (session_of c.args.self.now)
    (session_of c.read_files.new.self)
    (session_of c.request.new.self) c.args.body.now
    (view c.in-Ok.value) (view c.in-Request.id.now) (view c.in_ok-id-in-Request.id) c.in-Request.method.now
    c.from_name-method.result c.in-Ok.ensures.ok.1 (sym c.in-Request.ensures) c.in_ok-id-in-Request.ensures.cases
    (c.from_name-method.ensures.named, c.from_name-method.ensures.other) c.in_ok-read_files-in-Request.ensures
    c.request.ensures

pub returns-in-Notification : goal.returns-in-Notification
returns-in-Notification g c =
    session_takes_notification c.notification.result (session_of c.args.self.now) (session_of c.notification.new.self)
    c.args.body.now (view c.in-Ok.value)
    c.in-Notification.method.now c.from_name.result c.in-Ok.ensures.ok.1 (sym c.in-Notification.ensures)
    (c.from_name.ensures.named, c.from_name.ensures.other) c.notification.ensures

pub returns-in-Response : goal.returns-in-Response
returns-in-Response g c =
    (silence, sends_none, responded (view c.in-Ok.value) c.in-Ok.ensures.ok.1 (sym c.in-Response.ensures))

pub returns : goal.returns
returns g c =
    IfOk-weaker c.refuse_unnamed-in-Invalid.result _ _
    (λ sent is. (
      refused null InvalidRequest,
      is,
      unasked (view c.in-Ok.value) c.in-Ok.ensures.ok.1 (sym c.in-Invalid.ensures),
    ))
    c.refuse_unnamed-in-Invalid.ensures
