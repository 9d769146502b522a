use Rattle.std.proofs.Common.{sym, refl}
use Rattle.std.proofs.lemmas.Result.{IfOk-weaker}
use Rattle.serde_json.specs.View.{view}
use Rattle.ftl_lsp.specs.Replies.{answered, refused, sends_answer}
use Rattle.ftl_lsp.specs.Sessions.{finds, finds_none, fits, is_out_of_phase, session_of}
use Rattle.ftl_lsp.proofs.SessionLemmas.{equal_value_is_sent, answered_session_is_in_phase}
use Rattle.ftl_lsp.proofs.SessionLemmas.{found_value_is_sent_as_result, found_code_refuses}
use Rattle.ftl_lsp.proofs.sessions.server.Server.request.Goals as goal

pub returns-in-Some : goal.returns-in-Some
returns-in-Some c =
    IfOk-weaker c.refuse.result _ _
    (λ sent is. (
      refused (view c.args.id) c.in-Some.code,
      is,
      is_out_of_phase c.in-Some.code _ (sym c.in-Some.ensures) refl,
    ))
    c.refuse.ensures

pub returns-in-Err : goal.returns-in-Err
returns-in-Err c =
    let refuses = found_code_refuses c.args.method
    (fits (session_of c.args.self.now).texts (view c.args.message.now) c.args.method) c.in_ok-response.field-0
    c.in-Err.code c.in_ok-response.ensures.refused c.in-Err.is in
    IfOk-weaker c.refuse-in-Err.result _ _
    (λ sent is. (
      refused (view c.args.id) c.in-Err.code,
      is,
      finds_none c.in-Err.code _ (sym c.in_default.ensures) refuses c.in_ok-response.ensures.same,
    ))
    c.refuse-in-Err.ensures

pub returns : goal.returns
returns c =
    let response = found_value_is_sent_as_result (session_of c.args.self.now)
    (view c.args.message.now) c.args.method c.in_ok-response.field-0
    c.in-Ok.response (sym c.in_default.ensures)
    c.in_ok-response.ensures.fitting c.in_ok-response.ensures.result c.in-Ok.is in (
      answered (view c.args.id) (view c.in-Ok.response),
      equal_value_is_sent _ _ _ c.in_ok-reply.ensures (sends_answer _ _),
      finds _ _ response
          (answered_session_is_in_phase _ (session_of c.response.new.self) _ c.args.method c.after_request-self.ensures
          c.in_ok-response.ensures.same),
    )
