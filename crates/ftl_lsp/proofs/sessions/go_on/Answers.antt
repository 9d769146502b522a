use Rattle.std.proofs.Common.{ap, refl}
use Rattle.serde_json.specs.View.{view}
use Rattle.ftl_lsp.specs.Served.{is_unpublished, has_no_memory_to_publish}
use Rattle.ftl_lsp.specs.Sessions.{session_of}
use Rattle.ftl_lsp.proofs.ServedLemmas.{step_then_goes_on, unasked_value_goes_on, equal_session_stops_alike}
use Rattle.ftl_lsp.proofs.ServedLemmas.{unpublished_value_stops_session}
use Rattle.ftl_lsp.proofs.sessions.go_on.Goals as goal

pub returns-in-Ok-Some-clause-step : goal.returns-in-Ok-Some-clause-step
returns-in-Ok-Some-clause-step g c =
    unasked_value_goes_on c.send.result _ _ _ _ _ (view c.in-Ok-Some.value) c.in-Ok-Some.ensures.same
    (rw c.in-Ok-Some.field-0-is at c.in-Ok-Some.ensures.unasked) c.send.ensures.sent

pub returns-in-Ok-Some-clause-stops : goal.returns-in-Ok-Some-clause-stops
returns-in-Ok-Some-clause-stops g c =
    unpublished_value_stops_session c.send.result (session_of c.args.server.now) _ _ _ (view c.in-Ok-Some.value)
    (rw c.in-Ok-Some.field-0-is at c.in-Ok-Some.ensures.unasked) c.send.ensures.fault
    (λ is. ap g.W.Write.contents (c.send.ensures.unwritten is))

pub returns-in-Ok-None-clause-step : goal.returns-in-Ok-None-clause-step
returns-in-Ok-None-clause-step g c =
    step_then_goes_on c.answer_next.result (session_of c.args.server.now) (session_of c.next_unasked.new.self) _ _ _ _ _
    c.in-Ok-None.ensures.same c.answer_next.ensures.step

pub returns-in-Ok-None-clause-stops : goal.returns-in-Ok-None-clause-stops
returns-in-Ok-None-clause-stops g c =
    equal_session_stops_alike c.answer_next.result (session_of c.args.server.now)
    (session_of c.next_unasked.new.self) _ _ _
    c.in-Ok-None.ensures.same c.answer_next.ensures.stops

pub returns-in-Err-clause-stops : goal.returns-in-Err-clause-stops
returns-in-Err-clause-stops g c = is_unpublished _ _ (has_no_memory_to_publish _ refl)
