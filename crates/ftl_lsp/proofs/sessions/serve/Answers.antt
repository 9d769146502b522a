use Rattle.std.proofs.Common.{Err, Some, ap, refl, rules, sym, ◌∙◌}
use Rattle.ftl_lsp.specs.Phases.{ending_of}
use Rattle.ftl_lsp.specs.Served.{exits, goes_on, has_no_frame, stops}
use Rattle.ftl_lsp.specs.Sessions.{session_of}
use Rattle.ftl_lsp.proofs.ServedLemmas.{begins_with_all_input, ends_before_first_message, ends_by_no_input}
use Rattle.ftl_lsp.proofs.ServedLemmas.{buffer_keeps_room}
use Rattle.ftl_lsp.proofs.sessions.serve.Goals as goal

pub returns-in_default-clause-ends : goal.returns-in_default-clause-ends
returns-in_default-clause-ends g c = ends_before_first_message _ _

pub loop-init : goal.loop-init
loop-init g c = record {
  room = search rules;
  serves = begins_with_all_input _ _ (session_of c.new-server.result) c.new-pending.result.items
      (record { phase = c.new-server.ensures.phase; none = c.new-server.ensures.none }) c.new-pending.ensures.items;
  goes_on = ap ending_of c.new-server.ensures.phase;
}

pub returns-in-Err-clause-ends : goal.returns-in-Err-clause-ends
returns-in-Err-clause-ends g c =
    stops (session_of c.loop.server) _ _ _ c.in-Err.ending c.loop.invariant.serves c.loop.invariant.goes_on
    c.in-Err.ensures.stops

pub returns-in-Some-clause-ends : goal.returns-in-Some-clause-ends
returns-in-Some-clause-ends g c =
    exits (session_of c.go_on-went_on.new.server) _ _ c.in-Some.ending
    (goes_on (session_of c.loop.server) _ _ _ _ _ c.loop.invariant.serves c.loop.invariant.goes_on
    c.in_default-went_on.ensures.step)
    (sym c.in-Some.ensures)

pub loop-preserved : goal.loop-preserved
loop-preserved g c = record {
  room = buffer_keeps_room _ _ _ c.loop.invariant.room (search rules);
  serves = goes_on (session_of c.loop.server) _ _ _ _ _ c.loop.invariant.serves c.loop.invariant.goes_on
      c.in_default-went_on.ensures.step;
  goes_on = sym c.in_default-ending.ensures;
}

pub returns-clause-ends : goal.returns-clause-ends
returns-clause-ends g c =
    stops (session_of c.loop.server) _ _ _ _ c.loop.invariant.serves c.loop.invariant.goes_on (has_no_frame _ _ tt refl)

pub returns-in-Err-clause-input : goal.returns-in-Err-clause-input
returns-in-Err-clause-input g c is = c.in-Err.ensures.input (ap Err is)

pub returns-in-Some-clause-input : goal.returns-in-Some-clause-input
returns-in-Some-clause-input g c is =
    absurd (ends_by_no_input c.go_on-went_on.new.server.phase (sym c.in-Some.ensures ∙ ap Some is))
