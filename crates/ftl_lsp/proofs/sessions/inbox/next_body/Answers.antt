use Rattle.ftl_lsp.proofs.InboxLemmas.{framed_bytes_are_taken, refused_framing_refuses_input}
use Rattle.ftl_lsp.proofs.sessions.inbox.next_body.Goals as goal

pub returns-in-Frame-clause-frame : goal.returns-in-Frame-clause-frame
returns-in-Frame-clause-frame g c =
    framed_bytes_are_taken _ _ c.as_slice.result.now c.loop-start.pending.items c.take_body.new.pending.items
    c.in_ok-body-in-Frame.body.items c.in-Frame.start c.in-Frame.end c.loop-start.invariant.same
    c.as_slice.ensures.value c.in-Frame.ensures c.in_ok-body-in-Frame.ensures.body c.in_ok-body-in-Frame.ensures.rest

pub returns-in-Refused-clause-ends : goal.returns-in-Refused-clause-ends
returns-in-Refused-clause-ends g c =
    refused_framing_refuses_input _ _ c.as_slice.result.now c.loop-start.pending.items c.in-Refused.fault
    c.loop-start.invariant.same
    c.as_slice.ensures.value c.in-Refused.ensures
