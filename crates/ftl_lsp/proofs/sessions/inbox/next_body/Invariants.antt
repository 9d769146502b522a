use Rattle.std.proofs.Common.{◌^◌, ◌-◌, ◌<◌, vec_len, length}
use Rattle.std.specs.Io.KnownBytes.{Keeps, prepend_known}
use Rattle.ftl.specs.Watched.{inner_of}
use Rattle.ftl_lsp.proofs.sessions.inbox.next_body.Given as goal

abbrev pub invariant-loop-start : goal.invariant-loop-start
invariant-loop-start g l = record {
  room : 0 < length l.block;
  same : Keeps (prepend_known l.fn.pending.items (g.R.Read.remaining (inner_of l.fn.reader)))
      (prepend_known l.pending.items (g.R.Read.remaining (inner_of l.reader)));
}

abbrev pub decreases-loop-start : goal.decreases-loop-start
decreases-loop-start g l = 2 ^ 63 - vec_len l.pending
