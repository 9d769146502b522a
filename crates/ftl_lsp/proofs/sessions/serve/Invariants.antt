use Rattle.std.proofs.Common.{◌≡◌, ◌<◌, None, length}
use Rattle.std.specs.Io.KnownBytes.{prepend_known}
use Rattle.ftl.specs.Watched.{inner_of}
use Rattle.ftl_lsp.specs.Phases.{ending_of}
use Rattle.ftl_lsp.specs.Served.{Serves}
use Rattle.ftl_lsp.specs.Sessions.{session_of}
use Rattle.ftl_lsp.proofs.sessions.serve.Given as goal

abbrev pub invariant-loop : goal.invariant-loop
invariant-loop g l = record {
  room : 0 < length l.block.items;
  serves : Serves (g.R.Read.remaining (inner_of l.fn.reader)) (g.W.Write.contents l.fn.writer) (session_of l.server)
      (prepend_known l.pending.items (g.R.Read.remaining (inner_of l.reader))) (g.W.Write.contents l.writer);
  goes_on : ending_of l.server.phase ≡ None;
}
