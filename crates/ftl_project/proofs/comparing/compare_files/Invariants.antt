use Rattle.std.proofs.Common.{take}
use Rattle.ftl.specs.Watched.{inner_of}
use Rattle.ftl_files.specs.Store.{AllUnchanged}
use Rattle.ftl_project.specs.Comparing.{ComparesEach}
use Rattle.ftl_project.proofs.comparing.compare_files.Given as goal

abbrev pub invariant-loop-pair : goal.invariant-loop-pair
invariant-loop-pair g l =
    let at = g.S.Store.bytes_at in
    let written = g.O.Write.contents in
    record {
      untouched : AllUnchanged (at l.fn.store) (at l.store);
      each : ComparesEach g.S.Store.fails l.fn.reading l.fn.options (at l.fn.store) (take l.pair-index l.pairs)
          l.fn.tally l.tally
          l.fn.share l.share (written (inner_of l.fn.streams.out.now)) (written (inner_of l.streams.out.now));
    }
