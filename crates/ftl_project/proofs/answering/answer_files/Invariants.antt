use Rattle.ftl.specs.Watched.{inner_of}
use Rattle.ftl_files.specs.Store.{AllUnchanged}
use Rattle.ftl_project.specs.Runs.{ProcessesFile}
use Rattle.ftl_project.proofs.Counting.{WritesSo}
use Rattle.ftl_project.proofs.answering.answer_files.Given as goal

abbrev pub invariant-loop-file : goal.invariant-loop-file
invariant-loop-file g l =
    let at = g.S.Store.bytes_at in
    let written = g.O.Write.contents in
    record {
      untouched : AllUnchanged (at l.fn.store) (at l.store);
      each : WritesSo (ProcessesFile g.S.Store.fails (g.T.FileTask.answers l.task) (g.T.FileTask.refuses
          l.task))
          (at l.fn.store) l.files l.file-index l.fn.tally l.tally (written (inner_of l.fn.streams.out.now))
          (written (inner_of l.streams.out.now));
    }
