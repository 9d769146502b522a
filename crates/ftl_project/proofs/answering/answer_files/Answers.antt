use Rattle.std.proofs.Common.{◌∙◌, arith}
use Rattle.ftl.specs.Watched.{inner_of}
use Rattle.ftl_project.specs.Runs.{ProcessesFile}
use Rattle.ftl_project.proofs.Counting.{WritesSo-all, WritesSo-more}
use Rattle.ftl_project.proofs.answering.answer_files.Goals as goal

pub loop-file-preserved : goal.loop-file-preserved
loop-file-preserved g c =
    let at = g.S.Store.bytes_at in
    let written = g.O.Write.contents in
    let task = c.args.task.now in
    record {
      untouched = λ path. c.answer_file.ensures.untouched path ∙ c.loop-file.invariant.untouched path;
      each = WritesSo-more
          (ProcessesFile g.S.Store.fails (g.T.FileTask.answers task) (g.T.FileTask.refuses task))
          (at c.args.store.now) c.args.files.now (at c.loop-file.store) c.loop-file.file-index c.file-item.result
          c.as_str.result.now c.args.tally.now c.loop-file.tally c.answer_file.new.tally
          (written (inner_of c.args.streams.now.out.now)) (written (inner_of c.loop-file.streams.out.now))
          (written (inner_of c.answer_file.new.streams.out.now)) (omega arith) c.file-item.is c.as_str.ensures.value
          (c.loop-file.invariant.untouched c.as_str.result.now) c.loop-file.invariant.each
          c.in_ok-answer_file.ensures.counted;
    }

pub returns-clause-each : goal.returns-clause-each
returns-clause-each g c =
    let at = g.S.Store.bytes_at in
    let written = g.O.Write.contents in
    let task = c.args.task.now in
    WritesSo-all (ProcessesFile g.S.Store.fails (g.T.FileTask.answers task) (g.T.FileTask.refuses task))
    (at c.args.store.now) c.args.files.now c.loop-file.file-index c.args.tally.now c.loop-file.tally
    (written (inner_of c.args.streams.now.out.now)) (written (inner_of c.loop-file.streams.out.now)) (omega arith)
    c.loop-file.invariant.each
