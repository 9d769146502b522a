use Rattle.std.proofs.Common.{ap, refl, string_bytes}
use Rattle.ftl.specs.Watched.{inner_of}
use Rattle.ftl_project.specs.Faults.{IsFault}
use Rattle.ftl_project.specs.Runs.{ProcessesFile}
use Rattle.ftl_project.specs.Tally.{answered}
use Rattle.ftl_project.proofs.Counting.{Writes-report_text, consequence_holds_on_ok}
use Rattle.ftl_project.proofs.answering.answer_file.Goals as goal

pub returns-in-Ok-clause-counted : goal.returns-in-Ok-clause-counted
returns-in-Ok-clause-counted g c =
    let answer = c.in-Ok.answer in
    let found = c.in-Ok.ensures.answer in
    consequence_holds_on_ok c.put_answer.result (λ appends. (
      answered answer.errors 0 answer.has_problems,
      string_bytes answer.text,
      (found.0, found.1, found.2, refl),
      c.put_answer.ensures.counted,
      appends,
    )) c.put_answer.ensures.written

pub returns-in-Err-clause-counted : goal.returns-in-Err-clause-counted
returns-in-Err-clause-counted g c =
    let task = c.args.task.now in
    let bytes = g.S.Store.bytes_at c.args.store.now c.args.path.now in
    let written = g.O.Write.contents in
    let refuses = g.T.FileTask.refuses task in
    Writes-report_text (ProcessesFile g.S.Store.fails (g.T.FileTask.answers task) refuses c.args.path.now bytes)
    (IsFault g.S.Store.fails bytes refuses) c.report_fault.result c.in-Err.fault c.args.tally.now
    c.report_fault.new.tally
    (written (inner_of c.args.streams.now.out.now)) (written (inner_of c.report_fault.new.streams.out.now))
    (λ status fails. (fails, refl)) c.in-Err.ensures.fault c.report_fault.ensures.counted
    (ap (λ out. written (inner_of out.now)) c.report_fault.ensures.out)
