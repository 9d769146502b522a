use Rattle.ftl_project.specs.Rewriting.{AllReach}
use Rattle.ftl_project.proofs.FormattingEach.{FormatsSo}
use Rattle.ftl_project.proofs.formatting.write_files.Given as goal

abbrev pub invariant-loop-file : goal.invariant-loop-file
invariant-loop-file g l =
    let at = g.S.Store.bytes_at in
    record {
      reaches : AllReach l.options (at l.fn.store) (at l.store);
      each : FormatsSo g.S.Store.fails l.options l.files l.file-index (at l.fn.store) (at l.store) l.fn.tally l.tally;
    }
