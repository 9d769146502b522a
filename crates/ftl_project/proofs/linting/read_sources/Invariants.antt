use Rattle.std.proofs.Common.{◌≡◌, take}
use Rattle.ftl_files.specs.Store.{AllUnchanged}
use Rattle.ftl_project.specs.Linting.{Reads}
use Rattle.ftl_project.proofs.linting.read_sources.Given as goal

abbrev pub invariant-loop-file : goal.invariant-loop-file
invariant-loop-file g l =
    let at = g.S.Store.bytes_at in
    record {
      untouched : AllUnchanged (at l.fn.store) (at l.store);
      sources : Reads g.S.Store.fails (at l.fn.store) (take l.file-index l.files) l.sources.items l.fn.tally l.tally;
      out : l.streams.out ≡ l.fn.streams.out;
    }
