use Rattle.ftl_files.specs.Files.{GoesOn, at_free_paths}
use Rattle.ftl_files.specs.Store.{AllUnchanged}
use Rattle.ftl_files.proofs.replacing.create_temporary.Given as goal

abbrev pub invariant-loop-number : goal.invariant-loop-number
invariant-loop-number g l = record {
  goes_on : GoesOn (g.F.FileSystem.files l.fn.system) (g.F.FileSystem.files l.system)
      (at_free_paths (g.F.FileSystem.files l.fn.system));
  untouched : AllUnchanged (g.F.FileSystem.files l.fn.system).bytes_at (g.F.FileSystem.files l.system).bytes_at;
}
