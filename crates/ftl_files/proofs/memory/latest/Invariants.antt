use Rattle.std.proofs.Common.{◌≡◌, drop}
use Rattle.ftl_files.specs.Memory.{bytes_at}
use Rattle.ftl_files.proofs.memory.latest.Given as goal

abbrev pub invariant-loop-change : goal.invariant-loop-change
invariant-loop-change l = bytes_at (drop l.change-index l.changes) l.path ≡ bytes_at l.changes l.path
