use Rattle.std.proofs.Common.{◌≡◌, ◌+◌, ◌≤◌, All, length}
use Rattle.ftl_files.specs.Reading.{IsOf, total}
use Rattle.ftl_files.specs.declared.limits.TheConstants.{BYTES_LIMIT, FILES_LIMIT}
use Rattle.ftl_files.proofs.reading.read_files.Given as goal

abbrev pub invariant-loop-path : goal.invariant-loop-path
invariant-loop-path g l = record {
  files : All (IsOf (g.F.Folders.bytes_at l.fn.files) l.fn.folder) l.found.items;
  few : length l.found.items ≤ FILES_LIMIT;
  bytes : l.left + total l.found.items ≡ BYTES_LIMIT;
}
