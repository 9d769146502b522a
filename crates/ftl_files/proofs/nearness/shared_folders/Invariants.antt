use Rattle.std.proofs.Common.{◌≡◌, ◌+◌, ◌≤◌, length}
use Rattle.ftl_files.specs.Nearness.{shared_folders}
use Rattle.ftl_files.proofs.nearness.shared_folders.Given as goal

abbrev pub invariant-loop-some : goal.invariant-loop-some
invariant-loop-some l = record {
  shared : l.shared + shared_folders l.some l.other ≡ shared_folders l.fn.first l.fn.second;
  few : l.shared + length l.some ≤ length l.fn.first;
}

abbrev pub decreases-loop-some : goal.decreases-loop-some
decreases-loop-some l = length l.some
