use Rattle.std.proofs.Common.{◌≡◌, ◌≤◌, ◌+◌, None, drop}
use Rattle.ftl_project.specs.Linting.{with_problems_after}
use Rattle.ftl_project.proofs.linting.with_problems.Given as goal

-- so many files, and those that what is left adds
abbrev pub invariant-loop-finding : goal.invariant-loop-finding
invariant-loop-finding l = record {
  few : l.number ≤ l.finding-index;
  left :
      l.number + with_problems_after l.levels l.last (drop l.finding-index l.found)
      ≡ with_problems_after l.levels None l.found;
}
