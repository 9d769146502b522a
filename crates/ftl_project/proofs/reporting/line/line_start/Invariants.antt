use Rattle.std.proofs.Common.{◌≡◌, ◌+◌, ◌≤◌, length, take}
use Rattle.std.specs.List.{suffix_len}
use Rattle.ftl_project.specs.Excerpt.{is_in_line}
use Rattle.ftl_project.proofs.reporting.line.line_start.Given as goal

abbrev pub invariant-loop-start : goal.invariant-loop-start
invariant-loop-start l = record {
  within : l.start ≤ length l.text;
  passed : length l.text + suffix_len is_in_line (take l.start l.text) ≡ l.start + suffix_len is_in_line l.text;
}

abbrev pub decreases-loop-start : goal.decreases-loop-start
decreases-loop-start l = l.start
