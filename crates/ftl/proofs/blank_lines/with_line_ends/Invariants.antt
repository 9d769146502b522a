use Rattle.std.proofs.Common.{◌≡◌, ◌++◌, ◌≤◌, drop, length}
use Rattle.ftl.specs.BlankLines.{with_line_ends}
use Rattle.ftl.proofs.blank_lines.with_line_ends.Given as goal

abbrev pub invariant-loop-at : goal.invariant-loop-at
invariant-loop-at l = record {
  next : l.next ≤ length l.places;
  rest :
      l.made.items ++ with_line_ends l.at (drop l.at l.bytes) (drop l.next l.places)
      ≡ with_line_ends 0 l.bytes l.places;
}
