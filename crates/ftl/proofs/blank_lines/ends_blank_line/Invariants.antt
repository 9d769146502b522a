use Rattle.std.proofs.Common.{◌≡◌, ◌≤◌, ◌-◌}
use Rattle.ftl.specs.BlankLines.{is_blank_to}
use Rattle.ftl.proofs.blank_lines.ends_blank_line.Given as goal

abbrev pub invariant-loop-at : goal.invariant-loop-at
invariant-loop-at l = record {
  few : l.at ≤ l.place - 1;
  rest : is_blank_to l.text (l.place - 1) ≡ is_blank_to l.text l.at;
}

abbrev pub decreases-loop-at : goal.decreases-loop-at
decreases-loop-at l = l.at
