use Rattle.std.proofs.Common.{◌≡◌, ◌≤◌, ◌+◌}
use Rattle.fluent_syntax_edits.specs.Changes.{line_ends_before}
use Rattle.fluent_syntax_edits.proofs.edit.line_ends_before.Given as goal

abbrev pub invariant-loop-at : goal.invariant-loop-at
invariant-loop-at l = record {
  few : l.count + l.at ≤ l.place;
  rest : line_ends_before l.bytes l.place ≡ l.count + line_ends_before l.bytes l.at;
}

abbrev pub decreases-loop-at : goal.decreases-loop-at
decreases-loop-at l = l.at
