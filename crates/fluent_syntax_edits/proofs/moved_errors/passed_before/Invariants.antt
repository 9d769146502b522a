use Rattle.std.proofs.Common.{◌≡◌, ◌-◌, length}
use Rattle.fluent_syntax_edits.specs.Passed.{MoveFrom}
use Rattle.fluent_syntax_edits.proofs.moved_errors.passed_before.Given as goal

abbrev pub invariant-loop-passed : goal.invariant-loop-passed
invariant-loop-passed l = record {
  place : l.passed.end ≡ l.end;
  from : MoveFrom l.replacements l.passed;
}

abbrev pub decreases-loop-passed : goal.decreases-loop-passed
decreases-loop-passed l = length l.replacements - l.passed.count
