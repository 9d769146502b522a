use Rattle.std.proofs.Common.{◌≡◌, ◌==◌, ◌≤◌, drop, false, length}
use Rattle.std.specs.Prelude.{All}
use Rattle.ftl_files.proofs.comment_rules.last_line.Given as goal

abbrev pub invariant-loop-start : goal.invariant-loop-start
invariant-loop-start l = record {
  within : l.start ≤ length l.text;
  passed : All (λ byte. (byte == 10) ≡ false) (drop l.start l.text);
}

abbrev pub decreases-loop-start : goal.decreases-loop-start
decreases-loop-start l = l.start
