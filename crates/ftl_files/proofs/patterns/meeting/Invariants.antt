use Rattle.std.proofs.Common.{◌≡◌, length}
use Rattle.ftl_files.specs.Patterns.{meeting}
use Rattle.ftl_files.proofs.patterns.meeting.Given as goal

abbrev pub invariant-loop-wanted : goal.invariant-loop-wanted
invariant-loop-wanted l = record { met : meeting l.wanted l.left ≡ meeting l.fn.pattern l.fn.name }

abbrev pub decreases-loop-wanted : goal.decreases-loop-wanted
decreases-loop-wanted l = length l.wanted
