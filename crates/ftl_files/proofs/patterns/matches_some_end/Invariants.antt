use Rattle.std.proofs.Common.{◌≡◌, ◌+◌, length}
use Rattle.ftl_files.specs.Patterns.{name_matches, of_some_end}
use Rattle.ftl_files.proofs.patterns.matches_some_end.Given as goal

abbrev pub invariant-loop-more : goal.invariant-loop-more
invariant-loop-more l = record {
  same : of_some_end (name_matches l.wanted) l.left ≡ of_some_end (name_matches l.fn.pattern) l.fn.name;
}

abbrev pub decreases-loop-more : goal.decreases-loop-more
decreases-loop-more l = length l.wanted + length l.left
