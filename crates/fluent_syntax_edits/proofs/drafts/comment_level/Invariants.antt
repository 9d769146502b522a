use Rattle.std.proofs.Common.{◌≤◌, ◌-◌, length}
use Rattle.fluent_syntax_edits.proofs.drafts.comment_level.Given as goal

abbrev pub invariant-loop-level : goal.invariant-loop-level
invariant-loop-level l = l.level ≤ length l.line

abbrev pub decreases-loop-level : goal.decreases-loop-level
decreases-loop-level l = length l.line - l.level
