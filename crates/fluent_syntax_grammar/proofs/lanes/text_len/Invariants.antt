use Rattle.std.proofs.Common.{◌≡◌, ◌<◌, ◌-◌, length, ℕ, true}
use Rattle.fluent_syntax_grammar.specs.Lanes.{is_passed}
use Rattle.fluent_syntax_grammar.specs.Places.{has}
use Rattle.fluent_syntax_grammar.proofs.lanes.text_len.Given as goal

abbrev pub invariant-loop-start : goal.invariant-loop-start
invariant-loop-start l = record { each : (k : ℕ) → k < l.start → has l.bytes is_passed k ≡ true }

abbrev pub decreases-loop-start : goal.decreases-loop-start
decreases-loop-start l = length l.bytes - l.start
