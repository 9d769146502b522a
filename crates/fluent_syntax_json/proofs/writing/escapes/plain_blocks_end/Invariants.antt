use Rattle.std.proofs.Common.{◌-◌, ◌≤◌, length}
use Rattle.fluent_syntax_json.specs.Writing.{IsPlainBefore}
use Rattle.fluent_syntax_json.proofs.writing.escapes.plain_blocks_end.Given as goal

abbrev pub invariant-loop-end : goal.invariant-loop-end
invariant-loop-end l = record { within : l.end ≤ length l.bytes; plain : IsPlainBefore l.bytes l.end }

abbrev pub decreases-loop-end : goal.decreases-loop-end
decreases-loop-end l = length l.bytes - l.end
