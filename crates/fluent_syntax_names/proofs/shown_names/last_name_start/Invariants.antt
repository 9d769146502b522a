use Rattle.std.proofs.Common.{◌≡◌, ◌+◌, ◌≤◌, length, take}
use Rattle.std.specs.List.{suffix_len}
use Rattle.fluent_syntax_names.specs.ShownNames.{is_name_byte}
use Rattle.fluent_syntax_names.proofs.shown_names.last_name_start.Given as goal

abbrev pub invariant-loop-start : goal.invariant-loop-start
invariant-loop-start l = record {
  within : l.start ≤ length l.bytes;
  passed : length l.bytes + suffix_len is_name_byte (take l.start l.bytes) ≡ l.start + suffix_len is_name_byte l.bytes;
}

abbrev pub decreases-loop-start : goal.decreases-loop-start
decreases-loop-start l = l.start
