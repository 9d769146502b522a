use Rattle.std.proofs.Common.{◌≡◌, ◌++◌, take}
use Rattle.std.specs.List.{flat_map}
use Rattle.fluent_syntax_c.specs.Messages.{shown_byte}
use Rattle.fluent_syntax_c.proofs.messages.add_shown.Given as goal

abbrev pub invariant-loop-byte : goal.invariant-loop-byte
invariant-loop-byte l = l.lines.items ≡ l.fn.lines.items ++ flat_map shown_byte (take l.byte-index l.byte-items)
