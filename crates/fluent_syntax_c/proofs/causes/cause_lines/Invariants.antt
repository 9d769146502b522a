use Rattle.std.proofs.Common.{◌≡◌, take}
use Rattle.std.specs.List.{flat_map}
use Rattle.fluent_syntax_c.specs.Causes.{cause_line}
use Rattle.fluent_syntax_c.proofs.causes.cause_lines.Given as goal

abbrev pub invariant-loop-cause : goal.invariant-loop-cause
invariant-loop-cause l = l.lines.items ≡ flat_map cause_line (take l.cause-index l.cause-items)
