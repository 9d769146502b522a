use Rattle.std.proofs.Common.{◌≡◌}
use Rattle.fluent_syntax_tests.proofs.surface.trees.put_back_one_by_one.Given as goal

-- they stay the entries of the text
abbrev pub invariant-loop : goal.invariant-loop
invariant-loop l = l.entries.source.bytes.now ≡ l.text
