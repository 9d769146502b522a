use Rattle.std.proofs.Common.{◌≡◌}
use Rattle.examples.proofs.lint.print_errors.Given as goal

abbrev pub invariant-loop-error : goal.invariant-loop-error
invariant-loop-error g l = l.lines ≡ l.text
