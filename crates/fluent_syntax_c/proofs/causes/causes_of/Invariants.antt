use Rattle.std.proofs.Common.{◌≡◌, length}
use Rattle.fluent_syntax_c.proofs.causes.causes_of.Given as goal

abbrev pub invariant-loop-error : goal.invariant-loop-error
invariant-loop-error l = length l.causes.items ≡ l.error-index
