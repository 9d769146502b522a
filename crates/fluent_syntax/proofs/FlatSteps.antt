-- One byte further in a text that is flat so far.
use Rattle.std.proofs.Common.{◌≡◌, ℕ, ◌+◌, List, nat_eq, arith, get_or}
use Rattle.std.proofs.lemmas.Bool.Decides.{nat_tests}
use Rattle.fluent_syntax.specs.Flat.{starts_line}

pub starts_line-next : (t : List ℕ) (i : ℕ) → nat_eq (get_or t i 0) 10 ≡ starts_line t (i + 1)
starts_line-next t i = grind (arith, nat_tests)
