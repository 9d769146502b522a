-- Sets of broken rules, joined.
use Rattle.std.proofs.Common.{◌≡◌, ◌==◌, ◌&&◌, ℕ, max, arith, Bool, true, false, refl}
use Rattle.std.proofs.lemmas.Bool.Decides.{nat_tests}

pub max_is_zero_if_both_are : (a b : ℕ) → (max a b == 0) ≡ (a == 0 && b == 0)
max_is_zero_if_both_are a b = grind (arith, nat_tests)

pub and_is_associative : (a b c : Bool) → ((a && b) && c) ≡ (a && (b && c))
and_is_associative true b c = refl
and_is_associative false b c = refl

pub and_with_true_is_same : (a : Bool) → (a && true) ≡ a
and_with_true_is_same true = refl
and_with_true_is_same false = refl
