-- Two truth values together.
use Rattle.std.proofs.Common.{◌≡◌, Bool, true, false, ◌&&◌, refl, inl, inr}
use Rattle.std.specs.Prelude.{◌⊎◌}

pub and_with_a_false_is_false : (a b : Bool) → ((a ≡ true) × (b ≡ false)) ⊎ (a ≡ false) → (a && b) ≡ false
and_with_a_false_is_false a b (inl e) = rw (e.0, e.1) refl
and_with_a_false_is_false a b (inr e) = rw e refl
