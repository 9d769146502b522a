-- What a test says of its parts, and its parts of it.
use Rattle.std.proofs.Common.{◌≡◌, ℕ, Bool, true, false, refl, inl, inr, arith}
use Rattle.std.proofs.lemmas.Bool.Decides.{nat_tests}
use Rattle.std.specs.Prelude.{◌==◌, ◌&&◌, ◌||◌, ◌⊎◌, not}
use Rattle.fluent_syntax_grammar.proofs.Facts.{same_by_test}
use Rattle.fluent_syntax_grammar.specs.Bytes.{is_letter, is_name_byte}

-- ---- true_and_true, or one of them

pub true_and_true : {x y : Bool} → x ≡ true → y ≡ true → (x && y) ≡ true
true_and_true e f = rw (e, f) refl

pub and_with_false_is_false : (x : Bool) → (x && false) ≡ false
and_with_false_is_false true = refl
and_with_false_is_false false = refl

pub and_is_false_by_left : (x y : Bool) → x ≡ false → (x && y) ≡ false
and_is_false_by_left x y e = rw e refl

pub and_is_false_by_right : (x y : Bool) → y ≡ false → (x && y) ≡ false
and_is_false_by_right x y e = rw e (and_with_false_is_false x)

pub or_with_true_is_true : (x : Bool) → (x || true) ≡ true
or_with_true_is_true true = refl
or_with_true_is_true false = refl

pub true_by_left : (x y : Bool) → x ≡ true → (x || y) ≡ true
true_by_left x y e = rw e refl

pub true_by_right : (x y : Bool) → y ≡ true → (x || y) ≡ true
true_by_right x y e = rw e (or_with_true_is_true x)

pub or_of_three_is_true_by_first : (x y z : Bool) → x ≡ true → (x || y || z) ≡ true
or_of_three_is_true_by_first x y z e = true_by_left (x || y) z (true_by_left x y e)

pub or_of_three_is_true_by_second : (x y z : Bool) → y ≡ true → (x || y || z) ≡ true
or_of_three_is_true_by_second x y z e = true_by_left (x || y) z (true_by_right x y e)

pub or_of_three_is_true_by_third : (x y z : Bool) → z ≡ true → (x || y || z) ≡ true
or_of_three_is_true_by_third x y z e = true_by_right (x || y) z e

pub or_has_true_side : (x y : Bool) → (x || y) ≡ true → (x ≡ true) ⊎ (y ≡ true)
or_has_true_side true y e = inl refl
or_has_true_side false y e = inr e

-- ---- neither, and not

pub or_is_false : (x y : Bool) → x ≡ false → y ≡ false → (x || y) ≡ false
or_is_false x y e f = rw (e, f) refl

pub false_or_left : (x y : Bool) → (x || y) ≡ false → x ≡ false
false_or_left true y e = cc
false_or_left false y e = refl

pub false_or_right : (x y : Bool) → (x || y) ≡ false → y ≡ false
false_or_right true y e = cc
false_or_right false y e = e

pub not_of_false_is_true : (x : Bool) → x ≡ false → not x ≡ true
not_of_false_is_true true e = cc
not_of_false_is_true false e = refl

pub not_true_is_false : (x : Bool) → not x ≡ true → x ≡ false
not_true_is_false true e = cc
not_true_is_false false e = refl

pub negated_right_is_false : (x y : Bool) → (x && not y) ≡ true → y ≡ false
negated_right_is_false true y e = not_true_is_false y e
negated_right_is_false false y e = cc

-- ---- bytes

pub letter_is_name_byte : (b : ℕ) → is_letter b ≡ true → is_name_byte b ≡ true
letter_is_name_byte b e = grind (arith, nat_tests)

bytes_differ_by_tests : (p : ℕ → Bool) (b c : ℕ) (x : Bool) → (b == c) ≡ x → p b ≡ true → p c ≡ false → x ≡ false
bytes_differ_by_tests p b c false e f g = refl
bytes_differ_by_tests p b c true e f g = let same = same_by_test b c e in cc

-- a byte that passes a test is not one that fails it
pub parted_by_test : (p : ℕ → Bool) (b c : ℕ) → p b ≡ true → p c ≡ false → (b == c) ≡ false
parted_by_test p b c f g = bytes_differ_by_tests p b c (b == c) refl f g
