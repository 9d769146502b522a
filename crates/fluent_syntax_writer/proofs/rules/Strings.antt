-- One byte more of a number and of a string.
use Rattle.std.proofs.Common.{◌≡◌, ◌≢◌, ℕ, zero, suc, ◌-◌, List, ◌∷◌, Bool, true, false, ◌||◌, ◌==◌, refl, ap, arith}
use Rattle.std.proofs.lemmas.Bool.Decides.{nat_tests}
use Rattle.std.specs.Char.{is_ascii_hexdigit}
use Rattle.fluent_syntax_grammar.specs.Bytes.{is_digit}
use Rattle.fluent_syntax_grammar.specs.Spellings.{is_number_rest, is_units}

pub or_with_false_is_same : (b : Bool) → (b || false) ≡ b
or_with_false_is_same true = refl
or_with_false_is_same false = refl

digit_is_not_full_stop : (b : ℕ) → is_digit b ≡ true → (b == 46) ≡ false
digit_is_not_full_stop b digit = grind (arith, nat_tests)

pub number_rest-digit : (b : ℕ) (bs : List ℕ) → is_digit b ≡ true → is_number_rest (b ∷ bs) ≡ is_number_rest bs
number_rest-digit b bs digit =
    let other = digit_is_not_full_stop b digit in
    rw (digit, other) (or_with_false_is_same (is_number_rest bs))

pub is_units-digit : (n b : ℕ) (bs : List ℕ) → n ≢ 0 → is_ascii_hexdigit b ≡ true
    → is_units n (b ∷ bs) ≡ is_units (n - 1) bs
is_units-digit zero b bs some digit = absurd (some refl)
is_units-digit (suc n) b bs some digit =
    let less : n ≡ suc n - 1 = omega arith in
    rw digit (ap (λ k. is_units k bs) less)
