-- The bytes of a text, one by one, and what each becomes in a JSON string.
use Rattle.std.proofs.Common.{◌≡◌, ℕ, zero, suc, ◌+◌, ◌≤◌, ◌/◌, ◌%◌, ◌<◌, ◌==◌, cond, nat_lt, ◌||◌, List, [], ◌∷◌, ◌++◌}
use Rattle.std.proofs.Common.{length, take, drop, get_or, true, false, sym, ap, subst, ◌∙◌, arith, append_assoc}
use Rattle.std.proofs.lemmas.Bool.{or_parts, not-true, eqb-false, lt-ltb, ltb-false}
use Rattle.std.proofs.lemmas.Bool.Decides.{nat_tests}
use Rattle.std.proofs.lemmas.List.{take_more, drop_more}
use Rattle.json.specs.Print.{escape_letter, escape_byte, escape}
use Rattle.std.specs.Char.{digit_char}
use Rattle.json.specs.Run.{is_plain}
use Rattle.json.specs.Written.{PlainBetween}
use Rattle.fluent_syntax_json.specs.Writing.{IsPlainBefore}
use Rattle.json.proofs.Printed.Strings.{escape_byte_plain}

-- a byte that is escaped is ASCII
pub escaped_is_ascii : (b : ℕ) → is_plain b ≡ false → b < 128
escaped_is_ascii b h = grind (arith, nat_tests)

letterless_escape_is_control : (b : ℕ) → is_plain b ≡ false → escape_letter b ≡ 0 → b < 32
letterless_escape_is_control b escaped none = grind (arith, nat_tests)

-- a control character that has no short escape
pub control_byte_is_escaped_in_hex : (b : ℕ) → is_plain b ≡ false → escape_letter b ≡ 0
    → escape_byte b ≡ 92 ∷ 117 ∷ 48 ∷ 48 ∷ digit_char (b / 16) ∷ digit_char (b % 16) ∷ []
unfolding escape_byte
control_byte_is_escaped_in_hex b escaped none =
    let small = letterless_escape_is_control b escaped none in
    let long = 92 ∷ 117 ∷ 48 ∷ 48 ∷ digit_char (b / 16) ∷ digit_char (b % 16) ∷ [] in
    ap (λ letter. cond (nat_lt 0 letter) (92 ∷ letter ∷ []) (cond (nat_lt b 32) long (b ∷ []))) none
    ∙ ap (λ t. cond t long (b ∷ [])) (lt-ltb b 32 small)

plain_byte_is_not_escaped : (b : ℕ) → is_plain b ≡ true → escape_byte b ≡ b ∷ []
plain_byte_is_not_escaped b h =
    let none = or_parts ((b == 34) || (b == 92)) _ (not-true _ h) in
    let tests = or_parts (b == 34) _ none.0 in
    escape_byte_plain b (eqb-false b 34 tests.0) (eqb-false b 92 tests.1) (ltb-false b 32 none.1)

-- The bytes before the place represent themselves.
module _ (bs : List ℕ) where
  pub plain_bytes_extend_by_plain_byte : (end : ℕ) → end < length bs → is_plain (get_or bs end 0) ≡ true
      → IsPlainBefore bs end → IsPlainBefore bs (end + 1)
  plain_bytes_extend_by_plain_byte end within plain before =
      let b = get_or bs end 0 in
      let rest = escape (drop (end + 1) bs) in
      before ∙ ap (λ t. take end bs ++ escape t) (drop_more bs end 0 within)
      ∙ ap (λ t. take end bs ++ (t ++ rest)) (plain_byte_is_not_escaped b plain)
      ∙ sym (append_assoc (take end bs) (b ∷ []) rest)
      ∙ ap (λ t. t ++ rest) (sym (take_more bs end 0 within))

  pub plain_block_extends_plain_beginning : (start n : ℕ) → start + n ≤ length bs → PlainBetween bs start (start + n) →
      IsPlainBefore bs start
      → IsPlainBefore bs (start + n)
  plain_block_extends_plain_beginning start zero within plain before =
      let same : start ≡ start + 0 = omega arith in
      subst (IsPlainBefore bs) same before
  plain_block_extends_plain_beginning start (suc n) within plain before =
      let next : start + n + 1 ≡ start + suc n = omega arith in
      let shorter =
      plain_block_extends_plain_beginning start n (omega arith) (λ k from to. plain k from (omega arith)) before in
      let last = plain (start + n) (omega arith) (omega arith) in
      subst (IsPlainBefore bs) next (plain_bytes_extend_by_plain_byte (start + n) (omega arith) last shorter)
