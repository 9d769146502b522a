-- Stretches found step by step: the longest run of places, the digits of an escape, and the end of junk.
use Rattle.std.proofs.Common.{◌≡◌, ℕ, zero, suc, ◌+◌, ◌<◌, ◌≤◌, List, length, Bool, true, false, refl, subst}
use Rattle.std.proofs.Common.{arith, inl, inr}
use Rattle.std.specs.Prelude.{slice_get, slice_range, ◌==◌}
use Rattle.std.proofs.lemmas.Bool.Decides.{nat_tests}
use Rattle.std.proofs.lemmas.Option.{slice_get_within}
use Rattle.std.specs.Char.{is_ascii_hexdigit}
use Rattle.fluent_syntax_tree.specs.Kind.{InvalidUnicodeEscapeSequence}
use Rattle.fluent_syntax_grammar.specs.Places.{LongestRun, has, starts_line}
use Rattle.fluent_syntax_grammar.specs.Construct.{Outcome, Read, Refused}
use Rattle.fluent_syntax_grammar.specs.Strings.{HexDigits, hex_digits, all_there, too_few, after_character}
use Rattle.fluent_syntax_grammar.specs.Tiling.{is_entry_byte, starts_entry, JunkEnd}
use Rattle.fluent_syntax_grammar.proofs.Facts.{byte_exists, same_by_test, at_most_is_same_or_next_on, and_gives_right}

-- ---- the longest run

pub run_ends_here : (test : ℕ → Bool) (i : ℕ) → test i ≡ false → LongestRun test i i
run_ends_here test i e = record { forward = omega arith; each = λ k a b. absurd (omega arith); longest = e }

run_has_each : (test : ℕ → Bool) (i j k : ℕ) → test i ≡ true → LongestRun test (i + 1) j → i ≤ k → k < j → test k ≡ true
run_has_each test i j k e s a b =
    elim (at_most_is_same_or_next_on i k a) [ inl same ↦ subst (λ k. test k ≡ true) same e | inr l ↦ s.each k l b ]

pub run_goes_on : (test : ℕ → Bool) (i j : ℕ) → test i ≡ true → LongestRun test (i + 1) j → LongestRun test i j
run_goes_on test i j e s = let f = s.forward in
    record { forward = omega arith; each = λ k a b. run_has_each test i j k e s a b; longest = s.longest }

unequal_le_is_less : (a b : ℕ) → (a == b) ≡ false → a ≤ b → a < b
unequal_le_is_less a b e l = grind (arith, nat_tests)

module _ (t : List ℕ) where
  -- ---- the digits of an escape

  hex_ends_here : (i w : ℕ) → has t is_ascii_hexdigit i ≡ false → HexDigits t i w i
  hex_ends_here i w e =
      record { forward = omega arith; most = omega arith; each = λ j a b. absurd (omega arith); longest = λ l. e }

  each_place_of_hex_digits_is_hex_digit : (i w k j : ℕ) → has t is_ascii_hexdigit i ≡ true → HexDigits t (i + 1) w k →
      i ≤ j → j < k → has t is_ascii_hexdigit j ≡ true
  each_place_of_hex_digits_is_hex_digit i w k j e h a b =
      elim (at_most_is_same_or_next_on i j a) [
        | inl same ↦
            subst (λ j. has t is_ascii_hexdigit j ≡ true) same e
        | inr l ↦ h.each j l b
      ]

  hex_goes_on : (i w k : ℕ) → has t is_ascii_hexdigit i ≡ true → HexDigits t (i + 1) w k → HexDigits t i (suc w) k
  hex_goes_on i w k e h =
      let f = h.forward in
      let m = h.most in
      record {
        forward = omega arith;
        most = omega arith;
        each = λ j a b. each_place_of_hex_digits_is_hex_digit i w k j e h a b;
        longest = λ l. h.longest (omega arith);
      }

  hex_digits_end_exists_by_first : (w i : ℕ) (b : Bool) → has t is_ascii_hexdigit i ≡ b →
      (k : ℕ) × HexDigits t (i + 1) w k → (k : ℕ) × HexDigits t i (suc w) k
  hex_digits_end_exists_by_first w i true e more = (more.0, hex_goes_on i w more.0 e more.1)
  hex_digits_end_exists_by_first w i false e more = (i, hex_ends_here i (suc w) e)

  hex_digits_end_exists : (w i : ℕ) → (k : ℕ) × HexDigits t i w k
  hex_digits_end_exists zero i = (
    i,
    record {
      forward = omega arith;
      most = omega arith;
      each = λ j a b. absurd (omega arith);
      longest = λ l. absurd (omega arith);
    },
  )
  hex_digits_end_exists (suc w) i =
      hex_digits_end_exists_by_first w i (has t is_ascii_hexdigit i) refl (hex_digits_end_exists w (i + 1))

  hex_digits_have_outcome_by_count : (w i k : ℕ) (b : Bool) → (k == i + w) ≡ b → HexDigits t i w k →
      (o : Outcome (Unit {0})) × hex_digits t w i o
  hex_digits_have_outcome_by_count w i k true e h = (Read tt k, all_there h (same_by_test k (i + w) e))
  hex_digits_have_outcome_by_count w i k false e h =
      let m = h.most in (
        Refused (InvalidUnicodeEscapeSequence (slice_range t i (after_character t k))) k (k + 1),
        too_few h (unequal_le_is_less k (i + w) e m) refl,
      )

  -- so many digits are there, or the first that is not refuses
  pub hex_digits_have_outcome : (w i : ℕ) → (o : Outcome (Unit {0})) × hex_digits t w i o
  hex_digits_have_outcome w i =
      let h = hex_digits_end_exists w i in hex_digits_have_outcome_by_count w i h.0 (h.0 == i + w) refl h.1

  -- ---- the end of junk

  pub junk_ends_at_entry : (k : ℕ) → starts_entry t k ≡ true → JunkEnd t k k
  junk_ends_at_entry k e =
      let b = byte_exists is_entry_byte (slice_get t k) (and_gives_right (starts_line t k) (has t is_entry_byte k) e) in
      let l = slice_get_within t k b.0 b.1 in
      record {
        forward = omega arith;
        nearest = λ m a b. absurd (omega arith);
        stop = inl e;
        in_text = omega arith;
      }

  pub junk_ends_with_text : (k : ℕ) → k ≡ length t → JunkEnd t k k
  junk_ends_with_text k e =
      record {
        forward = omega arith;
        nearest = λ m a b. absurd (omega arith);
        stop = inr e;
        in_text = omega arith;
      }

  pub junk_goes_on : (k j : ℕ) → starts_entry t k ≡ false → JunkEnd t (k + 1) j → JunkEnd t k j
  junk_goes_on k j e x =
      let f = x.forward in
      record {
        forward = omega arith;
        nearest =
            λ m a b. elim (at_most_is_same_or_next_on k m a)
            [ inl same ↦ subst (λ m. starts_entry t m ≡ false) same e | inr l ↦ x.nearest m l b ];
        stop = x.stop;
        in_text = x.in_text;
      }
