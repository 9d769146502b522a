-- Places at which words of the grammar begin and end, for any kind of place that is closed under ASCII bytes.
use Rattle.std.proofs.Common.{◌≡◌, ℕ, zero, suc, ◌+◌, ◌<◌, ◌≤◌, List, length, Option, Some, None, Bool, true, false}
use Rattle.std.proofs.Common.{◌||◌, ◌&&◌, ◌==◌, not, refl, sym, ◌∙◌, subst, arith, inl, inr}
use Rattle.std.specs.Prelude.{slice_get, is_some, ◌⊎◌, if◌then◌else◌}
use Rattle.std.proofs.lemmas.Option.{slice_get_within, slice_get_cases}
use Rattle.std.proofs.lemmas.Bool.Decides.{nat_tests}
use Rattle.fluent_syntax_grammar.specs.Bytes.{lf, cr, space, is_space, is_digit, is_name_byte}
use Rattle.std.specs.Char.{is_ascii_hexdigit}
use Rattle.fluent_syntax_grammar.specs.Places.{holds, LongestRun, ByteRun, has, has_byte, has_eol, after_eol}
use Rattle.fluent_syntax_grammar.specs.Places.{is_line_place, is_blank_place, Blank, BlankBlock, no_line, line}
use Rattle.fluent_syntax_grammar.specs.Lines.{is_run_place}
use Rattle.fluent_syntax_grammar.proofs.Facts.{byte_exists, longest_run_ends_in_bounds, one_and_one_on_is_two_on}
use Rattle.fluent_syntax_grammar.proofs.Facts.{plus_one_is_successor, byte_that_passes_is_in_text, some_is_not_none}
use Rattle.fluent_syntax_grammar.proofs.Tests.{or_has_true_side}

-- there is an ASCII byte
pub record AsciiAt (t : List ℕ) (i : ℕ) : Type 0 where
  pub byte : ℕ
  pub in_place : slice_get t i ≡ Some byte
  pub ascii : byte < 128

-- Places of a kind: they lie in the text; before and after each ASCII byte is one, and the text's end is one.
pub record AreBoundaries (t : List ℕ) (P : ℕ → Type 0) : Type 0 where
  pub in_text : (i : ℕ) → P i → i ≤ length t
  pub before : (i : ℕ) → AsciiAt t i → P i
  pub after : (i : ℕ) → AsciiAt t i → P (i + 1)
  pub at_end : P (length t)

-- ---- bytes

-- every byte that passes the test is ASCII
pub record IsAsciiSet (test : ℕ → Bool) : Type 0 where
  pub small : (b : ℕ) → test b ≡ true → b < 128

pub byte_of_ascii_set_is_ascii : (t : List ℕ) (test : ℕ → Bool) (i : ℕ) → IsAsciiSet test → has t test i ≡ true →
    AsciiAt t i
byte_of_ascii_set_is_ascii t test i s e = let f = byte_exists test (slice_get t i) e in
    record { byte = f.0; in_place = f.1; ascii = s.small f.0 f.2 }

byte_equal_to_ascii_is_ascii : (c : ℕ) → c < 128 → (b : ℕ) → (b == c) ≡ true → b < 128
byte_equal_to_ascii_is_ascii c l b e = grind (arith, nat_tests)

pub byte_below_128_is_ascii : (t : List ℕ) (c i : ℕ) → c < 128 → has_byte t c i ≡ true → AsciiAt t i
byte_below_128_is_ascii t c i l e =
    byte_of_ascii_set_is_ascii t (λ b. b == c) i (record { small = byte_equal_to_ascii_is_ascii c l }) e

pub space_is_ascii_set : IsAsciiSet is_space
space_is_ascii_set = record { small = λ b e. grind (arith, nat_tests) }

pub digit_is_ascii : IsAsciiSet is_digit
digit_is_ascii = record { small = λ b e. grind (arith, nat_tests) }

pub name_set_is_ascii : IsAsciiSet is_name_byte
name_set_is_ascii = record { small = λ b e. grind (arith, nat_tests) }

pub hex_digit_is_ascii : IsAsciiSet is_ascii_hexdigit
hex_digit_is_ascii = record { small = λ b e. grind (arith, nat_tests) }

-- ---- line ends

eol_by_tests_is_lf_or_crlf : (a b c : Bool) (i k : ℕ) →
    (if a then Some (i + 1) else if b && c then Some (i + 2) else None) ≡ Some k →
    ((a ≡ true) × (k ≡ i + 1)) ⊎ ((b ≡ true) × (c ≡ true) × (k ≡ i + 2))
eol_by_tests_is_lf_or_crlf true b c i k e = inl (refl, cc)
eol_by_tests_is_lf_or_crlf false true true i k e = inr (refl, refl, cc)
eol_by_tests_is_lf_or_crlf false true false i k e = cc
eol_by_tests_is_lf_or_crlf false false c i k e = cc

-- a line end is an LF, or a CR before an LF
pub eol_is_lf_or_crlf : (t : List ℕ) (i k : ℕ) → after_eol t i ≡ Some k →
    ((has_byte t lf i ≡ true) × (k ≡ i + 1)) ⊎ ((has_byte t cr i ≡ true) × (has_byte t lf (i + 1) ≡ true) × (k ≡ i + 2))
eol_is_lf_or_crlf t i k e = eol_by_tests_is_lf_or_crlf (has_byte t lf i) (has_byte t cr i) (has_byte t lf (i + 1)) i k e

-- and it ends within the text
pub line_end_is_in_text : (t : List ℕ) (i k : ℕ) → after_eol t i ≡ Some k → k ≤ length t
line_end_is_in_text t i k e = elim (eol_is_lf_or_crlf t i k e) [
  | inl x ↦ (let l = byte_that_passes_is_in_text (λ b. b == lf) t i x.0 in let f = x.1 in omega arith)
  | inr x ↦ (let l = byte_that_passes_is_in_text (λ b. b == lf) t (i + 1) x.1 in let f = x.2 in omega arith)
]

first_or_second_is_true : (a b c : Bool) → (a || b && c) ≡ true → (a ≡ true) ⊎ (b ≡ true)
first_or_second_is_true true b c e = inl refl
first_or_second_is_true false true c e = inr refl
first_or_second_is_true false false c e = cc

eol_is_ascii : (t : List ℕ) (i : ℕ) → has_eol t i ≡ true → AsciiAt t i
eol_is_ascii t i e =
    elim (first_or_second_is_true (has_byte t lf i) (has_byte t cr i) (has_byte t lf (i + 1)) e)
    [ inl x ↦ byte_below_128_is_ascii t lf i (omega arith) x | inr x ↦ byte_below_128_is_ascii t cr i (omega arith) x ]

pub blank_is_ascii : (t : List ℕ) (i : ℕ) → is_blank_place t i ≡ true → AsciiAt t i
blank_is_ascii t i e =
    elim (or_has_true_side (has_byte t space i) (has_eol t i) e)
    [ inl x ↦ byte_below_128_is_ascii t space i (omega arith) x | inr x ↦ eol_is_ascii t i x ]

-- ---- words

place_is_in_text : (t : List ℕ) (k : ℕ) (o : Option ℕ) (e : Bool) → slice_get t k ≡ o → (is_some o && not e) ≡ true →
    k < length t
place_is_in_text t k None e g h = cc
place_is_in_text t k (Some b) e g h = slice_get_within t k b g

pub line_place_is_inside_text : (t : List ℕ) (k : ℕ) → is_line_place t k ≡ true → k < length t
line_place_is_inside_text t k h = place_is_in_text t k (slice_get t k) (has_eol t k) refl h

line_stop_is_end_or_eol : (o : Option ℕ) (e : Bool) → (is_some o && not e) ≡ false → (o ≡ None) ⊎ (e ≡ true)
line_stop_is_end_or_eol None e h = inl refl
line_stop_is_end_or_eol (Some b) true h = inr refl
line_stop_is_end_or_eol (Some b) false h = cc

line_stops_at_end_or_ascii_byte : (t : List ℕ) (j : ℕ) → is_line_place t j ≡ false →
    (slice_get t j ≡ None) ⊎ AsciiAt t j
line_stops_at_end_or_ascii_byte t j h =
    elim (line_stop_is_end_or_eol (slice_get t j) (has_eol t j) h) [ inl e ↦ inl e | inr e ↦ inr (eol_is_ascii t j e) ]

abbrev is_run_byte : ℕ → Bool
is_run_byte b = not (b == lf || b == 123 || b == 125)

run_byte_is_inside_text : (t : List ℕ) (k : ℕ) (o : Option ℕ) (e : Bool) → slice_get t k ≡ o →
    (holds is_run_byte o && not e) ≡ true → k < length t
run_byte_is_inside_text t k None e g h = cc
run_byte_is_inside_text t k (Some b) e g h = slice_get_within t k b g

pub run_place_is_inside_text : (t : List ℕ) (k : ℕ) → is_run_place t k ≡ true → k < length t
run_place_is_inside_text t k h = run_byte_is_inside_text t k (slice_get t k) (has_eol t k) refl h

and_true_keeps_false : (a : Bool) → (a && true) ≡ false → a ≡ false
and_true_keeps_false true h = h
and_true_keeps_false false h = refl

byte_that_ends_run_is_ascii : (b : ℕ) → is_run_byte b ≡ false → b < 128
byte_that_ends_run_is_ascii b e = grind (arith, nat_tests)

run_stops_at_none_or_other : (o : Option ℕ) (e : Bool) → (holds is_run_byte o && not e) ≡ false → (o ≡ None) ⊎
    ((b : ℕ) × (o ≡ Some b) × (is_run_byte b ≡ false)) ⊎ (e ≡ true)
run_stops_at_none_or_other None e h = inl refl
run_stops_at_none_or_other (Some b) true h = inr (inr refl)
run_stops_at_none_or_other (Some b) false h = inr (inl (b, refl, (and_true_keeps_false (is_run_byte b) h)))

run_ends_at_end_or_ascii : (t : List ℕ) (j : ℕ) → is_run_place t j ≡ false → (slice_get t j ≡ None) ⊎ AsciiAt t j
run_ends_at_end_or_ascii t j h = elim (run_stops_at_none_or_other (slice_get t j) (has_eol t j) h) [
  | inl e ↦ inl e
  | inr (inl x) ↦ inr (record { byte = x.0; in_place = x.1; ascii = byte_that_ends_run_is_ascii x.0 x.2 })
  | inr (inr e) ↦ inr (eol_is_ascii t j e)
]

pub eol_goes_on : (t : List ℕ) (i k : ℕ) → after_eol t i ≡ Some k → i < k
eol_goes_on t i k e = elim (eol_is_lf_or_crlf t i k e) [ inl x ↦ omega arith | inr x ↦ omega arith ]

pub block_goes_on : (t : List ℕ) (i j : ℕ) → BlankBlock t i j → i ≤ j
block_goes_on t i j (no_line a b) = omega arith
block_goes_on t i j (line {k = k} {m = m} a b c) = let f = a.forward in let g = eol_goes_on t k m b in
    let h = block_goes_on t m j c in omega arith

module _ (t : List ℕ) (P : ℕ → Type 0) (cuts : AreBoundaries t P) where
  -- every place of a stretch over ASCII bytes
  pub longest_run_places : (test : ℕ → Bool) → ((k : ℕ) → test k ≡ true → AsciiAt t k) → (i j : ℕ) → P i →
      LongestRun test i j → (k : ℕ) → i ≤ k → k ≤ j → P k
  longest_run_places test ascii i j p s zero a b = let e : i ≡ 0 = omega arith in subst P e p
  longest_run_places test ascii i j p s (suc k) a b =
      let split : (i ≤ k) ⊎ (i ≡ suc k) = grind arith in
      elim split [
        | inl l ↦ subst P (plus_one_is_successor k) (cuts.after k (ascii k (s.each k l (omega arith))))
        | inr e ↦ subst P e p
      ]

  pub byte_run_ends_at_boundary : (set : ℕ → Bool) → IsAsciiSet set → (i j : ℕ) → P i → ByteRun t set i j → P j
  byte_run_ends_at_boundary set s i j p w =
      longest_run_places (has t set) (λ k e. byte_of_ascii_set_is_ascii t set k s e) i j p w j w.forward (omega arith)

  pub blank_ends_at_boundary : (i j : ℕ) → P i → Blank t i j → P j
  blank_ends_at_boundary i j p w =
      longest_run_places (is_blank_place t) (λ k e. blank_is_ascii t k e) i j p w j w.forward (omega arith)

  pub eol_ends_at_boundary : (i k : ℕ) → after_eol t i ≡ Some k → P k
  eol_ends_at_boundary i k e =
      elim (eol_is_lf_or_crlf t i k e) [
        | inl x ↦ subst P (sym x.1) (cuts.after i (byte_below_128_is_ascii t lf i (omega arith) x.0))
        | inr x ↦ subst P (one_and_one_on_is_two_on i ∙ sym x.2)
            (cuts.after (i + 1) (byte_below_128_is_ascii t lf (i + 1) (omega arith) x.1))
      ]

  pub end_of_block_is_place : (i j : ℕ) → P i → BlankBlock t i j → P j
  end_of_block_is_place i j p (no_line a b) = p
  end_of_block_is_place i j p (line {m = m} a b c) = end_of_block_is_place m j (eol_ends_at_boundary _ m b) c

  stop_in_text_is_boundary : (j : ℕ) → j ≤ length t → (slice_get t j ≡ None) ⊎ AsciiAt t j → P j
  stop_in_text_is_boundary j l x =
      elim x [
        | inl e ↦
            (let c = (slice_get_cases t j).1 in
            elim c [
              | inl y ↦ absurd (some_is_not_none y.2 e)
              | inr y ↦ (let same : length t ≡ j = omega arith in subst P same cuts.at_end)
            ])
        | inr a ↦ cuts.before j a
      ]

  -- the rest of a line stops at a line end or at the text's end
  pub line_run_ends_at_boundary : (i j : ℕ) → P i → LongestRun (is_line_place t) i j → P j
  line_run_ends_at_boundary i j p s =
      stop_in_text_is_boundary j
      (longest_run_ends_in_bounds (length t) (is_line_place t) (line_place_is_inside_text t) i j (cuts.in_text i p) s)
      (line_stops_at_end_or_ascii_byte t j s.longest)

  -- a run stops at a line end, a brace or the text's end
  pub text_run_ends_at_boundary : (i j : ℕ) → P i → LongestRun (is_run_place t) i j → P j
  text_run_ends_at_boundary i j p s =
      stop_in_text_is_boundary j
      (longest_run_ends_in_bounds (length t) (is_run_place t) (run_place_is_inside_text t) i j (cuts.in_text i p) s)
      (run_ends_at_end_or_ascii t j s.longest)
