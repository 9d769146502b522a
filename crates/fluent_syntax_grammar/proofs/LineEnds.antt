-- What is in blank blocks and on lines.
use Rattle.std.proofs.Common.{◌≡◌, ℕ, ◌+◌, ◌-◌, ◌<◌, ◌≤◌, List, length, Some, None, Bool, true, false, refl, sym, subst}
use Rattle.std.proofs.Common.{arith, inl, inr, Option}
use Rattle.std.specs.Prelude.{slice_get, ◌==◌, ◌||◌, ◌&&◌, ◌⊎◌, if◌then◌else◌}
use Rattle.std.proofs.lemmas.Bool.Decides.{nat_tests}
use Rattle.std.proofs.lemmas.Option.{slice_get_past}
use Rattle.fluent_syntax_grammar.specs.Bytes.{lf, cr, space, is_space, is_letter}
use Rattle.fluent_syntax_grammar.specs.Places.{has, has_byte, after_eol, starts_line, BlankBlock, no_line, line}
use Rattle.fluent_syntax_grammar.specs.Places.{has_eol}
use Rattle.fluent_syntax_grammar.specs.Tiling.{is_entry_byte}
use Rattle.fluent_syntax_grammar.proofs.Cuts.{eol_is_lf_or_crlf}
use Rattle.fluent_syntax_grammar.proofs.Facts.{tests_exclude, tests_imply, holds-none, lt_or_le}
use Rattle.fluent_syntax_grammar.proofs.Tests.{true_by_right, or_is_false, and_is_false_by_left}

-- spaces and the bytes of line ends
abbrev pub is_blank_byte : ℕ → Bool
is_blank_byte b = b == space || b == lf || b == cr

space_is_blank_byte : (b : ℕ) → is_space b ≡ true → is_blank_byte b ≡ true
space_is_blank_byte b e = grind (arith, nat_tests)

lf_is_blank_byte : (b : ℕ) → (b == lf) ≡ true → is_blank_byte b ≡ true
lf_is_blank_byte b e = grind (arith, nat_tests)

cr_is_blank_byte : (b : ℕ) → (b == cr) ≡ true → is_blank_byte b ≡ true
cr_is_blank_byte b e = grind (arith, nat_tests)

blank_byte_begins_no_entry : (b : ℕ) → is_blank_byte b ≡ true → is_entry_byte b ≡ false
blank_byte_begins_no_entry b e = grind (arith, nat_tests)

entry_byte_is_no_space : (b : ℕ) → is_entry_byte b ≡ true → is_space b ≡ false
entry_byte_is_no_space b e = grind (arith, nat_tests)

entry_byte_is_no_lf : (b : ℕ) → is_entry_byte b ≡ true → (b == lf) ≡ false
entry_byte_is_no_lf b e = grind (arith, nat_tests)

entry_byte_is_no_cr : (b : ℕ) → is_entry_byte b ≡ true → (b == cr) ≡ false
entry_byte_is_no_cr b e = grind (arith, nat_tests)

pub letter_is_entry_byte : (b : ℕ) → is_letter b ≡ true → is_entry_byte b ≡ true
letter_is_entry_byte b e = grind (arith, nat_tests)

pub hash_is_entry_byte : (b : ℕ) → (b == 35) ≡ true → is_entry_byte b ≡ true
hash_is_entry_byte b e = grind (arith, nat_tests)

place_in_eol_cases : (i k m : ℕ) → k ≤ i → i < m → (m ≡ k + 1) ⊎ (m ≡ k + 2) → (i ≡ k) ⊎ ((i ≡ k + 1) × (m ≡ k + 2))
place_in_eol_cases i k m a b (inl e) = inl (omega arith)
place_in_eol_cases i k m a b (inr e) = grind arith

-- where there is neither an LF nor a CRLF there is no line end, and conversely
pub no_bytes_no_eol : (a b : Bool) (x y : Option ℕ) → (a || b) ≡ false → (if a then x else if b then y else None) ≡ None
no_bytes_no_eol true b x y e = cc
no_bytes_no_eol false true x y e = cc
no_bytes_no_eol false false x y e = refl

no_eol_no_bytes : (a b : Bool) (m n : ℕ) → (if a then Some m else if b then Some n else None) ≡ None → (a || b) ≡ false
no_eol_no_bytes true b m n e = cc
no_eol_no_bytes false true m n e = cc
no_eol_no_bytes false false m n e = refl

module _ (t : List ℕ) where
  pub no_eol_end_means_no_eol : (i : ℕ) → after_eol t i ≡ None → has_eol t i ≡ false
  no_eol_end_means_no_eol i e =
      no_eol_no_bytes (has_byte t lf i) (has_byte t cr i && has_byte t lf (i + 1)) (i + 1) (i + 2) e

  bytes_of_eol_are_blank : (k m i : ℕ) → after_eol t k ≡ Some m → k ≤ i → i < m → has t is_blank_byte i ≡ true
  bytes_of_eol_are_blank k m i e a b = elim (eol_is_lf_or_crlf t k m e) [
    | inl x ↦ (let same : k ≡ i = omega arith in
        subst (λ i. has t is_blank_byte i ≡ true) same
        (tests_imply (λ c. c == lf) is_blank_byte (slice_get t k) lf_is_blank_byte x.0))
    | inr x ↦ elim (place_in_eol_cases i k m a b (inr x.2)) [
      | inl same ↦ subst (λ i. has t is_blank_byte i ≡ true) (sym same)
          (tests_imply (λ c. c == cr) is_blank_byte (slice_get t k) cr_is_blank_byte x.0)
      | inr y ↦ subst (λ i. has t is_blank_byte i ≡ true) (sym y.0)
          (tests_imply (λ c. c == lf) is_blank_byte (slice_get t (k + 1)) lf_is_blank_byte x.1)
    ]
  ]

  -- in a blank block there are spaces and line ends
  bytes_of_block_are_blank : (i j k : ℕ) → BlankBlock t i j → i ≤ k → k < j → has t is_blank_byte k ≡ true
  bytes_of_block_are_blank i j k (no_line a b) l m = absurd (omega arith)
  bytes_of_block_are_blank i j k (line {k = n} {m = p} a b c) l m = elim (lt_or_le k n) [
    | inl x ↦ tests_imply is_space is_blank_byte (slice_get t k) space_is_blank_byte (a.each k l x)
    | inr x ↦ elim (lt_or_le k p) [
      | inl y ↦ bytes_of_eol_are_blank n p k b x y
      | inr y ↦
          bytes_of_block_are_blank p j k c y m
    ]
  ]

  pub blank_block_has_no_entry_byte : (i j k : ℕ) → BlankBlock t i j → i ≤ k → k < j → has t is_entry_byte k ≡ false
  blank_block_has_no_entry_byte i j k b l m =
      tests_exclude is_blank_byte is_entry_byte (slice_get t k) blank_byte_begins_no_entry
      (bytes_of_block_are_blank i j k b l m)

  block_is_empty_off_blank_bytes : (i : ℕ) → has t is_space i ≡ false → has_byte t lf i ≡ false →
      has_byte t cr i ≡ false → BlankBlock t i i
  block_is_empty_off_blank_bytes i e f g =
      no_line (record { forward = omega arith; each = λ k a b. absurd (omega arith); longest = e })
      (no_bytes_no_eol (has_byte t lf i) (has_byte t cr i && has_byte t lf (i + 1)) _ _
      (or_is_false (has_byte t lf i) _ f (and_is_false_by_left (has_byte t cr i) _ g)))

  -- where an entry may begin, and at the text's end, the blank block is empty
  pub block_at_entry_byte_is_empty : (i : ℕ) → has t is_entry_byte i ≡ true → BlankBlock t i i
  block_at_entry_byte_is_empty i e =
      block_is_empty_off_blank_bytes i (tests_exclude is_entry_byte is_space (slice_get t i) entry_byte_is_no_space e)
      (tests_exclude is_entry_byte (λ b. b == lf) (slice_get t i) entry_byte_is_no_lf e)
      (tests_exclude is_entry_byte (λ b. b == cr) (slice_get t i) entry_byte_is_no_cr e)

  pub end_of_text_has_no_byte : (p : ℕ → Bool) → has t p (length t) ≡ false
  end_of_text_has_no_byte p = holds-none p (slice_get t (length t)) (slice_get_past t (length t) (omega arith))

  pub block_at_end : BlankBlock t (length t) (length t)
  block_at_end = block_is_empty_off_blank_bytes (length t) (end_of_text_has_no_byte is_space)
      (end_of_text_has_no_byte (λ b. b == lf)) (end_of_text_has_no_byte (λ b. b == cr))

  -- ---- lines

  -- the start of a line, or the text's end
  abbrev pub IsLineStart : ℕ → Type 0
  IsLineStart i = (starts_line t i ≡ true) ⊎ (i ≡ length t)

  line_starts_after_lf : (i : ℕ) → has_byte t lf i ≡ true → starts_line t (i + 1) ≡ true
  line_starts_after_lf i e =
      true_by_right (i + 1 == 0) (has_byte t lf ((i + 1) - 1))
      (let same : i ≡ (i + 1) - 1 = omega arith in subst (λ k. has_byte t lf k ≡ true) same e)

  pub line_starts_after_eol : (k m : ℕ) → after_eol t k ≡ Some m → starts_line t m ≡ true
  line_starts_after_eol k m e = elim (eol_is_lf_or_crlf t k m e) [
    | inl x ↦ subst (λ m. starts_line t m ≡ true) (sym x.1) (line_starts_after_lf k x.0)
    | inr x ↦ (let same : (k + 1) + 1 ≡ m = omega arith in
        subst (λ m. starts_line t m ≡ true) same (line_starts_after_lf (k + 1) x.1))
  ]

  -- a blank block leads from the start of a line to the start of a line
  pub block_from_line_start_ends_at_line_start : (i j : ℕ) → starts_line t i ≡ true → BlankBlock t i j →
      starts_line t j ≡ true
  block_from_line_start_ends_at_line_start i j e (no_line a b) = e
  block_from_line_start_ends_at_line_start i j e (line {k = k} {m = m} a b c) =
      block_from_line_start_ends_at_line_start m j (line_starts_after_eol k m b) c
