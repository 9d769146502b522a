-- Where the byte of a place is looked for.
use Rattle.std.proofs.Common.{◌≡◌, ℕ, suc, ◌+◌, ◌<◌, ◌≤◌, List, length, slice_index, nat_le}
use Rattle.std.proofs.Common.{◌==◌, ◌&&◌, ◌||◌, Bool, true, false, not, ◌⊎◌, refl, sym, ap, ◌∙◌, subst, arith, inl, inr}
use Rattle.std.proofs.lemmas.Str.{IsCharBoundary-end}
use Rattle.fluent_syntax_grammar.specs.Bytes.{lf, cr}
use Rattle.ftl_lsp.specs.Positions.{ends_line, utf16_units, next_line, next_character, line_at, character_at}
use Rattle.ftl_lsp.specs.Positions.{position_at}
use Rattle.ftl_lsp.specs.Offsets.{BeginsLine, is_break, is_reached, stops_at, IsByteOf, IsInLine}
use Rattle.ftl_lsp.specs.Offsets.{IsPastLastLine}
use Rattle.ftl_lsp.specs.declared.documents.positions.Position.{Position}

-- The place is not passed before the byte.
pub record IsAhead (t : List ℕ) (position : Position) (byte : ℕ) : Type 0 where
  pub line : line_at t byte ≤ position.line
  pub column : line_at t byte ≡ position.line → character_at t byte ≤ position.character

abbrev in_line : (line character : ℕ) → Position
in_line line character = record { line = line; character = character }

-- the place where a line begins
pub line_start_is_place : (t : List ℕ) (number at : ℕ) → BeginsLine t number at → in_line number 0 ≡ position_at t at
line_start_is_place t number at begins =
    ap (λ n. in_line n 0) (sym begins.line) ∙ ap (λ n. in_line (line_at t at) n) (sym begins.character)

-- it is not passed before its line's first byte
pub line_is_ahead : (t : List ℕ) (position : Position) (at : ℕ) → BeginsLine t position.line at → IsAhead t position at
line_is_ahead t position at begins =
    record { line = omega (arith, begins.line); column = λ e. omega (arith, begins.character) }

-- a line ends with a byte at which its text ends
line_break_test_means_break : (is_lf is_cr before_lf : Bool) → (is_lf || (is_cr && not before_lf)) ≡ true →
    (is_lf || is_cr) ≡ true
line_break_test_means_break true is_cr before_lf e = refl
line_break_test_means_break false true before_lf e = refl
line_break_test_means_break false false before_lf e = e

-- the first half of what is so, and the second
both_of_and_are_true : (a b : Bool) → (a && b) ≡ true → (a ≡ true) × (b ≡ true)
both_of_and_are_true true true e = (refl, refl)
both_of_and_are_true true false e = absurd cc
both_of_and_are_true false b e = absurd cc

-- where bytes that go on with a character count nothing, a place is not reached at one of them
stop_inside_char_is_at_lead_byte : (b character column : ℕ) → character ≤ column → stops_at b character column ≡ true →
    128 ≤ b → 192 ≤ b
stop_inside_char_is_at_lead_byte b character column l e h = grind (arith, l, e, h)

-- a line's text doesn't end where a place is not reached
break_byte_stops_column : (b character column : ℕ) → stops_at b character column ≡ false → is_break b ≡ true → ⊥
break_byte_stops_column b character column e f = grind (arith, e, f)

-- where a place is not reached before a byte, what begins with it doesn't reach beyond the column
byte_that_stops_not_fits_column : (b character column : ℕ) → stops_at b character column ≡ false →
    character + utf16_units b ≤ column
byte_that_stops_not_fits_column b character column e = grind (arith, e)

module _ (t : List ℕ) (position : Position) (at : ℕ) where
  ends_at_break : ends_line t at ≡ true → is_break (slice_index t at) ≡ true
  ends_at_break e =
      line_break_test_means_break (slice_index t at == lf) (slice_index t at == cr) (slice_index t (at + 1) == lf) e

  module _ (ahead : IsAhead t position at) where
    -- where the place is reached before a byte, it is there
    pub there : at < length t → is_reached (slice_index t at) (position_at t at) position ≡ true
        → IsByteOf t position at
    there l e =
        let h = both_of_and_are_true (line_at t at == position.line) (stops_at (slice_index t at)
        (character_at t at) position.character) e in
        let line : line_at t at ≡ position.line = grind (arith, h.0) in
        record {
          boundary = (
            omega arith,
            λ m. stop_inside_char_is_at_lead_byte (slice_index t at) (character_at t at) position.character
                (ahead.column line) h.1,
          );
          there = inl (record { line = line; column = ahead.column line; reached = inr h.1 });
        }

    -- where it is not reached before a byte, it is not passed after it
    module _ (goes_on : is_reached (slice_index t at) (position_at t at) position ≡ false) where
      not_stopped : line_at t at ≡ position.line →
          stops_at (slice_index t at) (character_at t at) position.character ≡ false
      not_stopped e = grind (arith, goes_on, e)

      beyond : (ends : Bool) → ends_line t at ≡ ends →
          (next_line ends (line_at t at) ≤ position.line) × (next_line ends (line_at t at) ≡ position.line →
          next_character ends (utf16_units (slice_index t at)) (character_at t at) ≤ position.character)
      beyond true e =
          let low : line_at t at ≤ position.line = ahead.line in
          let other : line_at t at ≡ position.line → ⊥ = λ same.
          break_byte_stops_column (slice_index t at) (character_at t at) position.character (not_stopped same)
          (ends_at_break e) in
          (grind (arith, low, other), λ same. omega arith)
      beyond false e = (
        ahead.line,
        λ same.
            byte_that_stops_not_fits_column (slice_index t at) (character_at t at) position.character
            (not_stopped same),
      )

      pub still_ahead : IsAhead t position (at + 1)
      still_ahead =
          let h = beyond (ends_line t at) refl in
          let next : suc at ≡ at + 1 = omega arith in
          subst (IsAhead t position) next (record { line = h.0; column = h.1 })

-- a place that is not passed with the text is at its end
pub is_at_text_end : (t : List ℕ) (position : Position) → IsAhead t position (length t) → IsByteOf t position (length t)
is_at_text_end t position ahead = record {
  boundary = IsCharBoundary-end t;
  there = text_end_is_in_line_or_past_last (nat_le position.line (line_at t (length t))) refl;
}
  where
    text_end_is_in_line_or_past_last : (b : Bool) → nat_le position.line (line_at t (length t)) ≡ b →
        IsInLine t position (length t) ⊎ IsPastLastLine t position (length t)
    text_end_is_in_line_or_past_last true e =
        let low : line_at t (length t) ≤ position.line = ahead.line in
        let line : line_at t (length t) ≡ position.line = grind (arith, e, low) in
        inl (record { line = line; column = ahead.column line; reached = inl refl })
    text_end_is_in_line_or_past_last false e = inr (record { line = grind (arith, e); end = refl })
