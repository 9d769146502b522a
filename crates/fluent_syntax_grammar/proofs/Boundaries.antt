-- The two kinds of places: those of any text, and the character boundaries of a text in UTF-8.
use Rattle.std.proofs.Common.{ℕ, ◌<◌, List, get_or, arith}
use Rattle.std.specs.Str.{IsUtf8, IsCharBoundary}
use Rattle.std.proofs.lemmas.Option.{slice_get_within, get_or_from_slice_get}
use Rattle.std.proofs.lemmas.Str.{IsCharBoundary-end, IsCharBoundary-before_ascii, IsCharBoundary-after_ascii}
use Rattle.fluent_syntax_grammar.proofs.Cuts.{AsciiAt, AreBoundaries}
use Rattle.fluent_syntax_grammar.proofs.SoundStrings.{InText}

pub places_in_text_are_boundaries : (t : List ℕ) → AreBoundaries t (InText t)
places_in_text_are_boundaries t = record {
  in_text = λ i p. p;
  before = λ i a. let l = slice_get_within t i a.byte a.in_place in omega arith;
  after = λ i a. let l = slice_get_within t i a.byte a.in_place in omega arith;
  at_end = omega arith;
}

ascii_byte_is_small : (t : List ℕ) (i : ℕ) → AsciiAt t i → get_or t i 0 < 128
ascii_byte_is_small t i a = let e = get_or_from_slice_get t i a.byte 0 a.in_place in let s = a.ascii in omega arith

pub char_boundaries_are_boundaries : (t : List ℕ) → IsUtf8 t → AreBoundaries t (IsCharBoundary t)
char_boundaries_are_boundaries t u = record {
  in_text = λ i p. p.0;
  before = λ i a. IsCharBoundary-before_ascii t i (slice_get_within t i a.byte a.in_place) (ascii_byte_is_small t i a);
  after = λ i a. IsCharBoundary-after_ascii t i u (slice_get_within t i a.byte a.in_place) (ascii_byte_is_small t i a);
  at_end = IsCharBoundary-end t;
}
