-- The lines above an entry.
use Rattle.std.proofs.Common.{◌≡◌, ◌∙◌, ◌+◌, ◌<◌, ◌==◌, ◌++◌, ℕ, suc, Bool, true, false, List, [], ◌∷◌}
use Rattle.std.proofs.Common.{ap, arith, drop, get_or, inl, inr, length, refl, reverse, sym, take}
use Rattle.std.specs.Prelude.{All}
use Rattle.std.specs.List.{slice_split}
use Rattle.std.proofs.lemmas.Bool.{cases_Bool}
use Rattle.std.proofs.lemmas.List.{drop_more, length-append, reverse-append, take-append-drop}
use Rattle.std.proofs.lemmas.List.Splits.{slice_split_none}
use Rattle.ftl_files.specs.CommentRules.{IsLastLine, is_comment_line, line_words, lines_upwards, words_of}

abbrev is_lf : ℕ → Bool
is_lf byte = byte == 10

parts_have_first : (bytes : List ℕ) →
    (first : List ℕ) × (parts : List (List ℕ)) × (slice_split is_lf bytes ≡ first ∷ parts)
parts_have_first [] = ([], [], refl)
parts_have_first (byte ∷ bytes) =
    let rest = parts_have_first bytes in
    elim (cases_Bool (byte == 10)) [
      | inl is ↦ ([], slice_split is_lf bytes, rw is refl)
      | inr other ↦ (byte ∷ rest.0, rest.1, rw (other, rest.2) refl)
    ]

last_line_is_last_part : (before line : List ℕ) → All (λ byte. (byte == 10) ≡ false) line →
    slice_split is_lf (before ++ 10 ∷ line) ≡ slice_split is_lf before ++ (line ∷ [])
last_line_is_last_part [] line none = ap (λ parts. [] ∷ parts) (slice_split_none is_lf line none)
last_line_is_last_part (byte ∷ before) line none =
    let rest = last_line_is_last_part before line none in
    let parts = parts_have_first before in
    elim (cases_Bool (byte == 10)) [
      | inl is ↦ rw is (ap (λ parts. [] ∷ parts) rest)
      | inr other ↦ rw (other, rest, parts.2) refl
    ]

last_line_is_first_upwards : (text before line : List ℕ) → IsLastLine text before line →
    (rest : List (List ℕ)) × (lines_upwards text ≡ line ∷ rest) × (words_of rest ≡ words_of (lines_upwards before))
last_line_is_first_upwards text before line is =
    elim is.1 [
      | inl alone ↦
          rw (alone.0, alone.1) ([], ap reverse (slice_split_none is_lf line is.0), refl)
      | inr after ↦
          let upwards : lines_upwards text ≡ line ∷ lines_upwards before =
          ap lines_upwards after ∙ ap reverse (last_line_is_last_part before line is.0)
          ∙ reverse-append (slice_split is_lf before) (line ∷ []) in
          (lines_upwards before, upwards, refl)
    ]

pub words_above_last_line_are_of_text_before : (text before line : List ℕ) → IsLastLine text before line →
    words_of (drop 1 (lines_upwards text)) ≡ words_of (lines_upwards before)
words_above_last_line_are_of_text_before text before line is =
    let lines = last_line_is_first_upwards text before line is in
    ap (λ all. words_of (drop 1 all)) lines.1 ∙ lines.2

pub words_of_comment_line_are_first : (text before line : List ℕ) → IsLastLine text before line →
    is_comment_line line ≡ true → words_of (lines_upwards text) ≡ line_words line ++ words_of (lines_upwards before)
words_of_comment_line_are_first text before line is comment =
    let lines = last_line_is_first_upwards text before line is in
    let of_lines : words_of (line ∷ lines.0) ≡ line_words line ++ words_of lines.0 = rw comment refl in
    ap words_of lines.1 ∙ of_lines ∙ ap (λ words. line_words line ++ words) lines.2

pub other_line_ends_words : (text before line : List ℕ) → IsLastLine text before line →
    is_comment_line line ≡ false → words_of (lines_upwards text) ≡ []
other_line_ends_words text before line is other =
    let lines = last_line_is_first_upwards text before line is in
    let of_lines : words_of (line ∷ lines.0) ≡ [] = rw other refl in
    ap words_of lines.1 ∙ of_lines

pub text_before_comment_line_is_shorter : (text before line : List ℕ) → IsLastLine text before line →
    is_comment_line line ≡ true → length before < length text
text_before_comment_line_is_shorter text before [] is comment = cc
text_before_comment_line_is_shorter text before (byte ∷ line) is comment =
    elim is.1 [
      | inl alone ↦
          let none : length before ≡ 0 = ap length alone.0 in
          let all : length text ≡ suc (length line) = ap length alone.1 in
          omega arith
      | inr after ↦
          let all : length text ≡ length before + suc (suc (length line)) =
          ap length after ∙ length-append before (10 ∷ byte ∷ line) in
          omega arith
    ]

pub line_after_lf_is_last : (text : List ℕ) (n : ℕ) → n < length text → get_or text n 0 ≡ 10 →
    All (λ byte. (byte == 10) ≡ false) (drop (n + 1) text) → IsLastLine text (take n text) (drop (n + 1) text)
line_after_lf_is_last text n inside lf none =
    let rest = drop_more text n 0 inside ∙ ap (λ byte. byte ∷ drop (n + 1) text) lf in
    (none, inr (sym (take-append-drop n text) ∙ ap (λ rest. take n text ++ rest) rest))
