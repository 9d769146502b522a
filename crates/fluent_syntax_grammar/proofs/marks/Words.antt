-- From marks to bytes: how names, numbers and strings end, and literals at each place of a line.
use Rattle.std.proofs.Common.{◌≡◌, ℕ, zero, suc, List, [], ◌∷◌, ◌++◌, Option, Some, None, Bool, true, false, refl, ◌∙◌}
use Rattle.std.proofs.Common.{ap, append_assoc, inl, inr}
use Rattle.std.specs.Prelude.{◌==◌, ◌||◌, ◌&&◌, not}
use Rattle.std.specs.List.{list_all}
use Rattle.std.specs.Char.{is_ascii_hexdigit}
use Rattle.fluent_syntax_tree.specs.Tree.{KeyTree, name_key, number_key, ExpressionTree, select, inline}
use Rattle.fluent_syntax_grammar.specs.Bytes.{lf, cr, is_digit}
use Rattle.fluent_syntax_grammar.specs.Written.{Text, Mark, literal, last_of, is_last, text_after, indent, has_lf}
use Rattle.fluent_syntax_grammar.specs.Written.{key_text}
use Rattle.fluent_syntax_grammar.specs.Spellings.{is_name, is_digits, is_number_rest, is_unsigned, is_number, is_units}
use Rattle.fluent_syntax_grammar.specs.Spellings.{is_escape, is_string}
use Rattle.fluent_syntax_grammar.proofs.Facts.{and_gives_left, and_gives_right}
use Rattle.fluent_syntax_grammar.proofs.Tests.{true_and_true, or_has_true_side, parted_by_test}
use Rattle.fluent_syntax_grammar.proofs.forward.Words.{name_has_name_bytes}
use Rattle.fluent_syntax_grammar.proofs.forward.Strings.{none_of_three_is_true}
use Rattle.fluent_syntax_grammar.proofs.forward.Selects.{key_obeys'}
use Rattle.fluent_syntax_grammar.proofs.marks.WrittenBytes.{line_indent, closing_indent}
use Rattle.fluent_syntax_grammar.proofs.marks.LastBytes.{Plain, none_is_plain, literal_is_written, literal_is_indented}
use Rattle.fluent_syntax_grammar.proofs.marks.LastBytes.{last_of_append_is_of_second, name_bytes_are_plain}
use Rattle.fluent_syntax_grammar.proofs.Tests.{false_or_left, false_or_right, true_by_left, true_by_right}

-- ---- how words end

last_is_plain : (p : ℕ → Bool) → p lf ≡ false → p cr ≡ false → (bs : Text) (c : ℕ) → p c ≡ true → list_all p bs ≡ true →
    Plain (last_of (Some c) bs)
last_is_plain p n m [] c e f = record { no_lf = parted_by_test p c lf e n; no_cr = parted_by_test p c cr e m }
last_is_plain p n m (b ∷ bs) c e f =
    last_is_plain p n m bs b (and_gives_left (p b) (list_all p bs) f) (and_gives_right (p b) (list_all p bs) f)

bytes_of_plain_set_end_plainly : (p : ℕ → Bool) → p lf ≡ false → p cr ≡ false → (bs : Text) → list_all p bs ≡ true →
    Plain (last_of None bs)
bytes_of_plain_set_end_plainly p n m [] e = none_is_plain
bytes_of_plain_set_end_plainly p n m (b ∷ bs) e =
    last_is_plain p n m bs b (and_gives_left (p b) (list_all p bs) e) (and_gives_right (p b) (list_all p bs) e)

-- a byte of a number
abbrev is_number_byte : ℕ → Bool
is_number_byte b = is_digit b || (b == 46 || b == 45)

digits_are_number_bytes : (v : Text) → list_all is_digit v ≡ true → list_all is_number_byte v ≡ true
digits_are_number_bytes [] e = refl
digits_are_number_bytes (b ∷ v) e =
    true_and_true (true_by_left (is_digit b) (b == 46 || b == 45) (and_gives_left (is_digit b) (list_all is_digit v) e))
    (digits_are_number_bytes v (and_gives_right (is_digit b) (list_all is_digit v) e))

fraction_has_number_bytes : (v : Text) → is_digits v ≡ true → list_all is_number_byte v ≡ true
fraction_has_number_bytes [] e = refl
fraction_has_number_bytes (b ∷ v) e = digits_are_number_bytes (b ∷ v) e

number_rest_has_number_bytes : (v : Text) → is_number_rest v ≡ true → list_all is_number_byte v ≡ true
number_rest_has_number_bytes [] e = refl
number_rest_has_number_bytes (b ∷ v) e =
    elim (or_has_true_side (is_digit b && is_number_rest v) (b == 46 && is_digits v) e) [
      | inl f ↦
          true_and_true (true_by_left (is_digit b) (b == 46 || b == 45)
          (and_gives_left (is_digit b) (is_number_rest v) f))
          (number_rest_has_number_bytes v (and_gives_right (is_digit b) (is_number_rest v) f))
      | inr f ↦ true_and_true
          (true_by_right (is_digit b) (b == 46 || b == 45) (true_by_left (b == 46) (b == 45)
          (and_gives_left (b == 46) (is_digits v) f)))
          (fraction_has_number_bytes v (and_gives_right (b == 46) (is_digits v) f))
    ]

unsigned_has_number_bytes : (v : Text) → is_unsigned v ≡ true → list_all is_number_byte v ≡ true
unsigned_has_number_bytes [] e = cc
unsigned_has_number_bytes (b ∷ v) e =
    true_and_true (true_by_left (is_digit b) (b == 46 || b == 45) (and_gives_left (is_digit b) (is_number_rest v) e))
    (number_rest_has_number_bytes v (and_gives_right (is_digit b) (is_number_rest v) e))

number_has_number_bytes : (v : Text) → is_number v ≡ true → list_all is_number_byte v ≡ true
number_has_number_bytes [] e = cc
number_has_number_bytes (b ∷ v) e = elim (or_has_true_side (b == 45 && is_unsigned v) (is_unsigned (b ∷ v)) e) [
  | inl f ↦ true_and_true
      (true_by_right (is_digit b) (b == 46 || b == 45)
      (true_by_right (b == 46) (b == 45) (and_gives_left (b == 45) (is_unsigned v) f)))
      (unsigned_has_number_bytes v (and_gives_right (b == 45) (is_unsigned v) f))
  | inr f ↦ unsigned_has_number_bytes (b ∷ v) f
]

pub number_ends_plain : (v : Text) → is_number v ≡ true → Plain (last_of None v)
number_ends_plain v e = bytes_of_plain_set_end_plainly is_number_byte refl refl v (number_has_number_bytes v e)

pub name_ends_plainly : (v : Text) → is_name v ≡ true → Plain (last_of None v)
name_ends_plainly v e = name_bytes_are_plain v (name_has_name_bytes v e)

pub key_ends_in_plain_byte : (key : KeyTree Text) → key_obeys' key ≡ true → Plain (last_of None (key_text key))
key_ends_in_plain_byte (name_key v) e = name_ends_plainly v e
key_ends_in_plain_byte (number_key v) e = number_ends_plain v e

-- ---- a string holds no LF

has_lf-cons : (b : ℕ) (bs : Text) → (b == lf) ≡ false → has_lf bs ≡ false → has_lf (b ∷ bs) ≡ false
has_lf-cons b bs e f = rw (e, f) refl

mutual
  string_units_have_no_lf : (v : Text) (n : ℕ) → is_units n v ≡ true → has_lf v ≡ false
  string_units_have_no_lf [] n e = refl
  string_units_have_no_lf (b ∷ bs) (suc n) e =
      has_lf-cons b bs
      (parted_by_test is_ascii_hexdigit b lf (and_gives_left (is_ascii_hexdigit b) (is_units n bs) e) refl)
      (string_units_have_no_lf bs n (and_gives_right (is_ascii_hexdigit b) (is_units n bs) e))
  string_units_have_no_lf (b ∷ bs) zero e =
      elim (or_has_true_side (b == 92 && is_escape bs) (not (b == 92 || b == 34 || b == lf) && is_units zero bs) e) [
        | inl f ↦ has_lf-cons b bs (parted_by_test (λ c. c == 92) b lf (and_gives_left (b == 92) (is_escape bs) f) refl)
            (escape_has_no_lf bs (and_gives_right (b == 92) (is_escape bs) f))
        | inr f ↦ let n =
            none_of_three_is_true (b == 92) (b == 34) (b == lf)
            (and_gives_left (not (b == 92 || b == 34 || b == lf)) (is_units zero bs) f) in
            has_lf-cons b bs n.2
            (string_units_have_no_lf bs zero
            (and_gives_right (not (b == 92 || b == 34 || b == lf)) (is_units zero bs) f))
      ]

  escape_has_no_lf : (v : Text) → is_escape v ≡ true → has_lf v ≡ false
  escape_has_no_lf [] e = cc
  escape_has_no_lf (b ∷ bs) e =
      elim (or_has_true_side ((b == 92 || b == 34 || b == 123) && is_units zero bs || b == 117 && is_units 4 bs)
      (b == 85 && is_units 6 bs) e) [
        | inr f ↦
            has_lf-cons b bs (parted_by_test (λ c. c == 85) b lf (and_gives_left (b == 85) (is_units 6 bs) f) refl)
            (string_units_have_no_lf bs 6 (and_gives_right (b == 85) (is_units 6 bs) f))
        | inl g ↦
            elim (or_has_true_side ((b == 92 || b == 34 || b == 123) && is_units zero bs)
            (b == 117 && is_units 4 bs) g) [
              | inl f ↦ has_lf-cons b bs
                  (parted_by_test (λ c. c == 92 || c == 34 || c == 123) b lf
                  (and_gives_left (b == 92 || b == 34 || b == 123) (is_units zero bs) f) refl)
                  (string_units_have_no_lf bs zero
                  (and_gives_right (b == 92 || b == 34 || b == 123) (is_units zero bs) f))
              | inr f ↦
                  has_lf-cons b bs
                  (parted_by_test (λ c. c == 117) b lf (and_gives_left (b == 117) (is_units 4 bs) f) refl)
                  (string_units_have_no_lf bs 4 (and_gives_right (b == 117) (is_units 4 bs) f))
            ]
      ]

bytes_without_lf_end_in_no_lf : (v : Text) (c : ℕ) → (c == lf) ≡ false → has_lf v ≡ false →
    is_last lf (last_of (Some c) v) ≡ false
bytes_without_lf_end_in_no_lf [] c e f = e
bytes_without_lf_end_in_no_lf (b ∷ v) c e f =
    bytes_without_lf_end_in_no_lf v b (false_or_left (b == lf) (has_lf v) f) (false_or_right (b == lf) (has_lf v) f)

pub string_ends_in_no_lf : (v : Text) → is_string v ≡ true → is_last lf (last_of (Some 34) v) ≡ false
string_ends_in_no_lf v e = bytes_without_lf_end_in_no_lf v 34 refl (string_units_have_no_lf v zero e)

-- ---- literals

-- after a byte that is no LF
pub literal_is_written_off_line_start : (last : Option ℕ) (level : ℕ) (bs : Text) (ms : List Mark) →
    is_last lf last ≡ false → text_after last (literal level bs ∷ ms) ≡ bs ++ text_after (last_of last bs) ms
literal_is_written_off_line_start last level bs ms e = rw e refl

-- at the beginning of a line or not
pub literal_is_written_at_line : (last : Option ℕ) (at_line : Bool) (level b : ℕ) (bs : Text) (ms : List Mark) →
    is_last lf last ≡ at_line →
    text_after last (literal level (b ∷ bs) ∷ ms)
    ≡ line_indent level at_line ++ ((b ∷ bs) ++ text_after (last_of None (b ∷ bs)) ms)
literal_is_written_at_line last false level b bs ms e = rw e refl
literal_is_written_at_line last true level b bs ms e =
    literal_at_line_start_is_indented last e
    ∙ ap (λ o. (indent level ++ (b ∷ bs)) ++ text_after o ms) (last_of_append_is_of_second (indent level) last b bs)
    ∙ append_assoc (indent level) (b ∷ bs) (text_after (last_of (Some b) bs) ms)
  where
    literal_at_line_start_is_indented : (last : Option ℕ) → is_last lf last ≡ true →
        text_after last (literal level (b ∷ bs) ∷ ms)
        ≡ (indent level ++ (b ∷ bs)) ++ text_after (last_of last (indent level ++ (b ∷ bs))) ms
    literal_at_line_start_is_indented last e = rw e refl

-- the last byte after an expression: a select has ended its line
abbrev pub ending : ExpressionTree Text → Option ℕ
ending (select e vs) = Some lf
ending (inline e) = None

-- what closes an expression
pub closing_is_written : (level : ℕ) (e : ExpressionTree Text) (b : ℕ) (bs : Text) (ms : List Mark) →
    Plain (last_of None (b ∷ bs)) →
    text_after (ending e) (literal level (b ∷ bs) ∷ ms) ≡ closing_indent level e ++ ((b ∷ bs) ++ text_after None ms)
closing_is_written level (select e vs) b bs ms p = literal_is_indented level b bs ms p
closing_is_written level (inline e) b bs ms p = literal_is_written level (b ∷ bs) ms p

-- ASCII marks are plain
pub byte_but_lf_and_cr_is_plain : (b : ℕ) → (b == lf) ≡ false → (b == cr) ≡ false → Plain (Some b)
byte_but_lf_and_cr_is_plain b e f = record { no_lf = e; no_cr = f }
