-- Names, numbers and strings, read forwards.
use Rattle.std.proofs.Common.{◌≡◌, ℕ, List, [], ◌∷◌, ◌++◌, true, false, refl, sym, ◌∙◌, ap, append_assoc, inl, inr}
use Rattle.std.specs.Prelude.{◌==◌, ◌&&◌}
use Rattle.std.specs.List.{list_all}
use Rattle.fluent_syntax_tree.specs.Spans.{bytes_at}
use Rattle.fluent_syntax_grammar.specs.Bytes.{is_letter, is_name_byte, is_digit}
use Rattle.fluent_syntax_grammar.specs.Places.{holds}
use Rattle.fluent_syntax_grammar.specs.Construct.{Construct, ◌>>=◌, yields, branch_on}
use Rattle.fluent_syntax_grammar.specs.Tokens.{optional, digits, identifier, number}
use Rattle.fluent_syntax_grammar.specs.Spellings.{is_name, is_digits, is_number_rest, is_unsigned, is_number}
use Rattle.fluent_syntax_grammar.proofs.Facts.{and_gives_left, and_gives_right, same_by_test}
use Rattle.fluent_syntax_grammar.proofs.Tests.{true_and_true, or_has_true_side, parted_by_test, letter_is_name_byte}
use Rattle.fluent_syntax_grammar.proofs.SuffixAt.{SuffixAt, suffix_by_equality, first, rest_past_front, test_of_suffix}
use Rattle.fluent_syntax_grammar.proofs.SuffixAt.{suffix_byte_run}
use Rattle.fluent_syntax_grammar.proofs.forward.Reading.{Reads, Passes, reads_bind, yields_passes_nothing, passes_then}
use Rattle.fluent_syntax_grammar.proofs.forward.Reading.{here_reads_as_part_at_place, skip_passes_over_relation}
use Rattle.fluent_syntax_grammar.proofs.forward.Reading.{reads_peek, look_reads_what_follows}
use Rattle.fluent_syntax_grammar.proofs.forward.Reading.{first_branch_reads}
use Rattle.fluent_syntax_grammar.proofs.forward.Reading.{second_branch_reads, present_byte_is_read}
use Rattle.fluent_syntax_grammar.proofs.forward.Reading.{optional_reads_that_byte_is_absent}
use Rattle.fluent_syntax_grammar.proofs.forward.Reading.{span_reads_its_bytes}

pub name_has_name_bytes : (bs : List ℕ) → is_name bs ≡ true → list_all is_name_byte bs ≡ true
name_has_name_bytes [] e = refl
name_has_name_bytes (b ∷ bs) e =
    rw (letter_is_name_byte b (and_gives_left (is_letter b) (list_all is_name_byte bs) e))
    (and_gives_right (is_letter b) (list_all is_name_byte bs) e)

name_begins_with_letter : (bs ys : List ℕ) → is_name bs ≡ true → holds is_letter (first (bs ++ ys)) ≡ true
name_begins_with_letter [] ys e = cc
name_begins_with_letter (b ∷ bs) ys e = and_gives_left (is_letter b) (list_all is_name_byte bs) e

-- ---- parts of numbers

-- what may follow the digits of a number: nothing, or a point and digits
pub data Fraction : List ℕ → Type 0 where
  none : Fraction []
  point : {ds : List ℕ} → is_digits ds ≡ true → Fraction (46 ∷ ds)

-- digits and what follows them
pub record NumberRest (v : List ℕ) : Type 0 where
  pub whole : List ℕ
  pub fraction : List ℕ
  pub joins : whole ++ fraction ≡ v
  pub digits : list_all is_digit whole ≡ true
  pub is : Fraction fraction

digit_before_number_rest_is_number_rest : (b : ℕ) (bs : List ℕ) → is_digit b ≡ true → NumberRest bs →
    NumberRest (b ∷ bs)
digit_before_number_rest_is_number_rest b bs e r =
    record {
      whole = b ∷ r.whole;
      fraction = r.fraction;
      joins = ap (λ v. b ∷ v) r.joins;
      digits = rw e (r.digits);
      is = r.is;
    }

point_and_digits_are_number_rest : (b : ℕ) (bs : List ℕ) → b ≡ 46 → is_digits bs ≡ true → NumberRest (b ∷ bs)
point_and_digits_are_number_rest b bs e f =
    record { whole = []; fraction = 46 ∷ bs; joins = ap (λ b. b ∷ bs) (sym e); digits = refl; is = point f }

number_rest_has_form : (v : List ℕ) → is_number_rest v ≡ true → NumberRest v
number_rest_has_form [] e = record { whole = []; fraction = []; joins = refl; digits = refl; is = none }
number_rest_has_form (b ∷ bs) e =
    elim (or_has_true_side (is_digit b && is_number_rest bs) (b == 46 && is_digits bs) e) [
      | inl f ↦ digit_before_number_rest_is_number_rest b bs (and_gives_left (is_digit b) (is_number_rest bs) f)
          (number_rest_has_form bs (and_gives_right (is_digit b) (is_number_rest bs) f))
      | inr f ↦ point_and_digits_are_number_rest b bs (same_by_test b 46 (and_gives_left (b == 46) (is_digits bs) f))
          (and_gives_right (b == 46) (is_digits bs) f)
    ]

fraction_begins_with_no_digit : (v more : List ℕ) → Fraction v → holds is_digit (first more) ≡ false →
    holds is_digit (first (v ++ more)) ≡ false
fraction_begins_with_no_digit v more none f = f
fraction_begins_with_no_digit v more (point x) f = refl

module _ {t : List ℕ} where
  -- a name, before a byte that is in no name
  pub identifier_reads_back : {i : ℕ} (name more : List ℕ) → is_name name ≡ true →
      holds is_name_byte (first more) ≡ false →
      SuffixAt t i (name ++ more) → Reads t (identifier t) (bytes_at t) i name more
  identifier_reads_back name more e f l =
      here_reads_as_part_at_place
      (look_reads_what_follows true (test_of_suffix is_letter l ∙ name_begins_with_letter name more e)
      (first_branch_reads refl
      (reads_bind
      (skip_passes_over_relation (suffix_byte_run is_name_byte name more (name_has_name_bytes name e) f l)
      (rest_past_front name l))
      (λ u k h n. span_reads_its_bytes name more l n))))

  -- ---- numbers

  digits_before_other_are_passed : {i : ℕ} (ds more : List ℕ) → is_digits ds ≡ true →
      holds is_digit (first more) ≡ false → SuffixAt t i (ds ++ more) → Passes t (digits t) i more
  digits_before_other_are_passed [] more e f l = cc
  digits_before_other_are_passed (d ∷ ds) more e f l =
      reads_peek true (test_of_suffix is_digit l ∙ and_gives_left (is_digit d) (list_all is_digit ds) e)
      (first_branch_reads refl
      (skip_passes_over_relation (suffix_byte_run is_digit (d ∷ ds) more e f l) (rest_past_front (d ∷ ds) l)))

  -- the fraction of a number, if it has one, and what follows it
  fraction_is_passed_before_rest : {B Y : Type 0} {c : Construct B} {r : B → Y} {y : Y} {left : List ℕ} {i : ℕ}
      (v more : List ℕ) → Fraction v → holds is_digit (first more) ≡ false → holds (λ c. c == 46) (first more) ≡ false →
      SuffixAt t i (v ++ more) → ((j : ℕ) → SuffixAt t j more → Reads t c r j y left) →
      Reads t (optional t 46 >>= λ p. branch_on p (digits t) (yields tt) >>= λ u. c) r i y left
  fraction_is_passed_before_rest v more none f g l k =
      reads_bind (optional_reads_that_byte_is_absent 46 g l)
      (λ p j e m. passes_then (second_branch_reads e (yields_passes_nothing m)) k)
  fraction_is_passed_before_rest v more (point {ds = ds} x) f g l k =
      reads_bind (present_byte_is_read 46 refl l)
      (λ p j e m. passes_then (first_branch_reads e (digits_before_other_are_passed ds more x f m)) k)

  -- digits and a fraction, and what follows them
  unsigned_is_passed_before_rest : {B Y : Type 0} {c : Construct B} {r : B → Y} {y : Y} {left : List ℕ} {i : ℕ}
      (v more : List ℕ) →
      is_unsigned v ≡ true → holds is_digit (first more) ≡ false → holds (λ c. c == 46) (first more) ≡ false →
      SuffixAt t i (v ++ more) → ((j : ℕ) → SuffixAt t j more → Reads t c r j y left) →
      Reads t (digits t >>= λ d. optional t 46 >>= λ p. branch_on p (digits t) (yields tt) >>= λ u. c) r i y left
  unsigned_is_passed_before_rest [] more e f g l k = cc
  unsigned_is_passed_before_rest (b ∷ bs) more e f g l k =
      let r = number_rest_has_form bs (and_gives_right (is_digit b) (is_number_rest bs) e) in
      let parts : (b ∷ r.whole) ++ (r.fraction ++ more) ≡ (b ∷ bs) ++ more =
      ap (λ v. b ∷ v) (sym (append_assoc r.whole r.fraction more) ∙ ap (λ v. v ++ more) r.joins) in
      passes_then (digits_before_other_are_passed (b ∷ r.whole) (r.fraction ++ more)
      (true_and_true (and_gives_left (is_digit b) (is_number_rest bs) e) r.digits)
      (fraction_begins_with_no_digit r.fraction more r.is f)
      (suffix_by_equality (sym parts) l)) (λ j m. fraction_is_passed_before_rest r.fraction more r.is f g m k)

  -- a number, before a byte that is no digit and no point
  pub number_reads_back_its_bytes : {i : ℕ} (v more : List ℕ) → is_number v ≡ true →
      holds is_digit (first more) ≡ false →
      holds (λ c. c == 46) (first more) ≡ false → SuffixAt t i (v ++ more) → Reads t (number t) (bytes_at t) i v more
  number_reads_back_its_bytes [] more e f g l = cc
  number_reads_back_its_bytes (b ∷ bs) more e f g l =
      elim (or_has_true_side (b == 45 && is_unsigned bs) (is_unsigned (b ∷ bs)) e) [
        | inl h ↦ here_reads_as_part_at_place
            (reads_bind (present_byte_is_read 45 (and_gives_left (b == 45) (is_unsigned bs) h) l)
            (λ m j n o. unsigned_is_passed_before_rest bs more (and_gives_right (b == 45) (is_unsigned bs) h) f g o
            (λ k q. span_reads_its_bytes (b ∷ bs) more l q)))
        | inr h ↦ here_reads_as_part_at_place
            (reads_bind
            (optional_reads_that_byte_is_absent 45
            (parted_by_test is_digit b 45 (and_gives_left (is_digit b) (is_number_rest bs) h) refl) l)
            (λ m j n o.
            unsigned_is_passed_before_rest (b ∷ bs) more h f g o (λ k q. span_reads_its_bytes (b ∷ bs) more l q)))
      ]
