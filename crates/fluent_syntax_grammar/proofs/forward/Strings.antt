-- String literals, read forwards.
use Rattle.std.proofs.Common.{◌≡◌, ℕ, zero, suc, ◌+◌, ◌≤◌, List, [], ◌∷◌, ◌++◌, length, Some, Bool, true, false, refl}
use Rattle.std.proofs.Common.{sym, ◌∙◌, subst, ap, append_assoc, length-append, arith, inl, inr}
use Rattle.std.specs.Prelude.{◌==◌, ◌||◌, ◌&&◌, not}
use Rattle.std.specs.List.{list_all}
use Rattle.std.specs.Char.{is_ascii_hexdigit}
use Rattle.fluent_syntax_tree.specs.Spans.{bytes_at}
use Rattle.fluent_syntax_grammar.specs.Bytes.{lf}
use Rattle.fluent_syntax_grammar.specs.Places.{Steps}
use Rattle.fluent_syntax_grammar.specs.Construct.{Read, ◌>>◌, skip}
use Rattle.fluent_syntax_grammar.specs.Strings.{HexDigits, hex_digits, all_there, escaped, string_unit, string_units}
use Rattle.fluent_syntax_grammar.specs.Strings.{before_quote, unit_and_more, string_literal}
use Rattle.fluent_syntax_grammar.specs.Spellings.{is_units, is_escape, is_string}
use Rattle.fluent_syntax_grammar.proofs.Facts.{and_gives_left, and_gives_right, same_by_test}
use Rattle.fluent_syntax_grammar.proofs.Tests.{true_and_true, or_has_true_side}
use Rattle.fluent_syntax_grammar.proofs.SuffixAt.{SuffixAt, suffix_by_equality, first_of_suffix, next_of_suffix}
use Rattle.fluent_syntax_grammar.proofs.SuffixAt.{rest_past_front}
use Rattle.fluent_syntax_grammar.proofs.SuffixAt.{test_of_suffix, each_place_of_prefix_is_in_set}
use Rattle.fluent_syntax_grammar.proofs.forward.Reading.{Reads, Passes, reads_bind, yields_reads_its_view, passes_then}
use Rattle.fluent_syntax_grammar.proofs.forward.Reading.{here_reads_as_part_at_place, reads_peek, first_branch_reads}
use Rattle.fluent_syntax_grammar.proofs.forward.Reading.{second_branch_reads}
use Rattle.fluent_syntax_grammar.proofs.forward.Reading.{one_byte_passes, two_bytes_pass, token_passes_its_byte}
use Rattle.fluent_syntax_grammar.proofs.forward.Reading.{span_reads_its_bytes}

-- hexadecimal digits, so many, and units after them
pub record HexThen (n : ℕ) (v : List ℕ) : Type 0 where
  pub hex : List ℕ
  pub more : List ℕ
  pub joins : hex ++ more ≡ v
  pub count : length hex ≡ n
  pub digits : list_all is_ascii_hexdigit hex ≡ true
  pub units : is_units zero more ≡ true

units_begin_with_hex : (n : ℕ) (v : List ℕ) → is_units n v ≡ true → HexThen n v
units_begin_with_hex zero v e = record { hex = []; more = v; joins = refl; count = refl; digits = refl; units = e }
units_begin_with_hex (suc n) [] e = cc
units_begin_with_hex (suc n) (b ∷ bs) e =
    let r = units_begin_with_hex n bs (and_gives_right (is_ascii_hexdigit b) (is_units n bs) e) in
    record {
      hex = b ∷ r.hex;
      more = r.more;
      joins = ap (λ v. b ∷ v) r.joins;
      count = ap suc r.count;
      digits = true_and_true (and_gives_left (is_ascii_hexdigit b) (is_units n bs) e) r.digits;
      units = r.units;
    }

pub none_of_three_is_true : (x y z : Bool) → not (x || y || z) ≡ true → (x ≡ false) × (y ≡ false) × (z ≡ false)
none_of_three_is_true false false false e = (refl, refl, refl)
none_of_three_is_true true y z e = cc
none_of_three_is_true false true z e = cc
none_of_three_is_true false false true e = cc

-- texts no longer than the number are read as units
pub record UnitsPass (t : List ℕ) (m : ℕ) : Type 0 where
  pub passes : (v more : List ℕ) (i : ℕ) → length v ≤ m → is_units zero v ≡ true → SuffixAt t i (v ++ (34 ∷ more)) →
      Passes t (string_units t) i (34 ∷ more)

module _ {t : List ℕ} where
  hex_digits_are_passed : {i : ℕ} (n : ℕ) (hex more : List ℕ) → length hex ≡ n → list_all is_ascii_hexdigit hex ≡ true →
      SuffixAt t i (hex ++ more) → Passes t (hex_digits t n) i more
  hex_digits_are_passed {i = i} n hex more e a l =
      let d : HexDigits t i n (i + length hex) =
      record {
        forward = omega arith;
        most = omega arith;
        each = each_place_of_prefix_is_in_set is_ascii_hexdigit hex more a l;
        longest = λ m. absurd (omega arith);
      } in
      record {
        value = tt;
        end = i + length hex;
        reads = all_there d (ap (λ n. i + n) e);
        spells = refl;
        rest = rest_past_front hex l;
      }

  -- a unit, and units after it
  unit_before_units_is_passed : {i b : ℕ} {bs mid left : List ℕ} → SuffixAt t i (b ∷ bs) → (b == 34) ≡ false →
      Passes t (string_unit t (Some b)) i mid → ((j : ℕ) → SuffixAt t j mid → Passes t (string_units t) j left) →
      Passes t (string_units t) i left
  unit_before_units_is_passed {i = i} {b = b} l e m k =
      let n = k m.end m.rest in
      record {
        value = tt;
        end = n.end;
        reads =
            unit_and_more (test_of_suffix (λ c. c == 34) l ∙ e)
            (subst (λ o. string_unit t o i (Read tt m.end)) (sym (first_of_suffix l)) m.reads) n.reads;
        spells = refl;
        rest = n.rest;
      }

  plain_byte_is_passed_as_unit : {i b : ℕ} {bs : List ℕ} → (b == lf) ≡ false → (b == 92) ≡ false →
      SuffixAt t i (b ∷ bs) → Passes t (string_unit t (Some b)) i bs
  plain_byte_is_passed_as_unit e f l = second_branch_reads e (second_branch_reads f (one_byte_passes l))

  escape_is_passed_as_unit : {i b c : ℕ} {bs left : List ℕ} → b ≡ 92 → SuffixAt t i (b ∷ c ∷ bs) →
      Passes t (escaped t (Some c)) i left → Passes t (string_unit t (Some b)) i left
  escape_is_passed_as_unit {c = c} e l m =
      second_branch_reads (ap (λ b. b == lf) e)
      (first_branch_reads (ap (λ b. b == 92) e) (reads_peek (Some c) (first_of_suffix (next_of_suffix l)) m))

  hex_escape_is_passed_as_unit : {i b c : ℕ} {bs : List ℕ} (left : List ℕ) (n : ℕ) (r : HexThen n bs) →
      SuffixAt t i (b ∷ c ∷ (bs ++ left)) → Passes t (skip (Steps 2) >> hex_digits t n) i (r.more ++ left)
  hex_escape_is_passed_as_unit left n r l =
      passes_then (two_bytes_pass l)
      (λ j m. hex_digits_are_passed n r.hex (r.more ++ left) r.count r.digits
      (suffix_by_equality (ap (λ v. v ++ left) (sym r.joins) ∙ append_assoc r.hex r.more left) m))

  string_units_stop_at_quote : {i : ℕ} {more : List ℕ} → SuffixAt t i (34 ∷ more) →
      Passes t (string_units t) i (34 ∷ more)
  string_units_stop_at_quote {i = i} l =
      record { value = tt; end = i; reads = before_quote (test_of_suffix (λ c. c == 34) l); spells = refl; rest = l }

  -- an escape with hexadecimal digits, and units after it
  hex_escape_then : (m n : ℕ) → UnitsPass t m → (b c : ℕ) (cs more : List ℕ) (i : ℕ) → length cs ≤ m → b ≡ 92 →
      is_units n cs ≡ true → SuffixAt t i (b ∷ c ∷ (cs ++ (34 ∷ more))) →
      ((left : List ℕ) → Passes t (skip (Steps 2) >> hex_digits t n) i left → Passes t (escaped t (Some c)) i left) →
      Passes t (string_units t) i (34 ∷ more)
  hex_escape_then m n h b c cs more i l e f x k =
      let r = units_begin_with_hex n cs f in
      let size : length r.more ≤ m = let a = length-append r.hex r.more in let b = ap length r.joins in omega arith in
      unit_before_units_is_passed x (ap (λ b. b == 34) e)
      (escape_is_passed_as_unit e x (k (r.more ++ (34 ∷ more)) (hex_escape_is_passed_as_unit (34 ∷ more) n r x)))
      (λ j y. h.passes r.more more j size r.units y)

  escape_before_units_is_passed : (m : ℕ) → UnitsPass t m → (b : ℕ) (bs more : List ℕ) (i : ℕ) → length bs ≤ m →
      b ≡ 92 → is_escape bs ≡ true → SuffixAt t i (b ∷ (bs ++ (34 ∷ more))) → Passes t (string_units t) i (34 ∷ more)
  escape_before_units_is_passed m h b [] more i l e f x = cc
  escape_before_units_is_passed m h b (c ∷ cs) more i l e f x =
      elim (or_has_true_side ((c == 92 || c == 34 || c == 123) && is_units zero cs || c == 117 && is_units 4 cs)
      (c == 85 && is_units 6 cs) f) [
        | inl g ↦
            elim (or_has_true_side ((c == 92 || c == 34 || c == 123) && is_units zero cs)
            (c == 117 && is_units 4 cs) g) [
              | inl p ↦ unit_before_units_is_passed x (ap (λ b. b == 34) e)
                  (escape_is_passed_as_unit e x
                  (first_branch_reads (and_gives_left (c == 92 || c == 34 || c == 123) (is_units zero cs) p)
                  (two_bytes_pass x)))
                  (λ j y. h.passes cs more j (omega arith)
                  (and_gives_right (c == 92 || c == 34 || c == 123) (is_units zero cs) p) y)
              | inr p ↦ let s : c ≡ 117 = same_by_test c 117 (and_gives_left (c == 117) (is_units 4 cs) p) in
                  hex_escape_then m 4 h b c cs more i (omega arith) e (and_gives_right (c == 117) (is_units 4 cs) p) x
                  (λ left y. second_branch_reads (ap (λ c. c == 92 || c == 34 || c == 123) s)
                  (first_branch_reads (ap (λ c. c == 117) s) y))
            ]
        | inr p ↦ let s : c ≡ 85 = same_by_test c 85 (and_gives_left (c == 85) (is_units 6 cs) p) in
            hex_escape_then m 6 h b c cs more i (omega arith) e (and_gives_right (c == 85) (is_units 6 cs) p) x
            (λ left y. second_branch_reads (ap (λ c. c == 92 || c == 34 || c == 123) s)
            (second_branch_reads (ap (λ c. c == 117) s) (first_branch_reads (ap (λ c. c == 85) s) y)))
      ]

  units_with_one_more_are_passed : (m : ℕ) → UnitsPass t m → (b : ℕ) (bs more : List ℕ) (i : ℕ) → length bs ≤ m →
      is_units zero (b ∷ bs) ≡ true → SuffixAt t i (b ∷ (bs ++ (34 ∷ more))) → Passes t (string_units t) i (34 ∷ more)
  units_with_one_more_are_passed m h b bs more i l e x =
      elim (or_has_true_side (b == 92 && is_escape bs) (not (b == 92 || b == 34 || b == lf) && is_units zero bs) e) [
        | inl f ↦
            escape_before_units_is_passed m h b bs more i l
            (same_by_test b 92 (and_gives_left (b == 92) (is_escape bs) f))
            (and_gives_right (b == 92) (is_escape bs) f) x
        | inr f ↦ let n =
            none_of_three_is_true (b == 92) (b == 34) (b == lf)
            (and_gives_left (not (b == 92 || b == 34 || b == lf)) (is_units zero bs) f) in
            unit_before_units_is_passed x n.1 (plain_byte_is_passed_as_unit n.2 n.0 x)
            (λ j y. h.passes bs more j l (and_gives_right (not (b == 92 || b == 34 || b == lf)) (is_units zero bs) f) y)
      ]

  units_within_length_are_passed : (m : ℕ) → (v more : List ℕ) (i : ℕ) → length v ≤ m → is_units zero v ≡ true →
      SuffixAt t i (v ++ (34 ∷ more)) → Passes t (string_units t) i (34 ∷ more)
  units_within_length_are_passed m [] more i l e x = string_units_stop_at_quote x
  units_within_length_are_passed zero (b ∷ bs) more i l e x = absurd (omega arith)
  units_within_length_are_passed (suc m) (b ∷ bs) more i l e x =
      units_with_one_more_are_passed m
      (record { passes = λ v more i. units_within_length_are_passed m v more i }) b bs more i (omega arith) e x

  -- a string in its quotes
  pub string_literal_reads_back_its_bytes : {i : ℕ} (v more : List ℕ) → is_string v ≡ true →
      SuffixAt t i (34 ∷ (v ++ (34 ∷ more))) → Reads t (string_literal t) (bytes_at t) i v more
  string_literal_reads_back_its_bytes v more e l =
      passes_then (token_passes_its_byte 34 refl l)
      (λ j m. here_reads_as_part_at_place
      (passes_then (units_within_length_are_passed (length v) v more j (omega arith) e m)
      (λ k n. reads_bind (span_reads_its_bytes v (34 ∷ more) m n)
      (λ s h f o. passes_then (token_passes_its_byte 34 refl o) (λ q p. yields_reads_its_view f p)))))
