-- Names, numbers and strings that were read are in their sets.
use Rattle.std.proofs.Common.{◌≡◌, ℕ, zero, suc, ◌+◌, ◌-◌, ◌<◌, ◌≤◌, List, [], ◌∷◌, Option, Some, None, Bool, true}
use Rattle.std.proofs.Common.{false, refl, sym, ◌∙◌, subst, ap, arith, inl, inr}
use Rattle.std.specs.Prelude.{◌==◌, ◌||◌, ◌&&◌, not, slice_get, slice_range}
use Rattle.std.specs.Char.{is_ascii_hexdigit}
use Rattle.fluent_syntax_tree.specs.Spans.{bytes_at}
use Rattle.fluent_syntax_tree.specs.declared.spans.Span.{Span}
use Rattle.fluent_syntax_grammar.specs.Bytes.{lf, is_letter, is_digit}
use Rattle.fluent_syntax_grammar.specs.Places.{holds, has, has_byte, ByteRun}
use Rattle.fluent_syntax_grammar.specs.Construct.{Read, goes_on, given, at_place, passed, chosen, first, second}
use Rattle.fluent_syntax_grammar.specs.Construct.{branch_on, yields}
use Rattle.fluent_syntax_grammar.specs.Tokens.{optional, digits, identifier, number}
use Rattle.fluent_syntax_grammar.specs.Strings.{hex_digits, all_there, escaped, string_unit, string_units, before_quote}
use Rattle.fluent_syntax_grammar.specs.Strings.{unit_and_more, string_literal}
use Rattle.fluent_syntax_grammar.specs.Spellings.{is_name, is_digits, is_number_rest, is_unsigned, is_number, is_units}
use Rattle.fluent_syntax_grammar.specs.Spellings.{is_escape, is_string}
use Rattle.fluent_syntax_grammar.proofs.Facts.{byte_exists, holds-some, absurd_test, at_most_is_less_or_same}
use Rattle.fluent_syntax_grammar.proofs.Facts.{byte_that_passes_is_in_text}
use Rattle.fluent_syntax_grammar.proofs.Tests.{true_and_true}
use Rattle.fluent_syntax_grammar.proofs.backward.Taken.{name_was_read}
use Rattle.fluent_syntax_grammar.proofs.backward.Lines.{range_begins_with_byte_at_start, empty_range_is_empty}
use Rattle.fluent_syntax_grammar.proofs.backward.Lines.{range_passes_where_each_place_passes, tested_byte_is_at_place}
use Rattle.fluent_syntax_grammar.proofs.Tests.{or_of_three_is_true_by_first, true_by_left, true_by_right}
use Rattle.fluent_syntax_grammar.proofs.Tests.{or_of_three_is_true_by_second, or_of_three_is_true_by_third}

-- the name's bytes are a name
abbrev pub IsNameSpan : List ℕ → Span → Type 0
IsNameSpan t s = is_name (bytes_at t s) ≡ true

module _ (t : List ℕ) where
  pub read_identifier_is_name_span : (i j : ℕ) (s : Span) → identifier t i (Read s j) → IsNameSpan t s
  read_identifier_is_name_span i j s (goes_on at_place (goes_on (chosen given) (first e x))) =
      let l = byte_that_passes_is_in_text is_letter t i e in
      name_was_read t i j s (omega arith) (goes_on at_place (goes_on (chosen given) (first e x)))
  read_identifier_is_name_span i j s (goes_on at_place (goes_on (chosen given) (second e x))) = elim x [ ]

  -- ---- numbers

  -- what may follow digits: nothing, or a point and digits
  pub data FractionAt : ℕ → ℕ → Type 0 where
    no_fraction : {i : ℕ} → FractionAt i i
    point : {i j : ℕ} → has_byte t 46 i ≡ true → has t is_digit (i + 1) ≡ true → ByteRun t is_digit (i + 1) j →
        FractionAt i j

  run_of_digits_goes_on : (i j : ℕ) → has t is_digit i ≡ true → ByteRun t is_digit i j → i < j
  run_of_digits_goes_on i j e w =
      elim (at_most_is_less_or_same i j w.forward)
      [ inl l ↦ l | inr same ↦ absurd_test (subst (λ k. has t is_digit k ≡ true) same e) w.longest ]

  range_of_digits_is_digits : (i j : ℕ) → has t is_digit i ≡ true → ByteRun t is_digit i j →
      is_digits (slice_range t i j) ≡ true
  range_of_digits_is_digits i j e w =
      let l = run_of_digits_goes_on i j e w in
      let b = byte_exists is_digit (slice_get t i) e in
      rw (range_begins_with_byte_at_start t i j b.0 l b.1)
      (true_and_true b.2
      (range_passes_where_each_place_passes t is_digit (i + 1) j (omega arith) (λ k x y. w.each k (omega arith) y)))

  range_of_fraction_is_number_rest : (i j : ℕ) → FractionAt i j → (i ≤ j) × (is_number_rest (slice_range t i j) ≡ true)
  range_of_fraction_is_number_rest i j no_fraction = (omega arith, ap is_number_rest (empty_range_is_empty t i))
  range_of_fraction_is_number_rest i j (point h e w) =
      let l = run_of_digits_goes_on (i + 1) j e w in (
        omega arith,
        ap is_number_rest (range_begins_with_byte_at_start t i j 46 (omega arith) (tested_byte_is_at_place t 46 i h))
            ∙ range_of_digits_is_digits (i + 1) j e w,
      )

  range_of_digits_continues_number : (n i j k : ℕ) → i + n ≡ k → ((m : ℕ) → i ≤ m → m < k → has t is_digit m ≡ true) →
      k ≤ j →
      is_number_rest (slice_range t k j) ≡ true → is_number_rest (slice_range t i j) ≡ true
  range_of_digits_continues_number zero i j k s e l h = let same : k ≡ i = omega arith in
      subst (λ k. is_number_rest (slice_range t k j) ≡ true) same h
  range_of_digits_continues_number (suc n) i j k s e l h =
      let b = byte_exists is_digit (slice_get t i) (e i (omega arith) (omega arith)) in
      let r = range_of_digits_continues_number n (i + 1) j k (omega arith) (λ m x y. e m (omega arith) y) l h in
      rw (range_begins_with_byte_at_start t i j b.0 (omega arith) b.1)
      (true_by_left (is_digit b.0 && is_number_rest (slice_range t (i + 1) j)) _ (true_and_true b.2 r))

  -- digits, and what follows them
  range_of_digits_and_fraction_is_unsigned : (i k j : ℕ) → has t is_digit i ≡ true → ByteRun t is_digit i k →
      FractionAt k j → is_unsigned (slice_range t i j) ≡ true
  range_of_digits_and_fraction_is_unsigned i k j e w f =
      let l = run_of_digits_goes_on i k e w in
      let r = range_of_fraction_is_number_rest k j f in
      let on = r.0 in
      let b = byte_exists is_digit (slice_get t i) e in
      rw (range_begins_with_byte_at_start t i j b.0 (omega arith) b.1)
      (true_and_true b.2
      (range_of_digits_continues_number (k - (i + 1)) (i + 1) j k (omega arith) (λ m x y. w.each m (omega arith) y)
      on r.1))

  unsigned_is_number : (v : List ℕ) → is_unsigned v ≡ true → is_number v ≡ true
  unsigned_is_number [] e = cc
  unsigned_is_number (b ∷ bs) e = true_by_right _ (is_unsigned (b ∷ bs)) e

  -- a number's bytes are a number, and without `-` they are one where there is a digit
  pub record IsNumber (i : ℕ) (s : Span) : Type 0 where
    pub number : is_number (bytes_at t s) ≡ true
    pub unsigned : has t is_digit i ≡ true → is_unsigned (bytes_at t s) ≡ true

  point_and_digits_are_fraction : (k p j : ℕ) → has_byte t 46 k ≡ true → p ≡ k + 1 → has t is_digit p ≡ true →
      ByteRun t is_digit p j → FractionAt k j
  point_and_digits_are_fraction k p j e s f w =
      point e (subst (λ p. has t is_digit p ≡ true) s f) (subst (λ p. ByteRun t is_digit p j) s w)

  -- the end of a number, after its digits
  read_fraction_is_fraction : (k p j : ℕ) (found : Bool) (u : Unit {0}) → optional t 46 k (Read found p) →
      branch_on found (digits t) (yields tt) p (Read u j) → FractionAt k j
  read_fraction_is_fraction k p j found u (chosen (first e (goes_on (passed o) given)))
      (first g (chosen (first f (passed w)))) =
      point_and_digits_are_fraction k p j e o.by f w
  read_fraction_is_fraction k p j found u (chosen (first e (goes_on (passed o) given)))
      (first g (chosen (second f x))) = elim x [ ]
  read_fraction_is_fraction k p j found u (chosen (first e (goes_on (passed o) given))) (second g x) = absurd cc
  read_fraction_is_fraction k p j found u (chosen (second e given)) (first g x) = absurd cc
  read_fraction_is_fraction k p j found u (chosen (second e given)) (second g given) = no_fraction

  minus_is_no_digit : (i : ℕ) → has_byte t 45 i ≡ true → has t is_digit i ≡ true → ⊥
  minus_is_no_digit i e f = let g : has t is_digit i ≡ false = ap (holds is_digit) (tested_byte_is_at_place t 45 i e) in
      cc

  digits_after_minus_are_number : (i m k j : ℕ) → has_byte t 45 i ≡ true → m ≡ i + 1 → has t is_digit m ≡ true →
      ByteRun t is_digit m k → FractionAt k j → IsNumber i (record { start = i; end = j })
  digits_after_minus_are_number i m k j e s f w x =
      let l = run_of_digits_goes_on m k f w in
      let r = range_of_fraction_is_number_rest k j x in
      let on = r.0 in
      let v = range_of_digits_and_fraction_is_unsigned m k j f w x in
      let v' : is_unsigned (slice_range t (i + 1) j) ≡ true = subst (λ m. is_unsigned (slice_range t m j) ≡ true) s v in
      record {
        number =
            ap is_number (range_begins_with_byte_at_start t i j 45 (omega arith) (tested_byte_is_at_place t 45 i e))
            ∙ true_by_left (is_unsigned (slice_range t (i + 1) j)) (is_unsigned (45 ∷ slice_range t (i + 1) j)) v';
        unsigned = λ d. absurd (minus_is_no_digit i e d);
      }

  digits_without_minus_are_number : (i k j : ℕ) → has t is_digit i ≡ true → ByteRun t is_digit i k → FractionAt k j →
      IsNumber i (record { start = i; end = j })
  digits_without_minus_are_number i k j f w x = let v = range_of_digits_and_fraction_is_unsigned i k j f w x in
      record { number = unsigned_is_number (slice_range t i j) v; unsigned = λ d. v }

  pub read_number_is_number : (i j : ℕ) (s : Span) → number t i (Read s j) → IsNumber i s
  read_number_is_number i j s
      (goes_on at_place
      (goes_on (chosen (first e (goes_on (passed {j = m} o) given)))
      (goes_on (chosen (first f (passed {j = k} w)))
      (goes_on {j = p} {a = found} x (goes_on {a = u} y (goes_on at_place given)))))) =
      digits_after_minus_are_number i m k j e o.by f w (read_fraction_is_fraction k p j found u x y)
  read_number_is_number i j s
      (goes_on at_place
      (goes_on (chosen (second e given))
      (goes_on (chosen (first f (passed {j = k} w)))
      (goes_on {j = p} {a = found} x (goes_on {a = u} y (goes_on at_place given)))))) =
      digits_without_minus_are_number i k j f w (read_fraction_is_fraction k p j found u x y)
  read_number_is_number i j s (goes_on at_place (goes_on z (goes_on (chosen (second f x)) y))) = elim x [ ]

  -- ---- strings

  hex_digits_before_units_are_units : (n i j k : ℕ) → i + n ≡ k →
      ((m : ℕ) → i ≤ m → m < k → has t is_ascii_hexdigit m ≡ true) → k ≤ j →
      is_units 0 (slice_range t k j) ≡ true → is_units n (slice_range t i j) ≡ true
  hex_digits_before_units_are_units zero i j k s e l h = let same : k ≡ i = omega arith in
      subst (λ k. is_units 0 (slice_range t k j) ≡ true) same h
  hex_digits_before_units_are_units (suc n) i j k s e l h =
      let b = byte_exists is_ascii_hexdigit (slice_get t i) (e i (omega arith) (omega arith)) in
      rw (range_begins_with_byte_at_start t i j b.0 (omega arith) b.1)
      (true_and_true b.2
      (hex_digits_before_units_are_units n (i + 1) j k (omega arith) (λ m x y. e m (omega arith) y) l h))

  read_hex_digits_are_units : (w i j k : ℕ) (u : Unit {0}) → hex_digits t w i (Read u k) → k ≤ j →
      is_units 0 (slice_range t k j) ≡ true →
      is_units w (slice_range t i j) ≡ true
  read_hex_digits_are_units w i j k u (all_there h e) l r =
      hex_digits_before_units_are_units w i j k (sym e) (λ m x y. h.each m x y) l r

  -- where a unit leads, and that what it passed over and more units are units
  pub record UnitAt (i m : ℕ) : Type 0 where
    pub on : i ≤ m
    pub more : (j : ℕ) → m ≤ j → is_units 0 (slice_range t m j) ≡ true → is_units 0 (slice_range t i j) ≡ true

  -- a backslash and a byte, before what makes an escape of them
  escape_of_two_bytes_begins_units : (i j c : ℕ) → slice_get t i ≡ Some 92 → slice_get t (i + 1) ≡ Some c → i + 2 ≤ j →
      is_escape (c ∷ slice_range t (i + 2) j) ≡ true → is_units 0 (slice_range t i j) ≡ true
  escape_of_two_bytes_begins_units i j c e f l h =
      let s : (i + 1) + 1 ≡ i + 2 = omega arith in
      let r : slice_range t (i + 1) j ≡ c ∷ slice_range t (i + 2) j =
      subst (λ k. slice_range t (i + 1) j ≡ c ∷ slice_range t k j) s
      (range_begins_with_byte_at_start t (i + 1) j c (omega arith) f) in
      ap (is_units 0) (range_begins_with_byte_at_start t i j 92 (omega arith) e)
      ∙ true_by_left (is_escape (slice_range t (i + 1) j)) _ (ap is_escape r ∙ h)

  read_hex_digits_have_their_count : (w i m : ℕ) (u : Unit {0}) → hex_digits t w i (Read u m) → m ≡ i + w
  read_hex_digits_have_their_count w i m u (all_there h e) = e

  -- after a backslash, by the byte there
  read_escape_is_unit : (i m : ℕ) (u : Unit {0}) (o : Option ℕ) → slice_get t (i + 1) ≡ o → slice_get t i ≡ Some 92 →
      escaped t o i (Read u m) → UnitAt i m
  read_escape_is_unit i m u None e f x = elim x [ ]
  read_escape_is_unit i m u (Some c) e f (first g (passed o)) =
      let by = o.by in
      record {
        on = omega arith;
        more =
            λ j l r. escape_of_two_bytes_begins_units i j c f e (omega arith)
            (or_of_three_is_true_by_first ((c == 92 || c == 34 || c == 123) && is_units 0 (slice_range t (i + 2) j))
            (c == 117 && is_units 4 (slice_range t (i + 2) j)) (c == 85 && is_units 6 (slice_range t (i + 2) j))
            (true_and_true g (subst (λ k. is_units 0 (slice_range t k j) ≡ true) by r)));
      }
  read_escape_is_unit i m u (Some c) e f (second g (first h (goes_on (passed {j = k} o) y))) =
      let by = o.by in
      let on = read_hex_digits_have_their_count 4 k m u y in
      record {
        on = omega arith;
        more =
            λ j l r. escape_of_two_bytes_begins_units i j c f e (omega arith)
            (or_of_three_is_true_by_second ((c == 92 || c == 34 || c == 123) && is_units 0 (slice_range t (i + 2) j))
            (c == 117 && is_units 4 (slice_range t (i + 2) j)) (c == 85 && is_units 6 (slice_range t (i + 2) j))
            (true_and_true h
            (subst (λ k. is_units 4 (slice_range t k j) ≡ true) by (read_hex_digits_are_units 4 k j m u y l r))));
      }
  read_escape_is_unit i m u (Some c) e f (second g (second h (first n (goes_on (passed {j = k} o) y)))) =
      let by = o.by in
      let on = read_hex_digits_have_their_count 6 k m u y in
      record {
        on = omega arith;
        more =
            λ j l r. escape_of_two_bytes_begins_units i j c f e (omega arith)
            (or_of_three_is_true_by_third ((c == 92 || c == 34 || c == 123) && is_units 0 (slice_range t (i + 2) j))
            (c == 117 && is_units 4 (slice_range t (i + 2) j)) (c == 85 && is_units 6 (slice_range t (i + 2) j))
            (true_and_true n
            (subst (λ k. is_units 6 (slice_range t k j) ≡ true) by (read_hex_digits_are_units 6 k j m u y l r))));
      }
  read_escape_is_unit i m u (Some c) e f (second g (second h (second n x))) = elim x [ ]

  other_byte_passes_unit_test : (b : ℕ) → (b == 92) ≡ false → (b == 34) ≡ false → (b == lf) ≡ false →
      not (b == 92 || b == 34 || b == lf) ≡ true
  other_byte_passes_unit_test b e f g = rw (e, f, g) refl

  byte_off_quote_is_no_quote : (i b : ℕ) → slice_get t i ≡ Some b → has_byte t 34 i ≡ false → (b == 34) ≡ false
  byte_off_quote_is_no_quote i b e f = ap (holds (λ c. c == 34)) (sym e) ∙ f

  -- a unit, by its first byte
  read_unit_is_unit : (i m : ℕ) (u : Unit {0}) (o : Option ℕ) → slice_get t i ≡ o → has_byte t 34 i ≡ false →
      string_unit t o i (Read u m) → UnitAt i m
  read_unit_is_unit i m u None e q x = elim x [ ]
  read_unit_is_unit i m u (Some b) e q (first f x) = elim x [ ]
  read_unit_is_unit i m u (Some b) e q (second f (first g (chosen x))) =
      read_escape_is_unit i m u (slice_get t (i + 1)) refl
      (tested_byte_is_at_place t 92 i (holds-some (λ c. c == 92) (slice_get t i) b e g)) x
  read_unit_is_unit i m u (Some b) e q (second f (second g (passed o))) =
      let by = o.by in
      record {
        on = omega arith;
        more =
            λ j l r. ap (is_units 0) (range_begins_with_byte_at_start t i j b (omega arith) e)
            ∙ true_by_right (b == 92 && is_escape (slice_range t (i + 1) j))
            _ (true_and_true (other_byte_passes_unit_test b g (byte_off_quote_is_no_quote i b e q) f)
            (subst (λ k. is_units 0 (slice_range t k j) ≡ true) by
            r));
      }

  read_units_are_units : (i j : ℕ) (a : Unit {0}) → string_units t i (Read a j) →
      (i ≤ j) × (is_units 0 (slice_range t i j) ≡ true)
  read_units_are_units i j a (before_quote e) = (omega arith, ap (is_units 0) (empty_range_is_empty t i))
  read_units_are_units i j a (unit_and_more {j = m} e x y) =
      let u = read_unit_is_unit i m tt (slice_get t i) refl e x in
      let r = read_units_are_units m j a y in
      let on = u.on in
      let far = r.0 in
      (omega arith, u.more j far r.1)

  pub read_string_is_string : (i j : ℕ) (s : Span) → string_literal t i (Read s j) → is_string (bytes_at t s) ≡ true
  read_string_is_string i j s
      (goes_on x (goes_on {j = m} at_place
      (goes_on {j = n} {a = u} y (goes_on (goes_on at_place given) (goes_on z given))))) =
      (read_units_are_units m n u y).1
