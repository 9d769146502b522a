-- String literals are sound. Inside one a place may lie within a character; before each quote it does not.
use Rattle.std.proofs.Common.{◌≡◌, ℕ, ◌+◌, ◌-◌, ◌<◌, ◌≤◌, List, length, Option, Some, None, true, false, refl, arith}
use Rattle.std.proofs.Common.{inl, inr}
use Rattle.std.specs.Prelude.{slice_get, ◌==◌, ◌⊎◌}
use Rattle.std.specs.Char.{is_ascii_hexdigit}
use Rattle.std.proofs.lemmas.Option.{slice_get_within}
use Rattle.fluent_syntax_tree.specs.Kind.{Kind}
use Rattle.fluent_syntax_grammar.specs.Bytes.{lf}
use Rattle.fluent_syntax_grammar.specs.Places.{has_byte, Steps}
use Rattle.fluent_syntax_grammar.specs.Construct.{Read, Refused}
use Rattle.fluent_syntax_grammar.specs.Strings.{HexDigits, hex_digits, all_there, too_few, escaped, string_unit}
use Rattle.fluent_syntax_grammar.specs.Strings.{string_units, before_quote, unit_and_more, bad_unit, string_literal}
use Rattle.fluent_syntax_grammar.proofs.HoareTriple.{HoareTriple, holds_weaker, holds_bind, fails_meets_triple}
use Rattle.fluent_syntax_grammar.proofs.HoareTriple.{holds_skip}
use Rattle.fluent_syntax_grammar.proofs.HoareTriple.{holds_peek, holds_branch_on}
use Rattle.fluent_syntax_grammar.proofs.Cuts.{AsciiAt, AreBoundaries, byte_of_ascii_set_is_ascii}
use Rattle.fluent_syntax_grammar.proofs.Cuts.{byte_below_128_is_ascii, hex_digit_is_ascii}
use Rattle.fluent_syntax_grammar.proofs.Sound.{IsSpan, Inside, Ended, IsFault, Sound, bind_is_sound, yields_is_sound}
use Rattle.fluent_syntax_grammar.proofs.Sound.{here_is_sound, spanned_is_sound}
use Rattle.fluent_syntax_grammar.proofs.SoundWords.{token_is_sound}
use Rattle.fluent_syntax_grammar.proofs.Facts.{holds-some}

-- any place of the text
abbrev pub InText : List ℕ → ℕ → Type 0
InText t i = i ≤ length t

module _ (t : List ℕ) where
  ascii_place_is_inside_text : (i : ℕ) → AsciiAt t i → i < length t
  ascii_place_is_inside_text i a = slice_get_within t i a.byte a.in_place

  hex_digits_end_in_text : (i w k : ℕ) → i ≤ length t → HexDigits t i w k → k ≤ length t
  hex_digits_end_in_text i w k l h =
      let forward = h.forward in
      let split : (i < k) ⊎ (i ≡ k) = grind arith in
      elim split [
        | inl m ↦
            (let last =
            ascii_place_is_inside_text (k - 1)
            (byte_of_ascii_set_is_ascii t is_ascii_hexdigit (k - 1) hex_digit_is_ascii
            (h.each (k - 1) (omega arith) (omega arith))) in
            omega arith)
        | inr e ↦ omega arith
      ]

  abbrev Any : Unit {0} → Type 0
  Any u = Unit {0}

  read_hex_digits_end_in_text : (s w i j : ℕ) (a : Unit {0}) → Inside (InText t) s i → hex_digits t w i (Read a j) →
      Ended (InText t) s Any a j
  read_hex_digits_end_in_text s w i j a p (all_there h e) = let f = h.forward in let late = p.late in
      record { late = omega arith; place = hex_digits_end_in_text i w j p.place h; good = tt }

  refused_hex_digits_have_fault_in_text : (s w i from to : ℕ) (k : Kind) → Inside (InText t) s i →
      hex_digits t w i (Refused k from to) → IsFault t s k from to
  refused_hex_digits_have_fault_in_text s w i from to k p (too_few h l e) = let f = h.forward in let late = p.late in
      record {
        late = omega arith;
        in_text = hex_digits_end_in_text i w from p.place h;
        one = e;
        plain = tt;
        means =
            tt;
      }

  hex_digits_read_soundly : (s w : ℕ) →
      HoareTriple (Inside (InText t) s) (hex_digits t w) (Ended (InText t) s Any) (IsFault t s)
  hex_digits_read_soundly s w =
      record { on_read = read_hex_digits_end_in_text s w; on_refused = refused_hex_digits_have_fault_in_text s w }

  -- two bytes on
  two_steps_end_in_text : (s i j : ℕ) (b : ℕ) → Inside (InText t) s i → slice_get t (i + 1) ≡ Some b → Steps 2 i j →
      Inside (InText t) s j
  two_steps_end_in_text s i j b p e w = let late = p.late in let by = w.by in let l = slice_get_within t (i + 1) b e in
      record { late = omega arith; place = omega arith }

  escape_reads_soundly : (s : ℕ) (o : Option ℕ) →
      HoareTriple (λ i. Inside (InText t) s i × (slice_get t (i + 1) ≡ o)) (escaped t o) (Ended (InText t) s Any)
      (IsFault t s)
  escape_reads_soundly s None =
      fails_meets_triple (λ i p. let q = p.0 in
      record { late = q.late; in_text = q.place; one = refl; plain = tt; means = tt })
  escape_reads_soundly s (Some b) =
      holds_branch_on (λ e.
      holds_skip (λ i j p w. let q = two_steps_end_in_text s i j b p.0 p.1 w in
      record { late = q.late; place = q.place; good = tt }))
      (λ e. holds_branch_on
      (λ e. holds_bind {mid = λ u. Inside (InText t) s}
      (holds_skip (λ i j p w. two_steps_end_in_text s i j b p.0 p.1 w))
      (λ u. hex_digits_read_soundly s 4))
      (λ e. holds_branch_on
      (λ e. holds_bind {mid = λ u. Inside (InText t) s}
      (holds_skip (λ i j p w. two_steps_end_in_text s i j b p.0 p.1 w))
      (λ u. hex_digits_read_soundly s 6))
      (λ e. fails_meets_triple
      (λ i p. let q = p.0 in record { late = q.late; in_text = q.place; one = refl; plain = tt; means = tt }))))

  -- before a unit there is no quote
  abbrev AtUnit : ℕ → Option ℕ → ℕ → Type 0
  AtUnit s o i = Inside (InText t) s i × (slice_get t i ≡ o) × (has_byte t 34 i ≡ false)

  pub string_unit_is_sound : (s : ℕ) (o : Option ℕ) →
      HoareTriple (AtUnit s o) (string_unit t o) (Ended (InText t) s Any)
      (IsFault t s)
  string_unit_is_sound s None =
      fails_meets_triple (λ i p. let q = p.0 in
      record { late = q.late; in_text = q.place; one = refl; plain = tt; means = p.2 })
  string_unit_is_sound s (Some b) =
      holds_branch_on (λ e.
      fails_meets_triple (λ i p. let q = p.0 in
      record {
        late = q.late;
        in_text = q.place;
        one = refl;
        plain = tt;
        means = holds-some (λ c. c == lf) (slice_get t i) b p.1 e;
      }))
      (λ e. holds_branch_on
      (λ e. holds_peek
      (λ o. holds_weaker (λ i p. (p.0.0, p.1)) (λ a j x. x) (λ k from to x. x) (escape_reads_soundly s o)))
      (λ e. holds_skip
      (λ i j p w. let q = p.0 in let late = q.late in let by = w.by in let l = slice_get_within t i b p.1 in
      record { late = omega arith; place = omega arith; good = tt })))

  abbrev AtQuote : ℕ → Unit {0} → ℕ → Type 0
  AtQuote s u j = Inside (InText t) s j × (has_byte t 34 j ≡ true)

  read_units_end_at_quote : (s i j : ℕ) (a : Unit {0}) → Inside (InText t) s i → string_units t i (Read a j) →
      AtQuote s a j
  read_units_end_at_quote s i j a p (before_quote e) = (p, e)
  read_units_end_at_quote s i j a p (unit_and_more {j = m} e x y) =
      let q = (string_unit_is_sound s (slice_get t i)).on_read i m tt (p, refl, e) x in
      read_units_end_at_quote s m j a (record { late = q.late; place = q.place }) y

  refused_units_have_fault_in_text : (s i from to : ℕ) (k : Kind) → Inside (InText t) s i →
      string_units t i (Refused k from to) → IsFault t s k from to
  refused_units_have_fault_in_text s i from to k p (unit_and_more {j = m} e x y) =
      let q = (string_unit_is_sound s (slice_get t i)).on_read i m tt (p, refl, e) x in
      refused_units_have_fault_in_text s m from to k (record { late = q.late; place = q.place }) y
  refused_units_have_fault_in_text s i from to k p (bad_unit e x) =
      (string_unit_is_sound s (slice_get t i)).on_refused i from to k (p, refl, e) x

module _ (t : List ℕ) (P : ℕ → Type 0) (cuts : AreBoundaries t P) where
  boundary_is_in_text : (s i : ℕ) → Inside P s i → Inside (InText t) s i
  boundary_is_in_text s i p = record { late = p.late; place = cuts.in_text i p.place }

  pub units_are_sound : {s : ℕ} → Sound t P s (string_units t) (λ u. Unit {0})
  units_are_sound {s = s} = record {
    holds = record {
      on_read = λ i j a p x. let q = read_units_end_at_quote t s i j a (boundary_is_in_text s i p) x in let r = q.0 in
          record { late = r.late; place = cuts.before j (byte_below_128_is_ascii t 34 j (omega arith) q.1); good = tt };
      on_refused = λ i from to k p x. refused_units_have_fault_in_text t s i from to k (boundary_is_in_text s i p) x;
    };
  }

  pub string_is_sound : {s : ℕ} → Sound t P s (string_literal t) (IsSpan P)
  string_is_sound = bind_is_sound (token_is_sound t P cuts 34 refl) (λ u v. here_is_sound
      (λ m q. bind_is_sound units_are_sound (λ u v.
      bind_is_sound (spanned_is_sound q.place)
      (λ value good. bind_is_sound (token_is_sound t P cuts 34 refl) (λ u v. yields_is_sound good)))))
