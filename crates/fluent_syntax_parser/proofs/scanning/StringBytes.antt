-- Bytes of string literals.
use Rattle.std.proofs.Common.{◌≡◌, ℕ, zero, suc, ◌+◌, ◌-◌, ◌<◌, ◌≤◌, true, false, List, [], ◌∷◌, ◌++◌, Option, Some}
use Rattle.std.proofs.Common.{None, refl, ◌∙◌, subst, ap, arith, inl, inr}
use Rattle.std.specs.Prelude.{slice_get, codes, ◌==◌, ◌||◌, ◌⊎◌}
use Rattle.std.specs.Fmt.{decimal}
use Rattle.std.proofs.lemmas.Fmt.{decimal_step, decimal_digit}
use Rattle.std.proofs.lemmas.Bool.Decides.{nat_tests}
use Rattle.fluent_syntax_grammar.specs.Bytes.{lf, backslash, double_quote, left_brace}
use Rattle.fluent_syntax_grammar.specs.Construct.{Outcome, Read, passed, second}
use Rattle.fluent_syntax_grammar.specs.Places.{holds, has, ByteRun}
use Rattle.fluent_syntax_grammar.specs.Strings.{string_unit, string_units, unit_and_more}
use Rattle.fluent_syntax_parser.specs.Strings.{is_plain}

pub decimal_32 : decimal 32 ≡ codes "32"
decimal_32 = decimal_step 32 (omega arith) (omega arith) ∙ ap (λ ds. ds ++ (50 ∷ [])) (decimal_digit 3 (omega arith))

pub simple_escape_passes_its_test : (b : ℕ) → (b ≡ double_quote) ⊎ ((b ≡ backslash) ⊎ (b ≡ left_brace)) →
    (b == backslash || b == double_quote || b == left_brace) ≡ true
simple_escape_passes_its_test b (inl e) = rw e refl
simple_escape_passes_its_test b (inr (inl e)) = rw e refl
simple_escape_passes_its_test b (inr (inr e)) = rw e refl

pub unequal_bytes_fail_equality_test : (b n : ℕ) → (b ≡ n → ⊥) → (b == n) ≡ false
unequal_bytes_fail_equality_test b n e = grind (arith, nat_tests)

pub other_byte_fails_simple_escape_test : (b : ℕ) → ((b ≡ double_quote) ⊎ ((b ≡ backslash) ⊎ (b ≡ left_brace)) → ⊥) →
    (b == backslash || b == double_quote || b == left_brace) ≡ false
other_byte_fails_simple_escape_test b none =
    rw (
      unequal_bytes_fail_equality_test b backslash (λ e. none (inr (inl e))),
      unequal_bytes_fail_equality_test b double_quote (λ e. none (inl e)),
      unequal_bytes_fail_equality_test b left_brace
          (λ e. none (inr (inr e))),
    ) refl

module _ (t : List ℕ) where
  plain_is_unit : (i : ℕ) (o : Option ℕ) → holds is_plain o ≡ true → string_unit t o i (Read tt (i + 1))
  plain_is_unit i None e = absurd (cc)
  plain_is_unit i (Some b) e =
      let no_lf : (b == lf) ≡ false = grind (arith, nat_tests) in
      let no_backslash : (b == backslash) ≡ false = grind (arith, nat_tests) in
      second no_lf (second no_backslash (passed (record { by = refl })))

  plain_byte_is_no_quote : (o : Option ℕ) → holds is_plain o ≡ true → holds (λ c. c == double_quote) o ≡ false
  plain_byte_is_no_quote None e = absurd (cc)
  plain_byte_is_no_quote (Some b) e = grind (arith, nat_tests)

  -- plain bytes are units
  units_hold_before_plain_places : (n i j : ℕ) (o : Outcome (Unit {0})) → j ≡ i + n →
      ((k : ℕ) → i ≤ k → k < j → has t is_plain k ≡ true) → string_units t j o → string_units t i o
  units_hold_before_plain_places zero i j o e plain rest =
      let same : j ≡ i = omega arith in subst (λ k. string_units t k o) same rest
  units_hold_before_plain_places (suc n) i j o e plain rest =
      let here = plain i (omega arith) (omega arith) in
      unit_and_more (plain_byte_is_no_quote (slice_get t i) here) (plain_is_unit i (slice_get t i) here)
      (units_hold_before_plain_places n (i + 1) j o (omega arith) (λ k l r. plain k (omega arith) r) rest)

  pub units_hold_before_plain_bytes : (i j : ℕ) (o : Outcome (Unit {0})) → ByteRun t is_plain i j → string_units t j o
      → string_units t i o
  units_hold_before_plain_bytes i j o w rest =
      units_hold_before_plain_places (j - i) i j o (omega (arith, w.forward)) w.each rest

  stop_of_plain_bytes_is_lf : (b : ℕ) → is_plain b ≡ false → (b ≡ double_quote → ⊥) → (b ≡ backslash → ⊥) → b ≡ lf
  stop_of_plain_bytes_is_lf b e one two = grind (arith, nat_tests)

  pub place_of_other_stop_is_lf : (i b : ℕ) → slice_get t i ≡ Some b → has t is_plain i ≡ false →
      (b ≡ double_quote → ⊥) → (b ≡ backslash → ⊥) → slice_get t i ≡ Some lf
  place_of_other_stop_is_lf i b e stop one two =
      let f = rw e at stop in e ∙ ap Some (stop_of_plain_bytes_is_lf b f one two)
