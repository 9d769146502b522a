-- Runs of a pattern's text: where they end.
use Rattle.std.proofs.Common.{◌≡◌, ℕ, ◌+◌, ◌-◌, ◌<◌, ◌≤◌, Bool, true, false, not, List, Option, Some, None, refl}
use Rattle.std.proofs.Common.{arith, inl, inr}
use Rattle.std.specs.Prelude.{slice_get, ◌&&◌, ◌||◌, ◌==◌, ◌⊎◌}
use Rattle.std.proofs.lemmas.Bool.{false≢true}
use Rattle.std.proofs.lemmas.Bool.Decides.{nat_tests}
use Rattle.fluent_syntax_grammar.specs.Bytes.{lf, cr, left_brace, right_brace}
use Rattle.fluent_syntax_grammar.specs.Places.{LongestRun, holds, has, has_byte, ByteRun}
use Rattle.fluent_syntax_grammar.specs.Lines.{is_run_place}
use Rattle.fluent_syntax_grammar.proofs.Tests.{and_is_false_by_right}
use Rattle.fluent_syntax_grammar.specs.Lanes.{is_passed}

passed_byte_is_run_place : (o : Option ℕ) (eol : Bool) → holds is_passed o ≡ true → eol ≡ false →
    (holds (λ b. not (b == lf || b == left_brace || b == right_brace)) o && not (holds (λ c. c == lf) o || eol)) ≡ true
passed_byte_is_run_place None eol e f = absurd (false≢true e)
passed_byte_is_run_place (Some b) eol e f = grind (arith, nat_tests)

passed_byte_is_no_lf : (o : Option ℕ) → holds is_passed o ≡ true → holds (λ c. c == lf) o ≡ false
passed_byte_is_no_lf None e = refl
passed_byte_is_no_lf (Some b) e = grind (arith, nat_tests)

module _ (t : List ℕ) (i m : ℕ) (word : ByteRun t is_passed i m) where
  other_byte_ends_run : (x : Bool) (o : Option ℕ) → holds is_passed o ≡ false →
      (holds (λ b. not (b == lf || b == left_brace || b == right_brace)) o && x) ≡ false
  other_byte_ends_run x o e = rw e refl

  place_before_end_is_run_place : (k : ℕ) → i ≤ k → k < m →
      (k + 1 ≡ m → (has_byte t cr k && has_byte t lf (k + 1)) ≡ false) →
      (k + 1 < m) ⊎ (k + 1 ≡ m) → is_run_place t k ≡ true
  place_before_end_is_run_place k l r last (inl more) =
      passed_byte_is_run_place (slice_get t k) _ (word.each k l r)
      (and_is_false_by_right (has_byte t cr k) (has_byte t lf (k + 1))
      (passed_byte_is_no_lf (slice_get t (k + 1))
      (word.each (k + 1) (omega arith) more)))
  place_before_end_is_run_place k l r last (inr end) =
      passed_byte_is_run_place (slice_get t k) _ (word.each k l r) (last end)

  place_is_last_or_before_last : (k : ℕ) → k < m → (k + 1 < m) ⊎ (k + 1 ≡ m)
  place_is_last_or_before_last k l = grind arith

  -- no CRLF ends the search
  pub passed_bytes_are_longest_run : (i < m → (has_byte t cr (m - 1) && has_byte t lf m) ≡ false) →
      LongestRun (is_run_place t) i m
  passed_bytes_are_longest_run last = record {
    forward = word.forward;
    each = λ k l r. place_before_end_is_run_place k l r
        (λ e. let f : k ≡ m - 1 = omega arith in rw (e, f) (last (omega arith)))
        (place_is_last_or_before_last k r);
    longest = other_byte_ends_run _ (slice_get t m) word.longest;
  }

  run_test_fails_at_crlf : (a b c d : Bool) → c ≡ true → d ≡ true → (a && not (b || c && d)) ≡ false
  run_test_fails_at_crlf true true c d e f = refl
  run_test_fails_at_crlf true false c d e f = rw (e, f) refl
  run_test_fails_at_crlf false b c d e f = refl

  -- a CRLF ends it, at its LF
  pub run_ends_before_crlf : i < m → has_byte t cr (m - 1) ≡ true → has_byte t lf m ≡ true →
      LongestRun (is_run_place t) i (m - 1)
  run_ends_before_crlf l e f =
      let next : m - 1 + 1 ≡ m = omega arith in
      record {
        forward = omega arith;
        each = λ k a b. place_before_end_is_run_place k a (omega arith) (λ g. absurd (omega arith)) (inl (omega arith));
        longest =
            run_test_fails_at_crlf (has t (λ b. not (b == lf || b == left_brace || b == right_brace)) (m - 1))
            (has_byte t lf (m - 1)) (has_byte t cr (m - 1)) (has_byte t lf (m - 1 + 1)) e
            (rw next f);
      }
