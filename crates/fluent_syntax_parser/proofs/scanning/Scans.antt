-- Runs of bytes that a search has passed over.
use Rattle.std.proofs.Common.{◌≡◌, ℕ, ◌+◌, ◌-◌, ◌<◌, ◌≤◌, Bool, true, false, not, List, length, take, drop, get_or}
use Rattle.std.proofs.Common.{Option, Some, None, refl, sym, ◌∙◌, subst, ap, arith, inl, inr, get_or-drop, length-drop}
use Rattle.std.specs.Prelude.{unwrap_or}
use Rattle.std.proofs.lemmas.Bool.{cases_lt, not_from_false, not_from_true, false_from_ne_true}
use Rattle.std.proofs.lemmas.List.{get_or-take, length-take}
use Rattle.std.proofs.lemmas.Option.{slice_get-get_or, slice_get_past}
use Rattle.memchr.specs.Find.{Passes, NoneBefore, Nowhere, IsFirstByte}
use Rattle.fluent_syntax_grammar.specs.Places.{has, ByteRun}

module _ (t : List ℕ) (test : ℕ → Bool) (i : ℕ) (within : i ≤ length t) where
  -- the text from i on
  abbrev pub rest : List ℕ
  rest = take (length t - i) (drop i t)

  rest_has_length_to_end : length rest ≡ length t - i
  rest_has_length_to_end = omega (arith, length-take {A = ℕ}, length-drop {A = ℕ})

  byte_of_rest_is_byte_of_text : (k : ℕ) → i + k < length t → get_or rest k 0 ≡ get_or t (i + k) 0
  byte_of_rest_is_byte_of_text k l =
      let h : k < length t - i = omega arith in get_or-take (length t - i) (drop i t) k 0 h ∙ get_or-drop i t k 0

  byte_of_text_is_byte_of_rest : (k : ℕ) → k < length t → i ≤ k → get_or rest (k - i) 0 ≡ get_or t k 0
  byte_of_text_is_byte_of_rest k l r =
      let e : i + (k - i) ≡ k = omega arith in
      byte_of_rest_is_byte_of_text (k - i) (omega arith) ∙ ap (λ n. get_or t n 0) e

  failing_byte_is_off_test : (k : ℕ) → k < length t → test (get_or t k 0) ≡ false → has t (λ b. not (test b)) k ≡ true
  failing_byte_is_off_test k l e = rw (slice_get-get_or t k 0 l) (not_from_false _ e)

  passing_byte_stops_run : (k : ℕ) → k < length t → test (get_or t k 0) ≡ true → has t (λ b. not (test b)) k ≡ false
  passing_byte_stops_run k l e = rw (slice_get-get_or t k 0 l) (not_from_true _ e)

  places_before_first_byte_are_passed : (len k : ℕ) → len ≤ length t - i → Nowhere (Passes test rest) 0 len → i ≤ k →
      k < i + len → has t (λ b. not (test b)) k ≡ true
  places_before_first_byte_are_passed len k most none l r =
      failing_byte_is_off_test k (omega arith)
      (false_from_ne_true _
      (λ e. none (k - i) (omega arith) (omega arith)
      (ap test (byte_of_text_is_byte_of_rest k (omega arith) l) ∙ e)))

  end_of_text_is_off_test : has t (λ b. not (test b)) (length t) ≡ false
  end_of_text_is_off_test = rw (slice_get_past t (length t) (omega arith)) refl

  -- the search has found nothing
  scan_to_end_is_byte_run : Nowhere (Passes test rest) 0 (length rest) → ByteRun t (λ b. not (test b)) i (length t)
  scan_to_end_is_byte_run none =
      let e = rest_has_length_to_end in
      record {
        forward = within;
        each = λ k l r. places_before_first_byte_are_passed (length rest) k (omega arith) none l (omega arith);
        longest = end_of_text_is_off_test;
      }

  -- the search has found a byte
  scan_to_first_byte_is_byte_run : (len : ℕ) → NoneBefore (Passes test rest) 0 (length rest) len →
      Passes test rest len → ByteRun t (λ b. not (test b)) i (i + len)
  scan_to_first_byte_is_byte_run len before here =
      let e = rest_has_length_to_end in
      let h = before.high in
      record {
        forward = omega arith;
        each = λ k l r. places_before_first_byte_are_passed len k (omega arith) before.before l r;
        longest = passing_byte_stops_run (i + len) (omega arith)
            (ap test (sym (byte_of_rest_is_byte_of_text len (omega arith))) ∙ here);
      }

  pub scan_is_byte_run : (r : Option ℕ) → IsFirstByte test rest r
      → ByteRun t (λ b. not (test b)) i (i + unwrap_or r (length rest))
  scan_is_byte_run None h =
      let e : length t ≡ i + length rest = omega (arith, rest_has_length_to_end) in
      let P = λ (n : ℕ). ByteRun t (λ b. not (test b)) i n in
      subst P e (scan_to_end_is_byte_run h)
  scan_is_byte_run (Some len) h = scan_to_first_byte_is_byte_run len h.0 h.1

-- A run that begins where all before passed begins with that.
pub passing_prefix_extends_run : (t : List ℕ) (test : ℕ → Bool) (i j m : ℕ) → i ≤ j →
    ((k : ℕ) → i ≤ k → k < j → has t test k ≡ true) → ByteRun t test j m → ByteRun t test i m
passing_prefix_extends_run t test i j m ordered passed word = record {
  forward = omega (arith, ordered, word.forward);
  each = λ k from to. elim (cases_lt k j) [
    | inl before ↦ passed k from before
    | inr beyond ↦ word.each k (omega (arith, beyond)) to
  ];
  longest = word.longest;
}
