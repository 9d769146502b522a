-- Runs of bytes that are looked at several at a time: from the lanes to the bytes.
use Rattle.std.proofs.Common.{◌≡◌, ℕ, suc, ◌+◌, ◌%◌, ◌^◌, ◌<◌, ◌≤◌, ◌==◌, eqb, Bool, true, false, ◌&&◌, not, cond, List}
use Rattle.std.proofs.Common.{[], ◌∷◌, map, length, get_or, Fits, w8, sym, ap, ◌∙◌, refl, inl, inr, arith}
use Rattle.std.proofs.lemmas.Bool.{agree_below, agree_below_at, cases_lt}
use Rattle.std.proofs.lemmas.Bool.Decides.{nat_tests}
use Rattle.std.proofs.lemmas.List.{length-map}
use Rattle.std.proofs.lemmas.List.Sums.{prefix_len_is}
use Rattle.std.proofs.lemmas.Option.{slice_get-get_or}
use Rattle.std.proofs.lemmas.Simd.{first_set_mask_l, length-chunk, map-map, mask_l-mod, run_in_chunk_fails}
use Rattle.std.proofs.lemmas.Simd.{run_in_chunk_le, run_in_chunk_stops}
use Rattle.std.specs.List.{list_all, prefix_len}
use lib.Count.{count_trailing_zeros}
use lib.Lanes.{chunk, mask_l, top}
use Rattle.fluent_syntax_grammar.specs.Lanes.{RunOf}
use Rattle.fluent_syntax_grammar.specs.Places.{holds, has}

-- the lanes that are set before none is, of n
abbrev pub lanes_before : (n lanes_give_mask_of_chunk : ℕ) → ℕ
lanes_before n lanes_give_mask_of_chunk =
    cond (eqb lanes_give_mask_of_chunk 0) n (count_trailing_zeros 64 lanes_give_mask_of_chunk)

negation_false_is_true : (a b : Bool) → a ≡ not b → a ≡ false → b ≡ true
negation_false_is_true a true e f = refl
negation_false_is_true a false e f = cc

negation_true_is_false : (a b : Bool) → a ≡ not b → a ≡ true → b ≡ false
negation_true_is_false a true e f = cc
negation_true_is_false a false e f = refl

module _ (test : ℕ → Bool) (t : List ℕ) (i n r : ℕ) (room : i + n ≤ length t) (few : n ≤ 64)
    (fits : (k : ℕ) → Fits w8 (get_or t k 0)) (lane : ℕ → ℕ)
    (exact : agree_below (λ x. top 7 (lane x)) (λ x. not (test x)) 256 ≡ true) (lanes : List ℕ)
    (are : lanes ≡ map lane (chunk i n t)) (found : r ≡ lanes_before n (mask_l (map (top 7) lanes) % 2 ^ 64)) where
  abbrev stops : ℕ → Bool
  stops x = top 7 (lane x)

  lanes_give_mask_of_chunk : mask_l (map (top 7) lanes) % 2 ^ 64 ≡ mask_l (map stops (chunk i n t))
  lanes_give_mask_of_chunk =
      let v = chunk i n t in
      ap (λ z. mask_l z % 2 ^ 64) (ap (map (top 7)) are ∙ map-map (top 7) lane v)
      ∙ mask_l-mod (map stops v) 64 (omega (arith, length-map v stops, length-chunk i n t room))

  count_is_prefix_before_first_stop : r ≡ prefix_len (λ x. not (stops x)) (chunk i n t)
  count_is_prefix_before_first_stop =
      found ∙ (ap (lanes_before n) lanes_give_mask_of_chunk ∙
      first_set_mask_l stops (chunk i n t) n (length-chunk i n t room) few)

  lane_stops_where_test_fails : (k : ℕ) → stops (get_or t k 0) ≡ not (test (get_or t k 0))
  lane_stops_where_test_fails k = agree_below_at stops (λ x. not (test x)) 256 (get_or t k 0) exact (fits k).fits

  count_is_at_most_lanes : r ≤ n
  count_is_at_most_lanes = run_in_chunk_le stops t i n r 0 room count_is_prefix_before_first_stop

  -- a lane is set just where the test fails
  pub lanes_count_run : RunOf test t i n r
  lanes_count_run = record {
    within = count_is_at_most_lanes;
    each = λ k from to.
        rw (slice_get-get_or t k 0 (omega (arith, count_is_at_most_lanes)))
        (negation_false_is_true _ _ (lane_stops_where_test_fails k)
        (run_in_chunk_fails stops t i n r 0 room count_is_prefix_before_first_stop k from to));
    stops = λ short.
        rw (slice_get-get_or t (i + r) 0 (omega arith))
        (negation_true_is_false _ _ (lane_stops_where_test_fails (i + r))
        (run_in_chunk_stops stops t i n r 0 room count_is_prefix_before_first_stop short));
  }

-- ---- How many bytes pass

module _ (test : ℕ → Bool) (t : List ℕ) where
  test_of_byte_is_test_at_place : (k : ℕ) (b : Bool) → k < length t → has t test k ≡ b → test (get_or t k 0) ≡ b
  test_of_byte_is_test_at_place k b within is = ap (holds test) (sym (slice_get-get_or t k 0 within)) ∙ is

  -- the bytes before the run, and those of the run, if it ends before its n bytes or the text does
  pub run_after_prefix_is_prefix_length : (i n r : ℕ) → i + n ≤ length t → ((k : ℕ) → k < i → has t test k ≡ true) →
      RunOf test t i n r
      → (i + r < length t → r < n) → i + r ≡ prefix_len test t
  run_after_prefix_is_prefix_length i n r room before run ends =
      sym (prefix_len_is test t (i + r) 0 (omega (arith, run.within))
      (λ k within. test_of_byte_is_test_at_place k true (omega (arith, run.within)) (elim (cases_lt k i) [
        | inl first ↦ before k first
        | inr beyond ↦ run.each k (omega (arith, beyond)) within
      ]))
      (λ more. test_of_byte_is_test_at_place (i + r) false more (run.stops (ends more))))

all_by_first : (first : Bool) (n m : ℕ) (rest : Bool) → (n == m) ≡ rest
    → (cond first (1 + n) 0 == suc m) ≡ (first && rest)
all_by_first true n m true is = grind (arith, nat_tests)
all_by_first true n m false is = grind (arith, nat_tests)
all_by_first false n m rest is = grind (arith, nat_tests)

-- All bytes pass just where as many pass as there are.
pub prefix_is_whole_when_all_pass : (test : ℕ → Bool) (t : List ℕ) → (prefix_len test t == length t) ≡ list_all test t
prefix_is_whole_when_all_pass test [] = refl
prefix_is_whole_when_all_pass test (b ∷ bs) =
    all_by_first (test b) (prefix_len test bs) (length bs) (list_all test bs) (prefix_is_whole_when_all_pass test bs)
