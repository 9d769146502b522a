-- A column from the line's start.
use Rattle.std.proofs.Common.{◌≡◌, ◌≢◌, ◌-◌, ◌+◌, ◌≤◌, ◌<◌, ◌==◌, ℕ, List, length, take, get_or, not, true, false}
use Rattle.std.proofs.Common.{arith, sym, subst}
use Rattle.std.proofs.lemmas.Bool.Decides.{nat_tests}
use Rattle.std.proofs.lemmas.List.{get_or-take, length-take-le}
use Rattle.std.proofs.lemmas.List.Sums.{suffix_len_is}
use Rattle.std.specs.List.{suffix_len}
use Rattle.fluent_syntax.specs.Lines.{column_at}

byte_but_lf_passes_not_lf_test : (b : ℕ) → b ≢ 10 → not (b == 10) ≡ true
byte_but_lf_passes_not_lf_test b h = grind (arith, nat_tests)

lf_fails_not_lf_test : (b : ℕ) → b ≡ 10 → not (b == 10) ≡ false
lf_fails_not_lf_test b h = grind (arith, nat_tests)

pub column_counts_from_line_start : (t : List ℕ) (place start : ℕ) → place ≤ length t → start ≤ place →
    (0 < start → get_or t (start - 1) 0 ≡ 10) → ((k : ℕ) → start ≤ k → k < place → get_or t k 0 ≢ 10) →
    1 + place - start ≡ column_at t place
column_counts_from_line_start t place start h before starts line =
    let b = take place t in
    let len : length b ≡ place = length-take-le place t h in
    let each : (k : ℕ) → start ≤ k → k < length b → not (get_or b k 0 == 10) ≡ true =
    λ k f l. let inside : k < place = omega (arith, len) in
    subst (λ x. not (x == 10) ≡ true) (sym (get_or-take place t k 0 inside))
    (byte_but_lf_passes_not_lf_test (get_or t k 0) (line k f inside)) in
    let stop : 0 < start → not (get_or b (start - 1) 0 == 10) ≡ false =
    λ f. let inside : start - 1 < place = omega arith in
    subst (λ x. not (x == 10) ≡ false) (sym (get_or-take place t (start - 1) 0 inside))
    (lf_fails_not_lf_test (get_or t (start - 1) 0) (starts f)) in
    let within : start ≤ length b = omega (arith, len) in
    let e : suffix_len (λ x. not (x == 10)) b ≡ length b - start =
    suffix_len_is (λ x. not (x == 10)) b start 0 within each stop in
    omega (arith, e, len)
