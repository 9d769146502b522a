-- Where a text ends that is trimmed: within it, before a byte of ASCII or where it ended.
use Rattle.std.proofs.Common.{◌≡◌, ℕ, zero, suc, ◌<◌, ◌≤◌, List, length, Bool, true, false, refl, subst, get_or}
use Rattle.std.proofs.Common.{arith, inl, inr}
use Rattle.std.specs.Prelude.{if◌then◌else◌, ◌⊎◌}
use Rattle.std.specs.Str.{IsCharBoundary}
use Rattle.std.proofs.lemmas.Bool.Decides.{nat_tests}
use Rattle.fluent_syntax_tree.specs.Text.{is_trimmed, trimmed_len_below, trimmed_len}

pub trimmed_len_below-le : (bs : List ℕ) (n : ℕ) → trimmed_len_below bs n ≤ n
trimmed_len_below-le bs zero = omega arith
trimmed_len_below-le bs (suc n) = step (is_trimmed (get_or bs n 0)) (trimmed_len_below-le bs n)
  where
    step : (b : Bool) → trimmed_len_below bs n ≤ n → (if b then trimmed_len_below bs n else suc n) ≤ suc n
    step true l = omega arith
    step false l = omega arith

trimmed_byte_is_ascii : (b : ℕ) → is_trimmed b ≡ true → b < 128
trimmed_byte_is_ascii b e = grind (arith, nat_tests)

lt_or_same : (k n : ℕ) → k ≤ n → (k < n) ⊎ (n ≡ k)
lt_or_same k n l = grind arith

-- the byte that follows what is left
abbrev next_byte : List ℕ → ℕ → ℕ
next_byte bs n = get_or bs (trimmed_len_below bs n) 0

next_byte_stays_ascii : (bs : List ℕ) (n : ℕ) (b : Bool) → is_trimmed (get_or bs n 0) ≡ b →
    (trimmed_len_below bs n < n → next_byte bs n < 128) →
    (if b then trimmed_len_below bs n else suc n) < suc n →
    get_or bs (if b then trimmed_len_below bs n else suc n) 0 < 128
next_byte_stays_ascii bs n true e below l = elim (lt_or_same (trimmed_len_below bs n) n (trimmed_len_below-le bs n)) [
  | inl less ↦ below less
  | inr same ↦ subst (λ k. get_or bs k 0 < 128) same (trimmed_byte_is_ascii (get_or bs n 0) e)
]
next_byte_stays_ascii bs n false e below l = absurd (omega arith)

next_is_ascii : (bs : List ℕ) (n : ℕ) → trimmed_len_below bs n < n → next_byte bs n < 128
next_is_ascii bs zero l = absurd (omega arith)
next_is_ascii bs (suc n) l = next_byte_stays_ascii bs n (is_trimmed (get_or bs n 0)) refl (next_is_ascii bs n) l

pub trimmed_len_is_boundary : (bs : List ℕ) → IsCharBoundary bs (trimmed_len bs)
trimmed_len_is_boundary bs =
    (trimmed_len_below-le bs (length bs), λ l high. let low = next_is_ascii bs (length bs) l in absurd (omega arith))
