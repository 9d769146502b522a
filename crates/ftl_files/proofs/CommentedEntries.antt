-- Entries in the order of their places.
use Rattle.std.proofs.Common.{◌≡◌, ◌-◌, ◌<◌, ◌≤◌, ℕ, Bool, true, false, List, [], ◌∷◌, leb, map}
use Rattle.std.proofs.Common.{arith, get_or, inl, inr, length, refl}
use Rattle.std.specs.Prelude.{All}
use Rattle.std.specs.Borrow.{Bor}
use Rattle.std.specs.List.{list_any}
use Rattle.std.specs.List.Sorted.{IsNonDecreasingBy, IsPartitionPoint, IsPermutation}
use Rattle.std.proofs.Math.Nat.{le_antisymm}
use Rattle.std.proofs.lemmas.Bool.{cases_Bool, cases_lt}
use Rattle.std.proofs.lemmas.List.Recursion.{max_bounds, max_least}
use Rattle.std.proofs.lemmas.List.Sorted.{All-permutation, IsPermutation-sym}
use Rattle.ftl_files.specs.CommentRules.{latest, start_of, within}
use Rattle.ftl_files.specs.declared.comment_rules.CommentedEntry.{CommentedEntry}

abbrev latest_of : ℕ → List CommentedEntry → ℕ
latest_of place entries = latest place (map start_of entries)

abbrev within_of : ℕ → CommentedEntry → ℕ
within_of place entry = within place (start_of entry)

each_is_at_most_latest : (place : ℕ) (entries : List CommentedEntry) (k : ℕ) (d : CommentedEntry) →
    k < length entries → within_of place (get_or entries k d) ≤ latest_of place entries
each_is_at_most_latest place entries k d inside =
    max_bounds (latest_of place) (within_of place) refl (λ entry rest. refl) entries k d inside

latest_is_least : (place most : ℕ) (entries : List CommentedEntry) (d : CommentedEntry) →
    ((k : ℕ) → k < length entries → within_of place (get_or entries k d) ≤ most) → latest_of place entries ≤ most
latest_is_least place most entries d each =
    max_least (latest_of place) (within_of place) refl (λ entry rest. refl) entries d most each

latest_is_at_most_that_of_other_order : (place : ℕ) (entries others : List CommentedEntry) →
    IsPermutation entries others → latest_of place others ≤ latest_of place entries
latest_is_at_most_that_of_other_order place entries [] moved = omega arith
latest_is_at_most_that_of_other_order place entries (other ∷ others) moved =
    let each : All (λ entry. within_of place entry ≤ latest_of place entries) (other ∷ others) =
    All-permutation (λ entry. within_of place entry ≤ latest_of place entries) entries (other ∷ others) moved
    (each_is_at_most_latest place entries) in
    latest_is_least place (latest_of place entries) (other ∷ others) other (λ k inside. each k other inside)

pub latest_is_same_in_other_order : (place : ℕ) (entries others : List CommentedEntry) →
    IsPermutation entries others → latest place (map start_of others) ≡ latest place (map start_of entries)
latest_is_same_in_other_order place entries others moved =
    le_antisymm (latest_is_at_most_that_of_other_order place entries others moved)
    (latest_is_at_most_that_of_other_order place others entries (IsPermutation-sym entries others moved))

start_before_place_is_within : (place start : ℕ) → leb start place ≡ true → within place start ≡ start
start_before_place_is_within place start before = rw before refl

start_beyond_place_is_0 : (place start : ℕ) → leb start place ≡ false → within place start ≡ 0
start_beyond_place_is_0 place start beyond = rw beyond refl

within_is_at_most_start : (place start : ℕ) → within place start ≤ start
within_is_at_most_start place start =
    elim (cases_Bool (leb start place)) [
      | inl before ↦ omega (arith, start_before_place_is_within place start before)
      | inr beyond ↦ omega (arith, start_beyond_place_is_0 place start beyond)
    ]

module _ (place : ℕ) (entries : List CommentedEntry) (count : ℕ) (d : CommentedEntry)
    (point : IsPartitionPoint (λ (entry : CommentedEntry). leb (start_of entry) place ≡ true)
    (λ entry. leb (start_of entry) place ≡ false) entries count) where
  entry_beyond_point_is_0 : (k : ℕ) → count ≤ k → k < length entries → within_of place (get_or entries k d) ≡ 0
  entry_beyond_point_is_0 k beyond inside =
      start_beyond_place_is_0 place (start_of (get_or entries k d)) (point.1 k d beyond inside)

  nothing_is_before_point : count ≡ 0 → latest place (map start_of entries) ≡ 0
  nothing_is_before_point none =
      let least : latest_of place entries ≤ 0 =
      latest_is_least place 0 entries d
      (λ k inside. omega (arith, entry_beyond_point_is_0 k (omega (arith, none)) inside)) in
      omega arith

  pub last_before_point_is_latest : IsNonDecreasingBy start_of entries → 0 < count → count ≤ length entries →
      latest place (map start_of entries) ≡ start_of (get_or entries (count - 1) d)
  last_before_point_is_latest sorted some within_entries =
      let last = get_or entries (count - 1) d in
      let before : leb (start_of last) place ≡ true = point.0 (count - 1) d (omega arith) (omega arith) in
      let at_least : within_of place last ≤ latest_of place entries =
      each_is_at_most_latest place entries (count - 1) d (omega arith) in
      let least : latest_of place entries ≤ start_of last =
      latest_is_least place (start_of last) entries d
      (λ k inside. elim (cases_lt k count) [
        | inl early ↦
            let up : start_of (get_or entries k d) ≤ start_of last =
            sorted k (count - 1) d (omega arith) (omega arith) in
            omega (arith, within_is_at_most_start place (start_of (get_or entries k d)))
        | inr beyond ↦ omega (arith, entry_beyond_point_is_0 k beyond inside)
      ]) in
      omega (arith, start_before_place_is_within place (start_of last) before)

pub latest_is_0_if_all_are_beyond : (place : ℕ) (entries : List CommentedEntry) (count : ℕ) →
    IsPartitionPoint (λ (entry : CommentedEntry). leb (start_of entry) place ≡ true)
    (λ entry. leb (start_of entry) place ≡ false) entries count →
    count ≡ 0 → latest place (map start_of entries) ≡ 0
latest_is_0_if_all_are_beyond place [] count point none = refl
latest_is_0_if_all_are_beyond place (entry ∷ entries) count point none =
    nothing_is_before_point place (entry ∷ entries) count entry point none

pub any_word_is_any_of_bytes : (covers : List ℕ → Bool) (words : List (Bor (List ℕ))) →
    list_any (λ word. covers word.now) words ≡ list_any covers (map (λ word. word.now) words)
any_word_is_any_of_bytes covers [] = refl
any_word_is_any_of_bytes covers (word ∷ words) = rw (any_word_is_any_of_bytes covers words) refl
