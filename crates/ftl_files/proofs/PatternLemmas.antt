-- Names with a `*`.
use Rattle.std.proofs.Common.{◌≡◌, ◌∙◌, ◌+◌, ◌-◌, ◌<◌, ◌≤◌, ◌==◌, ℕ, zero, suc, Bool, true, false, List, [], ◌∷◌}
use Rattle.std.proofs.Common.{ap, arith, drop, inl, inr, length, refl, sym, take}
use Rattle.std.proofs.lemmas.Bool.{cases_Bool, or_cases, and_parts, or_left, or_right}
use Rattle.std.proofs.lemmas.List.{take_all}
use Rattle.ftl_files.specs.Patterns.{Meeting, meeting, name_matches, of_rest, of_some_end, same, differs, star}

-- whether the rest of what was met matches
abbrev pub matches_on : Meeting → Bool
matches_on same = true
matches_on differs = false
matches_on (star pattern name) = of_some_end (name_matches pattern) name

pub matches_by_meeting : (pattern name : List ℕ) → name_matches pattern name ≡ matches_on (meeting pattern name)
matches_by_meeting [] [] = refl
matches_by_meeting [] (byte ∷ name) = refl
matches_by_meeting (byte ∷ pattern) [] = elim (cases_Bool (byte == 42)) [ inl is ↦ rw is refl | inr is ↦ rw is refl ]
matches_by_meeting (byte ∷ pattern) (first ∷ name) =
    elim (cases_Bool (byte == 42)) [
      | inl is ↦ rw is refl
      | inr is ↦ elim (cases_Bool (byte == first)) [
        | inl alike ↦ rw (is, alike) (matches_by_meeting pattern name)
        | inr other ↦ rw (is, other) refl
      ]
    ]

-- what holds of an end of an end holds of an end
pub end_of_rest_is_end_of_name : (holds : List ℕ → Bool) (name : List ℕ) (k : ℕ) →
    of_some_end holds (drop k name) ≡ true →
    of_some_end holds name ≡ true
end_of_rest_is_end_of_name holds [] zero is = is
end_of_rest_is_end_of_name holds [] (suc k) is = is
end_of_rest_is_end_of_name holds (byte ∷ name) zero is = is
end_of_rest_is_end_of_name holds (byte ∷ name) (suc k) is =
    or_right (holds (byte ∷ name)) (of_some_end holds name) (end_of_rest_is_end_of_name holds name k is)

-- what holds of the rest of an end holds of an end of the rest
rest_that_holds_is_dropped : (byte : ℕ) (holds : List ℕ → Bool) (first : ℕ) (name : List ℕ) (k : ℕ) →
    of_rest byte holds (drop k (first ∷ name)) ≡ true → holds (drop k name) ≡ true
rest_that_holds_is_dropped byte holds first name zero is = (and_parts (byte == first) (holds name) is).1
rest_that_holds_is_dropped byte holds first [] (suc zero) is = cc
rest_that_holds_is_dropped byte holds first [] (suc (suc k)) is = cc
rest_that_holds_is_dropped byte holds first (next ∷ name) (suc k) is =
    rest_that_holds_is_dropped byte holds next name k is

-- a pattern that begins with a `*`
star_matches_what_rest_matches : (byte : ℕ) (pattern name more rest : List ℕ) (k : ℕ) → byte == 42 ≡ true →
    meeting (byte ∷ pattern) name ≡ star more rest → name_matches (byte ∷ pattern) (drop k name) ≡ true →
    of_some_end (name_matches more) rest ≡ true
star_matches_what_rest_matches byte pattern name more rest k found met is =
    let starred = rw found at met in
    let same_more : pattern ≡ more = cc in
    let same_rest : name ≡ rest = cc in
    rw (sym same_more, sym same_rest) (end_of_rest_is_end_of_name (name_matches pattern) name k (rw found at is))

-- what follows the first `*` matches further on, if the whole does
pub rest_matches_from_further_place : (pattern name more rest : List ℕ) (k : ℕ) →
    meeting pattern name ≡ star more rest →
    name_matches pattern (drop k name) ≡ true → of_some_end (name_matches more) rest ≡ true
rest_matches_from_further_place [] [] more rest k met is = cc
rest_matches_from_further_place [] (byte ∷ name) more rest k met is = cc
rest_matches_from_further_place (byte ∷ pattern) [] more rest k met is =
    elim (cases_Bool (byte == 42)) [
      | inl found ↦ star_matches_what_rest_matches byte pattern [] more rest k found met is
      | inr other ↦ let never = rw other at met in cc
    ]
rest_matches_from_further_place (byte ∷ pattern) (first ∷ name) more rest k met is =
    elim (cases_Bool (byte == 42)) [
      | inl found ↦ star_matches_what_rest_matches byte pattern (first ∷ name) more rest k found met is
      | inr other ↦ elim (cases_Bool (byte == first)) [
        | inl alike ↦
            rest_matches_from_further_place pattern name more rest k (rw (other, alike) at met)
            (rest_that_holds_is_dropped byte (name_matches pattern) first name k (rw other at is))
        | inr unlike ↦ let never = rw (other, unlike) at met in cc
      ]
    ]

rest_after_first_is_dropped_next : (k : ℕ) (byte : ℕ) (end name : List ℕ) → byte ∷ end ≡ drop k name →
    end ≡ drop (suc k) name
rest_after_first_is_dropped_next zero byte end [] at = cc
rest_after_first_is_dropped_next zero byte end (first ∷ name) at = cc
rest_after_first_is_dropped_next (suc k) byte end [] at = cc
rest_after_first_is_dropped_next (suc k) byte end (first ∷ name) at =
    rest_after_first_is_dropped_next k byte end name at

pub some_end_matches_from_further_place : (pattern name more rest end : List ℕ) (k : ℕ) →
    meeting pattern name ≡ star more rest →
    end ≡ drop k name → of_some_end (name_matches pattern) end ≡ true → of_some_end (name_matches more) rest ≡ true
some_end_matches_from_further_place pattern name more rest [] k met at is =
    rest_matches_from_further_place pattern name more rest k met (rw at at is)
some_end_matches_from_further_place pattern name more rest (byte ∷ end) k met at is =
    elim (or_cases (name_matches pattern (byte ∷ end)) (of_some_end (name_matches pattern) end) is) [
      | inl here ↦ rest_matches_from_further_place pattern name more rest k met (rw at at here)
      | inr later ↦
          some_end_matches_from_further_place pattern name more rest end (suc k) met
          (rest_after_first_is_dropped_next k byte end name at) later
    ]

-- what matches here does so at some end
pub whole_that_holds_is_some_end : (holds : List ℕ → Bool) (name : List ℕ) → holds name ≡ true →
    of_some_end holds name ≡ true
whole_that_holds_is_some_end holds [] is = is
whole_that_holds_is_some_end holds (byte ∷ name) is = or_left (holds (byte ∷ name)) (of_some_end holds name) is

tests_that_imply_each_other_are_same : (a b : Bool) → (a ≡ true → b ≡ true) → (b ≡ true → a ≡ true) → a ≡ b
tests_that_imply_each_other_are_same true b on back = sym (on refl)
tests_that_imply_each_other_are_same false true on back = back refl
tests_that_imply_each_other_are_same false false on back = refl

-- the first place is the best one
pub first_is_best : (pattern name more rest : List ℕ) → meeting pattern name ≡ star more rest →
    of_some_end (name_matches more) rest ≡ of_some_end (name_matches pattern) name
first_is_best pattern name more rest met =
    tests_that_imply_each_other_are_same _ _
    (λ is. whole_that_holds_is_some_end (name_matches pattern) name
    (matches_by_meeting pattern name ∙ ap matches_on met ∙ is))
    (some_end_matches_from_further_place pattern name more rest name zero met refl)

starred_is_shorter : (byte : ℕ) (pattern name more rest : List ℕ) → byte == 42 ≡ true →
    meeting (byte ∷ pattern) name ≡ star more rest →
    length more + length rest < length (byte ∷ pattern) + length name
starred_is_shorter byte pattern name more rest found met =
    let starred = rw found at met in
    let same_more : pattern ≡ more = cc in
    let same_rest : name ≡ rest = cc in
    rw (sym same_more, sym same_rest) (omega arith)

pub star_is_shorter : (pattern name more rest : List ℕ) → meeting pattern name ≡ star more rest →
    length more + length rest < length pattern + length name
star_is_shorter [] [] more rest met = cc
star_is_shorter [] (byte ∷ name) more rest met = cc
star_is_shorter (byte ∷ pattern) [] more rest met =
    elim (cases_Bool (byte == 42)) [
      | inl found ↦ starred_is_shorter byte pattern [] more rest found met
      | inr other ↦ let never = rw other at met in cc
    ]
star_is_shorter (byte ∷ pattern) (first ∷ name) more rest met =
    elim (cases_Bool (byte == 42)) [
      | inl found ↦ starred_is_shorter byte pattern (first ∷ name) more rest found met
      | inr other ↦ elim (cases_Bool (byte == first)) [
        | inl alike ↦
            let less = star_is_shorter pattern name more rest (rw (other, alike) at met) in
            omega arith
        | inr unlike ↦ let never = rw (other, unlike) at met in cc
      ]
    ]

-- where the pattern differs, it matches further on, if at all
pub some_end_matches_before_last_byte : (pattern name : List ℕ) → meeting pattern name ≡ differs → 1 ≤ length name →
    of_some_end (name_matches pattern) (take (length name - 1) (drop 1 name)) ≡ of_some_end (name_matches pattern) name
some_end_matches_before_last_byte pattern [] met some = absurd (omega arith)
some_end_matches_before_last_byte pattern (byte ∷ name) met some =
    let fails = matches_by_meeting pattern (byte ∷ name) ∙ ap matches_on met in
    rw fails (ap (of_some_end (name_matches pattern)) (take_all (length (byte ∷ name) - 1) name (omega arith)))

pub no_further_end : (pattern name : List ℕ) → meeting pattern name ≡ differs → length name < 1 →
    of_some_end (name_matches pattern) name ≡ false
no_further_end pattern [] met none = matches_by_meeting pattern [] ∙ ap matches_on met
no_further_end pattern (byte ∷ name) met none = absurd (omega arith)
