-- What is left of a text from a place on, and what it says of the places.
use Rattle.std.proofs.Common.{◌≡◌, ℕ, zero, suc, ◌+◌, ◌<◌, ◌≤◌, List, [], ◌∷◌, ◌++◌, length, drop, take, Option, Some}
use Rattle.std.proofs.Common.{None, Bool, true, false, refl, ◌∙◌, subst, ap, arith, length-drop, inl, inr}
use Rattle.std.specs.Prelude.{slice_get, slice_range, ◌||◌, ◌==◌}
use Rattle.std.specs.List.{list_all}
use Rattle.std.proofs.Math.Seq.{take-append_seam}
use Rattle.fluent_syntax_grammar.specs.Bytes.{lf, cr, space, is_space}
use Rattle.fluent_syntax_grammar.specs.Places.{holds, LongestRun, has, has_eol, after_eol, ByteRun, is_blank_place}
use Rattle.fluent_syntax_grammar.proofs.Facts.{and_gives_left, and_gives_right, at_most_is_same_or_next_on}
use Rattle.fluent_syntax_grammar.proofs.Stretches.{run_ends_here, run_goes_on}

-- From the place on, these bytes are left of the text.
pub record SuffixAt (t : List ℕ) (i : ℕ) (bs : List ℕ) : Type 0 where
  pub within : i ≤ length t
  pub rest : drop i t ≡ bs

-- the first byte, if there is one
abbrev pub first : List ℕ → Option ℕ
first [] = None
first (b ∷ bs) = Some b

-- the bytes after the first one
abbrev pub after_first : List ℕ → List ℕ
after_first [] = []
after_first (b ∷ bs) = bs

byte_is_first_of_drop : (t : List ℕ) (i : ℕ) → slice_get t i ≡ first (drop i t)
byte_is_first_of_drop [] zero = refl
byte_is_first_of_drop [] (suc i) = refl
byte_is_first_of_drop (b ∷ t) zero = refl
byte_is_first_of_drop (b ∷ t) (suc i) = byte_is_first_of_drop t i

drop_loses_first : (t : List ℕ) (i : ℕ) → drop (suc i) t ≡ after_first (drop i t)
drop_loses_first [] zero = refl
drop_loses_first [] (suc i) = refl
drop_loses_first (b ∷ t) zero = refl
drop_loses_first (b ∷ t) (suc i) = drop_loses_first t i

-- the whole text is left at its start
pub whole_text_is_suffix : (t : List ℕ) → SuffixAt t 0 t
whole_text_is_suffix t = record { within = omega arith; rest = refl }

-- the same bytes, stated otherwise
pub suffix_by_equality : {t : List ℕ} {i : ℕ} {bs cs : List ℕ} → bs ≡ cs → SuffixAt t i bs → SuffixAt t i cs
suffix_by_equality e h = record { within = h.within; rest = h.rest ∙ e }

-- the byte at the place
pub first_of_suffix : {t : List ℕ} {i : ℕ} {bs : List ℕ} → SuffixAt t i bs → slice_get t i ≡ first bs
first_of_suffix {t = t} {i = i} h = byte_is_first_of_drop t i ∙ ap first h.rest

pub suffix_reaches_end_of_text : {t : List ℕ} {i : ℕ} {bs : List ℕ} → SuffixAt t i bs → i + length bs ≡ length t
suffix_reaches_end_of_text {t = t} {i = i} h =
    let w = h.within in let l = length-drop i t in let e = ap length h.rest in omega arith

-- what is left says which place it is
pub equal_suffixes_are_at_one_place : {t : List ℕ} {i j : ℕ} {bs : List ℕ} → SuffixAt t i bs → SuffixAt t j bs → i ≡ j
equal_suffixes_are_at_one_place h g =
    let a = suffix_reaches_end_of_text h in let b = suffix_reaches_end_of_text g in omega arith

pub next_of_suffix : {t : List ℕ} {i b : ℕ} {bs : List ℕ} → SuffixAt t i (b ∷ bs) → SuffixAt t (i + 1) bs
next_of_suffix {t = t} {i = i} {b = b} {bs = bs} h =
    let n = suffix_reaches_end_of_text h in
    let s : suc i ≡ i + 1 = omega arith in
    record { within = omega arith; rest = subst (λ n. drop n t ≡ bs) s (drop_loses_first t i ∙ ap after_first h.rest) }

pub rest_past_front : {t : List ℕ} (xs : List ℕ) {ys : List ℕ} {i : ℕ} → SuffixAt t i (xs ++ ys) →
    SuffixAt t (i + length xs) ys
rest_past_front {t = t} [] {ys = ys} {i = i} h = let e : i ≡ i + 0 = omega arith in subst (λ n. SuffixAt t n ys) e h
rest_past_front {t = t} (x ∷ xs) {ys = ys} {i = i} h = let e : (i + 1) + length xs ≡ i + suc (length xs) =
    omega arith in
    subst (λ n. SuffixAt t n ys) e (rest_past_front xs {i = i + 1} (next_of_suffix h))

take_of_append_is_first : (n : ℕ) (xs ys : List ℕ) → n ≡ length xs → take n (xs ++ ys) ≡ xs
take_of_append_is_first n xs ys e = rw e (take-append_seam xs ys)

-- the bytes from the place to the end of the first part
pub range_over_prefix_is_prefix : {t : List ℕ} {i : ℕ} (xs ys : List ℕ) → SuffixAt t i (xs ++ ys) →
    slice_range t i (i + length xs) ≡ xs
range_over_prefix_is_prefix {t = t} {i = i} xs ys h = rw (h.rest) (take_of_append_is_first _ xs ys (omega arith))

-- ---- tests of the place

pub test_of_suffix : {t : List ℕ} {i : ℕ} {bs : List ℕ} (p : ℕ → Bool) → SuffixAt t i bs →
    has t p i ≡ holds p (first bs)
test_of_suffix p h = ap (holds p) (first_of_suffix h)

-- no line end begins with a byte that is neither LF nor CR
pub suffix_has_no_eol : {t : List ℕ} {i : ℕ} {bs : List ℕ} → SuffixAt t i bs → holds (λ b. b == lf) (first bs) ≡ false →
    holds (λ b. b == cr) (first bs) ≡ false → has_eol t i ≡ false
suffix_has_no_eol h e f = rw (first_of_suffix h, e, f) refl

pub suffix_has_no_after_eol : {t : List ℕ} {i : ℕ} {bs : List ℕ} → SuffixAt t i bs →
    holds (λ b. b == lf) (first bs) ≡ false →
    holds (λ b. b == cr) (first bs) ≡ false → after_eol t i ≡ None
suffix_has_no_after_eol h e f = rw (first_of_suffix h, e, f) refl

-- no blank place
suffix_is_no_blank : {t : List ℕ} {i : ℕ} {bs : List ℕ} → SuffixAt t i bs → holds is_space (first bs) ≡ false →
    holds (λ b. b == lf) (first bs) ≡ false → holds (λ b. b == cr) (first bs) ≡ false → is_blank_place t i ≡ false
suffix_is_no_blank h d e f = rw (first_of_suffix h, d, e, f) refl

-- ---- words

-- A word of a set: its bytes are in the set, and the next one is not.
pub suffix_byte_run : {t : List ℕ} (set : ℕ → Bool) (xs ys : List ℕ) {i : ℕ} → list_all set xs ≡ true →
    holds set (first ys) ≡ false → SuffixAt t i (xs ++ ys) → ByteRun t set i (i + length xs)
suffix_byte_run {t = t} set [] ys {i = i} a e h = let s : i ≡ i + 0 = omega arith in
    subst (λ n. ByteRun t set i n) s (run_ends_here (has t set) i (test_of_suffix set h ∙ e))
suffix_byte_run {t = t} set (x ∷ xs) ys {i = i} a e h =
    let s : (i + 1) + length xs ≡ i + suc (length xs) = omega arith in
    subst (λ n. ByteRun t set i n) s
    (run_goes_on (has t set) i _ (test_of_suffix set h ∙ and_gives_left (set x) (list_all set xs) a)
    (suffix_byte_run set xs ys {i = i + 1} (and_gives_right (set x) (list_all set xs) a) e (next_of_suffix h)))

-- Each of these bytes is in the set.
pub each_place_of_prefix_is_in_set : {t : List ℕ} (set : ℕ → Bool) (xs ys : List ℕ) {i : ℕ} → list_all set xs ≡ true →
    SuffixAt t i (xs ++ ys) →
    (k : ℕ) → i ≤ k → k < i + length xs → has t set k ≡ true
each_place_of_prefix_is_in_set set [] ys a h k l m = absurd (omega arith)
each_place_of_prefix_is_in_set {t = t} set (x ∷ xs) ys {i = i} a h k l m = elim (at_most_is_same_or_next_on i k l) [
  | inl e ↦ subst (λ k. has t set k ≡ true) e (test_of_suffix set h ∙ and_gives_left (set x) (list_all set xs) a)
  | inr n ↦ each_place_of_prefix_is_in_set set xs ys {i = i + 1} (and_gives_right (set x) (list_all set xs) a)
      (next_of_suffix h) k n (omega arith)
]

-- ---- blanks

-- a space or an LF
abbrev pub is_space_or_lf : ℕ → Bool
is_space_or_lf b = b == space || b == lf

or_with_third_is_true : (x y z : Bool) → (x || y) ≡ true → (x || (y || z)) ≡ true
or_with_third_is_true true y z e = refl
or_with_third_is_true false true z e = refl
or_with_third_is_true false false z e = cc

suffix_of_space_or_lf_is_at_blank_place : {t : List ℕ} {i b : ℕ} {bs : List ℕ} → is_space_or_lf b ≡ true →
    SuffixAt t i (b ∷ bs) → is_blank_place t i ≡ true
suffix_of_space_or_lf_is_at_blank_place {t = t} {i = i} {b = b} e h =
    rw (first_of_suffix h) (or_with_third_is_true (b == space) (b == lf) _ e)

-- spaces and LFs, before a byte that begins no blank
pub prefix_of_spaces_and_lfs_is_blank : {t : List ℕ} (xs ys : List ℕ) {i : ℕ} → list_all is_space_or_lf xs ≡ true →
    holds is_space (first ys) ≡ false → holds (λ b. b == lf) (first ys) ≡ false →
    holds (λ b. b == cr) (first ys) ≡ false →
    SuffixAt t i (xs ++ ys) → LongestRun (is_blank_place t) i (i + length xs)
prefix_of_spaces_and_lfs_is_blank {t = t} [] ys {i = i} a d e f h = let s : i ≡ i + 0 = omega arith in
    subst (λ n. LongestRun (is_blank_place t) i n) s (run_ends_here (is_blank_place t) i (suffix_is_no_blank h d e f))
prefix_of_spaces_and_lfs_is_blank {t = t} (x ∷ xs) ys {i = i} a d e f h =
    let s : (i + 1) + length xs ≡ i + suc (length xs) = omega arith in
    subst (λ n. LongestRun (is_blank_place t) i n) s
    (run_goes_on (is_blank_place t) i _
    (suffix_of_space_or_lf_is_at_blank_place (and_gives_left (is_space_or_lf x) (list_all is_space_or_lf xs) a) h)
    (prefix_of_spaces_and_lfs_is_blank xs ys {i = i + 1}
    (and_gives_right (is_space_or_lf x) (list_all is_space_or_lf xs) a) d e f
    (next_of_suffix h)))
