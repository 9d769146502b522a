-- Runs of text: the texts of a readable pattern are runs, or runs and an LF.
use Rattle.std.proofs.Common.{◌≡◌, ℕ, suc, ◌+◌, List, [], ◌∷◌, ◌++◌, length, Some, None, Bool, true, false, refl, sym}
use Rattle.std.proofs.Common.{◌∙◌, subst, ap, arith}
use Rattle.std.specs.Prelude.{◌==◌, ◌||◌, ◌&&◌, not}
use Rattle.std.specs.List.{list_all, list_any}
use Rattle.fluent_syntax_grammar.specs.PatternTexts.{is_brace, has_crlf}
use Rattle.fluent_syntax_grammar.specs.Bytes.{lf, cr}
use Rattle.fluent_syntax_grammar.specs.Places.{holds, LongestRun}
use Rattle.fluent_syntax_grammar.specs.Lines.{is_run_place}
use Rattle.fluent_syntax_grammar.specs.Elements.{without_last_lf}
use Rattle.fluent_syntax_grammar.specs.Written.{last_of, is_last, has_lf}
use Rattle.fluent_syntax_grammar.specs.Readable.{is_text}
use Rattle.fluent_syntax_grammar.proofs.Facts.{and_gives_left, and_gives_right, same_by_test}
use Rattle.fluent_syntax_grammar.proofs.Tests.{true_and_true, and_is_false_by_right}
use Rattle.fluent_syntax_grammar.proofs.Stretches.{run_ends_here, run_goes_on}
use Rattle.fluent_syntax_grammar.proofs.SuffixAt.{SuffixAt, first, first_of_suffix, next_of_suffix}
use Rattle.fluent_syntax_grammar.proofs.forward.Spells.{nonempty_has_last_byte}
use Rattle.fluent_syntax_grammar.proofs.Tests.{false_or_left, false_or_right, not_true_is_false}

-- a byte that no run ends at
abbrev pub is_run_byte : ℕ → Bool
is_run_byte b = not (b == lf || b == 123 || b == 125)

-- the last byte is a CR and an LF follows
abbrev pub ends_in_cr_before : List ℕ → List ℕ → Bool
ends_in_cr_before xs ys = is_last cr (last_of None xs) && holds (λ b. b == lf) (first ys)

pub run_byte_is_no_lf : (b : ℕ) → is_run_byte b ≡ true → (b == lf) ≡ false
run_byte_is_no_lf b e = first_false (b == lf) (b == 123) (b == 125) e
  where
    first_false : (x y z : Bool) → not (x || y || z) ≡ true → x ≡ false
    first_false false y z e = refl
    first_false true y z e = cc

-- no line end begins inside a run
pub no_eol_in_run : (x : ℕ) (xs ys : List ℕ) → list_all is_run_byte xs ≡ true → ends_in_cr_before (x ∷ xs) ys ≡ false →
    ((x == cr) && holds (λ b. b == lf) (first (xs ++ ys))) ≡ false
no_eol_in_run x [] ys a e = e
no_eol_in_run x (y ∷ xs) ys a e =
    and_is_false_by_right (x == cr) (y == lf)
    (run_byte_is_no_lf y (and_gives_left (is_run_byte y) (list_all is_run_byte xs) a))

rest_ends_in_no_cr : (x : ℕ) (xs ys : List ℕ) → ends_in_cr_before (x ∷ xs) ys ≡ false → ends_in_cr_before xs ys ≡ false
rest_ends_in_no_cr x [] ys e = refl
rest_ends_in_no_cr x (y ∷ xs) ys e = e

pub place_of_run_byte_is_run_place : (t : List ℕ) (i x : ℕ) (bs : List ℕ) → is_run_byte x ≡ true →
    ((x == cr) && holds (λ b. b == lf) (first bs)) ≡ false → SuffixAt t i (x ∷ bs) → is_run_place t i ≡ true
place_of_run_byte_is_run_place t i x bs e f l =
    rw (first_of_suffix l, first_of_suffix (next_of_suffix l), e, run_byte_is_no_lf x e, f) refl

run_ends_before_other : (t : List ℕ) (i : ℕ) (bs : List ℕ) → holds is_run_byte (first bs) ≡ false → SuffixAt t i bs →
    is_run_place t i ≡ false
run_ends_before_other t i bs e l = rw (first_of_suffix l, e) refl

-- a run reaches over these bytes
pub suffix_has_run : (t xs ys : List ℕ) (i : ℕ) → list_all is_run_byte xs ≡ true → ends_in_cr_before xs ys ≡ false →
    holds is_run_byte (first ys) ≡ false → SuffixAt t i (xs ++ ys) → LongestRun (is_run_place t) i (i + length xs)
suffix_has_run t [] ys i a f e l = let s : i ≡ i + 0 = omega arith in
    subst (λ n. LongestRun (is_run_place t) i n) s (run_ends_here (is_run_place t) i (run_ends_before_other t i ys e l))
suffix_has_run t (x ∷ xs) ys i a f e l =
    let s : (i + 1) + length xs ≡ i + suc (length xs) = omega arith in
    let more = and_gives_right (is_run_byte x) (list_all is_run_byte xs) a in
    subst (λ n. LongestRun (is_run_place t) i n) s
    (run_goes_on (is_run_place t) i
    _ (place_of_run_byte_is_run_place t i x (xs ++ ys) (and_gives_left (is_run_byte x) (list_all is_run_byte xs) a)
    (no_eol_in_run x xs ys more f)
    l) (suffix_has_run t xs ys (i + 1) more (rest_ends_in_no_cr x xs ys f) e (next_of_suffix l)))

-- ---- the texts of a pattern

-- a run alone, or a run that may be empty and an LF
pub data TextForm (v : List ℕ) : Type 0 where
  alone : list_all is_run_byte v ≡ true → TextForm v
  with_lf : (body : List ℕ) → v ≡ body ++ (lf ∷ []) → list_all is_run_byte body ≡ true →
      is_last cr (last_of None body) ≡ false → TextForm v

-- an LF that ends a text is taken off
pub lf_is_taken_off : (u : List ℕ) → without_last_lf (u ++ (lf ∷ [])) ≡ u
lf_is_taken_off [] = refl
lf_is_taken_off (x ∷ []) = refl
lf_is_taken_off (x ∷ y ∷ u) = ap (λ v. x ∷ v) (lf_is_taken_off (y ∷ u))

other_last_byte_is_kept : (u : List ℕ) (b : ℕ) → (b == lf) ≡ false → without_last_lf (u ++ (b ∷ [])) ≡ u ++ (b ∷ [])
other_last_byte_is_kept [] b e = rw e refl
other_last_byte_is_kept (x ∷ []) b e = rw e refl
other_last_byte_is_kept (x ∷ y ∷ u) b e = ap (λ v. x ∷ v) (other_last_byte_is_kept (y ∷ u) b e)

pub text_without_brace_and_lf_is_run : (v : List ℕ) → list_any is_brace v ≡ false → has_lf v ≡ false →
    list_all is_run_byte v ≡ true
text_without_brace_and_lf_is_run [] e f = refl
text_without_brace_and_lf_is_run (b ∷ v) e f =
    true_and_true (byte_of (b == lf) (b == 123) (b == 125) (false_or_left (b == lf) (has_lf v) f)
    (false_or_left (is_brace b) (list_any is_brace v) e))
    (text_without_brace_and_lf_is_run v (false_or_right (is_brace b) (list_any is_brace v) e)
    (false_or_right (b == lf) (has_lf v) f))
  where
    byte_of : (x y z : Bool) → x ≡ false → (y || z) ≡ false → not (x || y || z) ≡ true
    byte_of false false false e f = refl
    byte_of true y z e f = cc
    byte_of false true z e f = cc
    byte_of false false true e f = cc

none_passes_in_front_of_append : (p : ℕ → Bool) (u w : List ℕ) → list_any p (u ++ w) ≡ false → list_any p u ≡ false
none_passes_in_front_of_append p [] w e = refl
none_passes_in_front_of_append p (x ∷ u) w e =
    front_of (p x) (list_any p (u ++ w)) (list_any p u) e (none_passes_in_front_of_append p u w)
  where
    front_of : (x y z : Bool) → (x || y) ≡ false → (y ≡ false → z ≡ false) → (x || z) ≡ false
    front_of false y z e f = f e
    front_of true y z e f = cc

no_cr_is_before_last_lf : (x : ℕ) (u : List ℕ) → has_crlf ((x ∷ u) ++ (lf ∷ [])) ≡ false →
    is_last cr (last_of (Some x) u) ≡ false
no_cr_is_before_last_lf x [] e = cr_of (x == cr) e
  where
    cr_of : (b : Bool) → (b && true || false) ≡ false → b ≡ false
    cr_of true e = cc
    cr_of false e = refl
no_cr_is_before_last_lf x (y ∷ u) e =
    no_cr_is_before_last_lf y u (false_or_right (x == cr && y == lf) (has_crlf ((y ∷ u) ++ (lf ∷ []))) e)

no_crlf_ends_in_no_cr : (u : List ℕ) → has_crlf (u ++ (lf ∷ [])) ≡ false → is_last cr (last_of None u) ≡ false
no_crlf_ends_in_no_cr [] e = refl
no_crlf_ends_in_no_cr (x ∷ u) e = no_cr_is_before_last_lf x u e

text_has_form_by_its_last_byte : (u : List ℕ) (b : ℕ) (x : Bool) → (b == lf) ≡ x →
    list_any is_brace (u ++ (b ∷ [])) ≡ false →
    has_crlf (u ++ (b ∷ [])) ≡ false → has_lf (without_last_lf (u ++ (b ∷ []))) ≡ false → TextForm (u ++ (b ∷ []))
text_has_form_by_its_last_byte u b true e f g h =
    let same : b ≡ lf = same_by_test b lf e in
    subst (λ b. TextForm (u ++ (b ∷ []))) (sym same)
    (with_lf u refl
    (text_without_brace_and_lf_is_run u (none_passes_in_front_of_append is_brace u (b ∷ []) f)
    (sym (ap has_lf (subst (λ b. without_last_lf (u ++ (b ∷ [])) ≡ u) (sym same) (lf_is_taken_off u))) ∙ h))
    (no_crlf_ends_in_no_cr u (subst (λ b. has_crlf (u ++ (b ∷ [])) ≡ false) same g)))
text_has_form_by_its_last_byte u b false e f g h =
    alone (text_without_brace_and_lf_is_run (u ++ (b ∷ [])) f (sym (ap has_lf (other_last_byte_is_kept u b e)) ∙ h))

pub text_is_run_or_run_with_lf : (v : List ℕ) → is_text v ≡ true → TextForm v
text_is_run_or_run_with_lf [] e = absurd cc
text_is_run_or_run_with_lf (c ∷ v) e =
    let r = nonempty_has_last_byte c v in
    let a = not_true_is_false (list_any is_brace (c ∷ v)) (and_gives_left (not (list_any is_brace (c ∷ v))) _ e) in
    let b = and_gives_right (not (list_any is_brace (c ∷ v))) _ e in
    let d = not_true_is_false (has_crlf (c ∷ v)) (and_gives_left (not (has_crlf (c ∷ v))) _ b) in
    let g = not_true_is_false (has_lf (without_last_lf (c ∷ v))) (and_gives_right (not (has_crlf (c ∷ v))) _ b) in
    subst TextForm (sym r.is)
    (text_has_form_by_its_last_byte r.front r.byte (r.byte == lf) refl (subst (λ v. list_any is_brace v ≡ false) r.is a)
    (subst (λ v. has_crlf v ≡ false) r.is d) (subst (λ v. has_lf (without_last_lf v) ≡ false) r.is g))
