-- Texts by their lines and bytes.
use Rattle.std.proofs.Common.{◌≡◌, ℕ, [], ◌∷◌, Bool, true, false, ◌&&◌, ◌||◌, ◌==◌, not, refl, sym, ap, ◌∙◌}
use Rattle.std.proofs.Common.{subst, length, arith}
use Rattle.std.proofs.lemmas.Bool.Decides.{nat_tests}
use Rattle.std.specs.List.{list_all, list_any}
use Rattle.fluent_syntax_grammar.specs.Bytes.{lf, cr, left_brace, right_brace}
use Rattle.fluent_syntax_grammar.specs.Elements.{without_last_lf}
use Rattle.fluent_syntax_grammar.specs.Lanes.{is_passed}
use Rattle.fluent_syntax_grammar.specs.PatternTexts.{is_brace, is_empty, has_crlf}
use Rattle.fluent_syntax_grammar.specs.Readable.{is_text}
use Rattle.fluent_syntax_grammar.specs.Written.{Text, has_lf}
use Rattle.fluent_syntax_grammar.proofs.Facts.{same_by_test}
use Rattle.fluent_syntax_grammar.proofs.Tests.{and_with_false_is_false, false_or_left, false_or_right}
use Rattle.fluent_syntax_writer.specs.Texts.{ends_in_crlf}

-- whether an LF directly follows a CR, which may be before the text
abbrev pub has_crlf_after : Bool → Text → Bool
has_crlf_after after_cr [] = false
has_crlf_after after_cr (b ∷ bs) = after_cr && b == lf || has_crlf_after (b == cr) bs

pub has_crlf_after-false : (bs : Text) → has_crlf_after false bs ≡ has_crlf bs
has_crlf_after-false [] = refl
has_crlf_after-false (b ∷ []) = refl
has_crlf_after-false (b ∷ c ∷ bs) = ap (λ r. b == cr && c == lf || r) (has_crlf_after-false (c ∷ bs))

-- ---- A text by its line, which is what comes before the LF that ends it

-- What is so of one LF, and of each other byte, is so of each byte.
holds_by_lf_or_other : (P : ℕ → Type 0) → P lf → ((b : ℕ) → (b == lf) ≡ false → P b) → (b : ℕ) → P b
holds_by_lf_or_other P one other b = at (b == lf) refl
  where
    at : (is : Bool) → (b == lf) ≡ is → P b
    at true e = subst P (sym (same_by_test b lf e)) one
    at false e = other b e

without_last_lf_keeps_braces : (v : Text) → list_any is_brace (without_last_lf v) ≡ list_any is_brace v
without_last_lf_keeps_braces [] = refl
without_last_lf_keeps_braces (b ∷ []) =
    holds_by_lf_or_other (λ c. list_any is_brace (without_last_lf (c ∷ [])) ≡ list_any is_brace (c ∷ [])) refl
    (λ c other. rw other refl) b
without_last_lf_keeps_braces (b ∷ c ∷ bs) = ap (λ r. is_brace b || r) (without_last_lf_keeps_braces (c ∷ bs))

is_passed_splits_in_two : (l x y braces lfs : Bool)
    → (not (l || x || y) && (not braces && not lfs)) ≡ (not ((x || y) || braces) && not (l || lfs))
is_passed_splits_in_two true x y braces lfs = sym (and_with_false_is_false (not ((x || y) || braces)))
is_passed_splits_in_two false true y braces lfs = refl
is_passed_splits_in_two false false true braces lfs = refl
is_passed_splits_in_two false false false braces lfs = refl

passed_has_no_brace_or_lf : (u : Text) → list_all is_passed u ≡ (not (list_any is_brace u) && not (has_lf u))
passed_has_no_brace_or_lf [] = refl
passed_has_no_brace_or_lf (b ∷ bs) =
    ap (λ r. is_passed b && r) (passed_has_no_brace_or_lf bs)
    ∙ is_passed_splits_in_two (b == lf) (b == left_brace) (b == right_brace) (list_any is_brace bs) (has_lf bs)

last_lf_makes_crlf : (r : Bool) → (r && true || false) ≡ (true && r)
last_lf_makes_crlf true = refl
last_lf_makes_crlf false = refl

crlf_is_last : (v : Text) → has_lf (without_last_lf v) ≡ false → has_crlf v ≡ ends_in_crlf v
crlf_is_last [] none = refl
crlf_is_last (b ∷ []) none =
    holds_by_lf_or_other (λ c. has_crlf (c ∷ []) ≡ ends_in_crlf (c ∷ [])) refl (λ c other. rw other refl) b
crlf_is_last (b ∷ c ∷ []) none =
    holds_by_lf_or_other (λ d. has_crlf (b ∷ d ∷ []) ≡ ends_in_crlf (b ∷ d ∷ [])) (last_lf_makes_crlf (b == cr))
    (λ d other. rw (other, and_with_false_is_false (b == cr)) refl) c
crlf_is_last (b ∷ c ∷ d ∷ bs) none =
    let rest = false_or_right (b == lf) _ none in
    let other = false_or_left (c == lf) (has_lf (without_last_lf (d ∷ bs))) rest in
    rw (other, and_with_false_is_false (b == cr)) (crlf_is_last (c ∷ d ∷ bs) rest)

tests_by_parts_agree : (placeable_item braces lfs crlf at_end : Bool) → (lfs ≡ false → crlf ≡ at_end)
    → (placeable_item && ((not braces && not lfs) && not at_end))
    ≡ (placeable_item && (not braces && (not crlf && not lfs)))
tests_by_parts_agree false braces lfs crlf at_end same = refl
tests_by_parts_agree true true lfs crlf at_end same = refl
tests_by_parts_agree true false true crlf at_end same = sym (and_with_false_is_false (not crlf))
tests_by_parts_agree true false false true at_end same = ap not (sym (same refl))
tests_by_parts_agree true false false false at_end same = ap not (sym (same refl))

pub is_empty-length : (v : Text) → is_empty v ≡ (length v == 0)
is_empty-length [] = refl
is_empty-length (b ∷ bs) = grind (arith, nat_tests)

pub is_text-line : (v : Text)
    → (not (is_empty v) && (list_all is_passed (without_last_lf v) && not (ends_in_crlf v))) ≡ is_text v
is_text-line v =
    let line = without_last_lf v in
    ap (λ passed. not (is_empty v) && (passed && not (ends_in_crlf v)))
    (passed_has_no_brace_or_lf line ∙ ap (λ braces. not braces && not (has_lf line)) (without_last_lf_keeps_braces v))
    ∙ tests_by_parts_agree (not (is_empty v)) (list_any is_brace v) (has_lf line) (has_crlf v) (ends_in_crlf v)
    (crlf_is_last v)
