-- What is shown of a line depends only on what is near the place.
use Rattle.std.proofs.Common.{◌≡◌, ◌≢◌, ◌∙◌, ◌-◌, ◌+◌, ◌*◌, ◌<◌, ◌≤◌, ℕ, List, [], ◌∷◌, ◌++◌, ap, arith, cond, get_or}
use Rattle.std.proofs.Common.{length, refl, sym, subst, take, drop, Bool, true, false, length-append, ◌⊎◌, ⊎_elim, inl}
use Rattle.std.proofs.Common.{inr, take_all, not, true≢false, codes, if◌then◌else◌, length-drop, length-take-le}
use Rattle.std.specs.Prelude.{nat_lt, reverse}
use Rattle.std.specs.Str.{chars, IsCharBoundary, IsUtf8}
use Rattle.std.specs.List.{suffix_len, before_first, prefix_len, position_or_len}
use Rattle.std.specs.Str.Lines.{strip_carriage_return}
use Rattle.std.proofs.Math.Dec.{eqb}
use Rattle.std.proofs.Math.Seq.{drop-append-add, take-append-add, take-add}
use Rattle.std.proofs.lemmas.Bool.{cases_eq, cases_lt, eq-eqb, lt-ltb, ne_eqb}
use Rattle.std.proofs.lemmas.List.{take-append-le, drop-append-le, take-append-drop, append-nil, reverse-append}
use Rattle.std.proofs.lemmas.List.{length-reverse, get_or-reverse, get_or-append-add, take-take, drop-drop, drop-take}
use Rattle.std.specs.Char.{len_utf8}
use Rattle.std.proofs.lemmas.Str.{IsCharBoundary-past_char, IsUtf8-between, IsUtf8-take, IsUtf8-drop}
use Rattle.std.proofs.lemmas.Str.{IsCharBoundary-before_ascii, IsCharBoundary-after_ascii, IsCharBoundary-start}
use Rattle.std.proofs.lemmas.Str.{chars-append, encodes-chars, length-encode, len_utf8_bounds}
use Rattle.ftl_project.proofs.LineEnds.{line_ends_in_cr}
use Rattle.std.proofs.lemmas.List.Folds.{prefix_len-append}
use Rattle.std.proofs.lemmas.List.Sums.{prefix_len-le-length, prefix_len_stops, suffix_len-le-length}
use Rattle.std.proofs.Math.Utf8.{encodes, encode}
use Rattle.ftl_project.specs.Excerpt.{last_line, is_in_line, is_line_feed, begins_with_line_feed, front, back, excerpt}
use Rattle.ftl_project.specs.Excerpt.{shown_front, shown_back, below_front, window, below}

equal_or_not : (a b : ℕ) → ((eqb a b ≡ true) × (a ≡ b)) ⊎ ((eqb a b ≡ false) × (a ≢ b))
equal_or_not a b = ⊎_elim (λ same. inl (eq-eqb a b same, same)) (λ other. inr (ne_eqb a b other, other)) (cases_eq a b)

-- ---- bytes and characters

char_has_at_most_four_bytes : (cs : List ℕ) → length (encodes cs) ≤ 4 * length cs
char_has_at_most_four_bytes [] = omega arith
char_has_at_most_four_bytes (c ∷ cs) =
    omega (
      arith,
      length-append (encode c) (encodes cs),
      length-encode c,
      (len_utf8_bounds c).1,
      char_has_at_most_four_bytes cs,
    )

pub text_has_at_most_four_bytes_per_char : (t : List ℕ) → IsUtf8 t → length t ≤ 4 * length (chars t)
text_has_at_most_four_bytes_per_char t utf8 =
    omega (arith, char_has_at_most_four_bytes (chars t), ap length (encodes-chars t utf8))

-- ---- the window

window_of_append_is_window_of_second : (x t : List ℕ) → window < length t →
    drop (length (x ++ t) - window) (x ++ t) ≡ drop (length t - window) t
window_of_append_is_window_of_second x t long =
    let start : length (x ++ t) - window ≡ length x + (length t - window) = omega (arith, length-append x t) in
    ap (λ n. drop n (x ++ t)) start ∙ drop-append-add x t (length t - window)

-- what is before the window is not shown
pub front_window_shows_what_whole_shows : (x t : List ℕ) → IsUtf8 x → window < length (chars t) →
    (shown_front (x ++ t) ≡ shown_front t) × (below_front (x ++ t) ≡ below_front t)
front_window_shows_what_whole_shows x t utf8 long =
    let all = chars-append x t utf8 in
    let more : nat_lt 0 (length (chars x ++ chars t) - window) ≡ true =
    lt-ltb 0 _ (omega (arith, length-append (chars x) (chars t))) in
    let some : nat_lt 0 (length (chars t) - window) ≡ true = lt-ltb 0 _ (omega arith) in (
      rw (all, more, some, window_of_append_is_window_of_second (chars x) (chars t) long) refl,
      rw (all, more, some, window_of_append_is_window_of_second (chars x) (chars t) long) refl,
    )

-- nor is what is after it
pub back_window_shows_what_whole_shows : (t y : List ℕ) → IsUtf8 t → window < length (chars t) →
    shown_back (t ++ y) ≡ shown_back t
back_window_shows_what_whole_shows t y utf8 long =
    let all = chars-append t y utf8 in
    let more : nat_lt window (length (chars t ++ chars y)) ≡ true =
    lt-ltb window _ (omega (arith, length-append (chars t) (chars y))) in
    let some : nat_lt window (length (chars t)) ≡ true = lt-ltb window _ long in
    rw (all, more, some, take-append-le window (chars t) (chars y) (omega arith)) refl

-- ---- the line

byte_off_line_is_line_feed : (b : ℕ) → is_in_line b ≡ false → b ≡ 10
byte_off_line_is_line_feed b test =
    ⊎_elim (λ feed. feed.1) (λ other. absurd (true≢false (ap not (sym other.0) ∙ test))) (equal_or_not b 10)

suffix_len-append : {X : Type 0} (p : X → Bool) → (xs ys : List X) → suffix_len p (xs ++ ys)
    ≡ cond (eqb (suffix_len p ys) (length ys)) (length ys + suffix_len p xs) (suffix_len p ys)
suffix_len-append p xs ys =
    ap (prefix_len p) (reverse-append xs ys) ∙ prefix_len-append p (reverse ys) (reverse xs)
    ∙ ap (λ n. cond (eqb (suffix_len p ys) n) (n + suffix_len p xs) (suffix_len p ys)) (length-reverse ys)

-- either the line begins before the second text, or in it
last_line_of_append_is_near : (x t : List ℕ) →
    ((last_line (x ++ t) ≡ last_line x ++ t) × (last_line t ≡ t)) ⊎ (last_line (x ++ t) ≡ last_line t)
last_line_of_append_is_near x t =
    let ends = suffix_len-append is_in_line x t in
    let within = suffix_len-le-length is_in_line t in
    let before = suffix_len-le-length is_in_line x in
    ⊎_elim (λ whole.
    let sum : suffix_len is_in_line (x ++ t) ≡ length t + suffix_len is_in_line x =
    ends ∙ ap (λ b. cond b (length t + suffix_len is_in_line x) (suffix_len is_in_line t)) whole.0 in
    let start : length (x ++ t) - suffix_len is_in_line (x ++ t) ≡ length x - suffix_len is_in_line x =
    omega (arith, length-append x t) in
    let none : length t - suffix_len is_in_line t ≡ 0 = omega (arith, whole.1) in
    inl (ap (λ n. drop n (x ++ t)) start ∙ drop-append-le _ x t (omega arith), ap (λ n. drop n t) none))
    (λ part.
    let same : suffix_len is_in_line (x ++ t) ≡ suffix_len is_in_line t =
    ends ∙ ap (λ b. cond b (length t + suffix_len is_in_line x) (suffix_len is_in_line t)) part.0 in
    let start : length (x ++ t) - suffix_len is_in_line (x ++ t) ≡ length x + (length t - suffix_len is_in_line t) =
    omega (arith, length-append x t) in
    inr (ap (λ n. drop n (x ++ t)) start ∙ drop-append-add x t _))
    (equal_or_not (suffix_len is_in_line t) (length t))

-- either the line ends after the first text, or in it
first_line_of_append_is_near : (t y : List ℕ) →
    ((before_first is_line_feed (t ++ y) ≡ t ++ before_first is_line_feed y) × (before_first is_line_feed t ≡ t))
    ⊎ (before_first is_line_feed (t ++ y) ≡ before_first is_line_feed t)
first_line_of_append_is_near t y =
    let ends = prefix_len-append (λ b. not (is_line_feed b)) t y in
    let within = prefix_len-le-length (λ b. not (is_line_feed b)) t in
    ⊎_elim (λ whole.
    let sum : position_or_len is_line_feed (t ++ y) ≡ length t + position_or_len is_line_feed y =
    ends ∙ ap (λ b. cond b (length t + position_or_len is_line_feed y) (position_or_len is_line_feed t)) whole.0 in
    let le : length t ≤ length t = omega arith in
    inl (ap (λ n. take n (t ++ y)) sum ∙ take-append-add t y _, ap (λ n. take n t) whole.1 ∙ take_all (length t) t le))
    (λ part.
    let same : position_or_len is_line_feed (t ++ y) ≡ position_or_len is_line_feed t =
    ends ∙ ap (λ b. cond b (length t + position_or_len is_line_feed y) (position_or_len is_line_feed t)) part.0 in
    inr (ap (λ n. take n (t ++ y)) same ∙ take-append-le _ t y within))
    (equal_or_not (position_or_len is_line_feed t) (length t))

-- ---- the line's end

strip_drops_last_byte_or_nothing : (t : List ℕ) →
    ((strip_carriage_return t ≡ take (length t - 1) t) × (get_or t (length t - 1) 0 ≡ 13))
    ⊎ ((strip_carriage_return t ≡ t) × (get_or t (length t - 1) 0 ≢ 13))
strip_drops_last_byte_or_nothing t =
    ⊎_elim (λ cr. inl (ap (λ b. cond b (take (length t - 1) t) t) cr.0, cr.1))
    (λ other. inr (ap (λ b. cond b (take (length t - 1) t) t) other.0, other.1))
    (equal_or_not (get_or t (length t - 1) 0) 13)

text_with_last_byte_is_not_empty : (t : List ℕ) → get_or t (length t - 1) 0 ≡ 13 → 0 < length t
text_with_last_byte_is_not_empty [] cr = absurd (omega (arith, cr))
text_with_last_byte_is_not_empty (b ∷ t) cr = omega arith

strip_of_append_strips_second : (x t : List ℕ) → 0 < length t →
    strip_carriage_return (x ++ t) ≡ x ++ strip_carriage_return t
strip_of_append_strips_second x t some =
    let last : length (x ++ t) - 1 ≡ length x + (length t - 1) = omega (arith, length-append x t) in
    let same : get_or (x ++ t) (length (x ++ t) - 1) 0 ≡ get_or t (length t - 1) 0 =
    ap (λ n. get_or (x ++ t) n 0) last ∙ get_or-append-add x t (length t - 1) 0 in
    let front : take (length (x ++ t) - 1) (x ++ t) ≡ x ++ take (length t - 1) t =
    ap (λ n. take n (x ++ t)) last ∙ take-append-add x t (length t - 1) in
    ⊎_elim (λ cr. ⊎_elim (λ whole. whole.0 ∙ front ∙ ap (λ l. x ++ l) (sym cr.0))
    (λ whole. absurd (whole.1 (same ∙ cr.1))) (strip_drops_last_byte_or_nothing (x ++ t)))
    (λ other. ⊎_elim (λ whole. absurd (other.1 (sym same ∙ whole.1)))
    (λ whole. whole.0 ∙ ap (λ l. x ++ l) (sym other.0)) (strip_drops_last_byte_or_nothing (x ++ t)))
    (strip_drops_last_byte_or_nothing t)

-- a carriage return is the last character, if there is one
strip_drops_carriage_return_or_nothing : (t : List ℕ) →
    (t ≡ strip_carriage_return t ++ 13 ∷ []) ⊎ (strip_carriage_return t ≡ t)
strip_drops_carriage_return_or_nothing t =
    ⊎_elim (λ cr. inl (rw cr.0 (line_ends_in_cr t (text_with_last_byte_is_not_empty t cr.1) cr.1)))
    (λ other. inr other.0) (strip_drops_last_byte_or_nothing t)

strip_keeps_utf8 : (t : List ℕ) → IsUtf8 t → IsUtf8 (strip_carriage_return t)
strip_keeps_utf8 t utf8 =
    ⊎_elim (λ cr.
    let some = text_with_last_byte_is_not_empty t cr.1 in
    subst IsUtf8 (sym cr.0)
    (IsUtf8-take t (length t - 1) utf8
    (IsCharBoundary-before_ascii t (length t - 1) (omega arith) (omega (arith, cr.1)))))
    (λ other. subst IsUtf8 (sym other.0) utf8)
    (strip_drops_last_byte_or_nothing t)

carriage_return_is_one_char : length (chars (13 ∷ [])) ≡ 1
unfolding chars
carriage_return_is_one_char = refl

strip_drops_at_most_one_char : (t : List ℕ) → IsUtf8 t → length (chars t) ≤ length (chars (strip_carriage_return t)) + 1
strip_drops_at_most_one_char t utf8 =
    let s = strip_carriage_return t in
    ⊎_elim (λ cr.
    let all : length (chars t) ≡ length (chars s ++ chars (13 ∷ [])) =
    ap (λ l. length (chars l)) cr ∙ ap length (chars-append s (13 ∷ []) (strip_keeps_utf8 t utf8)) in
    omega (arith, all, length-append (chars s) (chars (13 ∷ [])), carriage_return_is_one_char))
    (λ other. omega (arith, ap (λ l. length (chars l)) other))
    (strip_drops_carriage_return_or_nothing t)

last_line_begins_at_char_boundary : (t : List ℕ) → IsUtf8 t → IsCharBoundary t (length t - suffix_len is_in_line t)
last_line_begins_at_char_boundary t utf8 =
    let n = suffix_len is_in_line t in
    let within = suffix_len-le-length is_in_line t in
    let turned : length (reverse t) ≡ length t = length-reverse t in
    ⊎_elim (λ whole.
    let none : 0 ≡ length t - n = omega (arith, whole.1) in
    subst (IsCharBoundary t) none (IsCharBoundary-start t utf8))
    (λ part.
    let fewer : n < length t = omega (arith, part.1) in
    let stop : is_in_line (get_or (reverse t) n 0) ≡ false = prefix_len_stops is_in_line (reverse t) 0 (omega arith) in
    let there : get_or (reverse t) n 0 ≡ get_or t (length t - 1 - n) 0 = get_or-reverse t n 0 fewer in
    let feed : get_or t (length t - 1 - n) 0 ≡ 10 = byte_off_line_is_line_feed _ (ap is_in_line (sym there) ∙ stop) in
    let next : length t - 1 - n + 1 ≡ length t - n = omega arith in
    subst (IsCharBoundary t) next
    (IsCharBoundary-after_ascii t (length t - 1 - n) utf8 (omega arith) (omega (arith, feed))))
    (equal_or_not n (length t))

last_line_is_utf8 : (t : List ℕ) → IsUtf8 t → IsUtf8 (last_line t)
last_line_is_utf8 t utf8 = IsUtf8-drop t _ utf8 (last_line_begins_at_char_boundary t utf8)

-- ---- the front

-- what is before a line's end, or before another place
abbrev before_end : (line_ends : Bool) → List ℕ → List ℕ
before_end line_ends line = if line_ends then strip_carriage_return line else line

abbrev ShowsSame : (whole near : List ℕ) → Type 0
ShowsSame whole near = (shown_front whole ≡ shown_front near) × (below_front whole ≡ below_front near)

end_of_long_line_shows_same : (x t : List ℕ) (line_ends : Bool) → IsUtf8 x → IsUtf8 t → 408 ≤ length t →
    ShowsSame (before_end line_ends (x ++ t)) (before_end line_ends t)
end_of_long_line_shows_same x t true utf8_x utf8 long =
    let many : window < length (chars (strip_carriage_return t)) =
    omega (arith, text_has_at_most_four_bytes_per_char t utf8, strip_drops_at_most_one_char t utf8) in
    rw (strip_of_append_strips_second x t (omega arith))
    (front_window_shows_what_whole_shows x (strip_carriage_return t) utf8_x many)
end_of_long_line_shows_same x t false utf8_x utf8 long =
    front_window_shows_what_whole_shows x t utf8_x (omega (arith, text_has_at_most_four_bytes_per_char t utf8))

front_near_place_shows_same : (x t : List ℕ) (line_ends : Bool) → IsUtf8 x → IsUtf8 t →
    (length x ≡ 0) ⊎ (408 ≤ length t) →
    ShowsSame (before_end line_ends (last_line (x ++ t))) (before_end line_ends (last_line t))
front_near_place_shows_same [] t line_ends utf8_x utf8 near = (refl, refl)
front_near_place_shows_same (b ∷ x) t line_ends utf8_x utf8 near =
    ⊎_elim (λ none. absurd (omega (arith, none)))
    (λ long. ⊎_elim (λ ahead.
    let whole = ap (λ l. before_end line_ends l) ahead.0 in
    let part = ap (λ l. before_end line_ends l) (sym ahead.1) in
    let same = end_of_long_line_shows_same (last_line (b ∷ x)) t line_ends
    (last_line_is_utf8 (b ∷ x) utf8_x) utf8 long in (
      ap (λ l. shown_front l) whole ∙ same.0 ∙ ap (λ l. shown_front l) part,
      ap (λ l. below_front l) whole ∙ same.1 ∙ ap (λ l. below_front l) part,
    ))
    (λ same. (ap (λ l. shown_front (before_end line_ends l)) same, ap (λ l. below_front (before_end line_ends l)) same))
    (last_line_of_append_is_near (b ∷ x) t))
    near

-- ---- the back

back_of_long_text_shows_same : (t y : List ℕ) → IsUtf8 t → 405 ≤ length t →
    shown_back (strip_carriage_return (t ++ y)) ≡ shown_back (strip_carriage_return t)
back_of_long_text_shows_same t [] utf8 long = ap (λ l. shown_back (strip_carriage_return l)) (append-nil t)
back_of_long_text_shows_same t (b ∷ y) utf8 long =
    let many : 101 < length (chars t) = omega (arith, text_has_at_most_four_bytes_per_char t utf8) in
    let few : window < length (chars (strip_carriage_return t)) = omega (arith, strip_drops_at_most_one_char t utf8) in
    let whole : shown_back (t ++ strip_carriage_return (b ∷ y)) ≡ shown_back t =
    back_window_shows_what_whole_shows t (strip_carriage_return (b ∷ y)) utf8 (omega arith) in
    let stripped : shown_back t ≡ shown_back (strip_carriage_return t) =
    ⊎_elim (λ cr. ap (λ l. shown_back l) cr
    ∙ back_window_shows_what_whole_shows (strip_carriage_return t) (13 ∷ []) (strip_keeps_utf8 t utf8) few)
    (λ other. ap (λ l. shown_back l) (sym other)) (strip_drops_carriage_return_or_nothing t) in
    ap (λ l. shown_back l) (strip_of_append_strips_second t (b ∷ y) (omega arith)) ∙ whole ∙ stripped

back_near_place_shows_same : (t y : List ℕ) → IsUtf8 t → (length y ≡ 0) ⊎ (405 ≤ length t) →
    shown_back (strip_carriage_return (before_first is_line_feed (t ++ y)))
    ≡ shown_back (strip_carriage_return (before_first is_line_feed t))
back_near_place_shows_same t [] utf8 near =
    ap (λ l. shown_back (strip_carriage_return (before_first is_line_feed l))) (append-nil t)
back_near_place_shows_same t (b ∷ y) utf8 near =
    ⊎_elim (λ none. absurd (omega (arith, none)))
    (λ long. ⊎_elim (λ after.
    ap (λ l. shown_back (strip_carriage_return l)) after.0
    ∙ back_of_long_text_shows_same t (before_first is_line_feed (b ∷ y)) utf8 long
    ∙ ap (λ l. shown_back (strip_carriage_return l)) (sym after.1))
    (λ same. ap (λ l. shown_back (strip_carriage_return l)) same)
    (first_line_of_append_is_near t (b ∷ y)))
    near

-- ---- the excerpt

text_near_place_begins_same : (t y : List ℕ) → (length y ≡ 0) ⊎ (405 ≤ length t) →
    begins_with_line_feed (t ++ y) ≡ begins_with_line_feed t
text_near_place_begins_same (b ∷ t) y near = refl
text_near_place_begins_same [] [] near = refl
text_near_place_begins_same [] (b ∷ y) near =
    ⊎_elim (λ none. absurd (omega (arith, none))) (λ long. absurd (omega (arith, long))) near

equal_parts_join_to_equal_excerpts : (caret f g b c u v : List ℕ) → f ≡ g → b ≡ c → u ≡ v →
    f ++ b ++ codes "\n" ++ u ++ caret ++ codes "\n" ≡ g ++ c ++ codes "\n" ++ v ++ caret ++ codes "\n"
equal_parts_join_to_equal_excerpts caret f g b c u v front back below = cc

-- of a text in four parts the second and the third decide, where they have enough
excerpt_of_near_parts_is_same : (caret x p q y : List ℕ) → IsUtf8 x → IsUtf8 p → IsUtf8 q →
    (length x ≡ 0) ⊎ (408 ≤ length p) →
    (length y ≡ 0) ⊎ (405 ≤ length q) → (t : List ℕ) (cut : ℕ) (n : List ℕ) (at : ℕ) → take cut t ≡ x ++ p →
    drop cut t ≡ q ++ y → take at n ≡ p → drop at n ≡ q → excerpt caret t cut ≡ excerpt caret n at
excerpt_of_near_parts_is_same caret x p q y utf8_x utf8_p utf8_q before beyond t cut n at ahead after near_ahead
    near_after =
    let line_ends : begins_with_line_feed (q ++ y) ≡ begins_with_line_feed q = text_near_place_begins_same q y beyond in
    let fronts = front_near_place_shows_same x p (begins_with_line_feed q) utf8_x utf8_p before in
    rw (ahead, after, near_ahead, near_after, line_ends)
    (equal_parts_join_to_equal_excerpts caret _ _ _ _ _ _ fronts.0
    (back_near_place_shows_same q y utf8_q beyond) fronts.1)

-- a character has four bytes at most
nonempty_encoding_begins_with_char : (u cs : List ℕ) → encodes cs ≡ u → 0 < length u →
    (c : ℕ) × (rest : List ℕ) × (u ≡ encode c ++ rest)
nonempty_encoding_begins_with_char u [] same some = absurd (omega (arith, ap length same))
nonempty_encoding_begins_with_char u (c ∷ cs) same some = (c, encodes cs, sym same)

-- Where a character begins at or before a place, none begins for three bytes at most.
pub floor_is_near : (t : List ℕ) (i r : ℕ) → IsUtf8 t → i ≤ length t → r ≤ i → IsCharBoundary t r →
    ((j : ℕ) → r < j → j ≤ i → ¬ (IsCharBoundary t j)) → i < r + 4
floor_is_near t i r utf8 within before boundary nearest =
    let utf8_rest = IsUtf8-drop t r utf8 boundary in
    ⊎_elim (λ close. close)
    (λ far.
    let rest_len : length (drop r t) ≡ length t - r = length-drop r t in
    let next = nonempty_encoding_begins_with_char (drop r t) utf8_rest.0 utf8_rest.1.1 (omega arith) in
    let bounds = len_utf8_bounds next.0 in
    absurd (nearest (r + len_utf8 next.0) (omega arith) (omega arith)
    (IsCharBoundary-past_char t next.1 r next.0 (omega arith) utf8_rest next.2)))
    (cases_lt i (r + 4))

-- so a place's line is shown from 408 bytes on either side
pub excerpt_near_place_is_same : (caret t : List ℕ) (start cut end : ℕ) → IsUtf8 t → IsCharBoundary t start →
    IsCharBoundary t cut → IsCharBoundary t end → start ≤ cut → cut ≤ end → (start ≡ 0) ⊎ (start + 408 ≤ cut) →
    (end ≡ length t) ⊎ (cut + 405 ≤ end) →
    excerpt caret t cut ≡ excerpt caret (take (end - start) (drop start t)) (cut - start)
excerpt_near_place_is_same caret t start cut end utf8 at_start at_cut at_end ahead after before beyond =
    let x = take start t in
    let p = take (cut - start) (drop start t) in
    let q = take (end - cut) (drop cut t) in
    let y = drop end t in
    let rest_start : length (drop start t) ≡ length t - start = length-drop start t in
    let rest_cut : length (drop cut t) ≡ length t - cut = length-drop cut t in
    let len_x : length x ≡ start = length-take-le start t at_start.0 in
    let len_p : length p ≡ cut - start = length-take-le (cut - start) (drop start t) (omega (arith, at_cut.0)) in
    let len_q : length q ≡ end - cut = length-take-le (end - cut) (drop cut t) (omega (arith, at_end.0)) in
    let len_y : length y ≡ length t - end = length-drop end t in
    let to_cut : cut ≡ start + (cut - start) = omega arith in
    let to_end : cut + (end - cut) ≡ end = omega arith in
    let parts : end - start ≡ (cut - start) + (end - cut) = omega arith in
    excerpt_of_near_parts_is_same caret x p q y (IsUtf8-take t start utf8 at_start)
    (IsUtf8-between t start cut utf8 ahead at_start at_cut) (IsUtf8-between t cut end utf8 after at_cut at_end)
    (⊎_elim (λ none. inl (omega (arith, none))) (λ some. inr (omega (arith, some))) before)
    (⊎_elim (λ none. inl (omega (arith, none))) (λ some. inr (omega (arith, some))) beyond)
    t cut (take (end - start) (drop start t)) (cut - start)
    (ap (λ n. take n t) to_cut ∙ take-add start (cut - start) t)
    (sym (take-append-drop (end - cut) (drop cut t))
    ∙ ap (λ l. q ++ l) (drop-drop (end - cut) cut t ∙ ap (λ n. drop n t) to_end))
    (take-take (cut - start) (end - start) (drop start t) (omega arith))
    (ap (λ n. drop (cut - start) (take n (drop start t))) parts ∙ drop-take (cut - start) (end - cut) (drop start t)
    ∙ ap (λ l. take (end - cut) l) (drop-drop (cut - start) start t ∙ ap (λ n. drop n t) (sym to_cut)))
