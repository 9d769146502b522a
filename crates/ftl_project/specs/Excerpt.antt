-- The two lines that show a place of a source: its line, cut to a window around the place, and a caret below the place.
use Rattle.std.specs.Prelude.{ℕ, ◌-◌, ◌<◌, ◌≤◌, ◌≡◌, List, [], ◌∷◌, ◌++◌, Bool, ◌==◌, ◌||◌, ◌&&◌, false, not, nat_lt}
use Rattle.std.specs.Prelude.{if◌then◌else◌, true, chars, codes, drop, encode_utf8, length, replicate, take, unwrap_or}
use Rattle.std.specs.Fmt.{radix_digits}
use Rattle.std.specs.List.{flat_map, suffix_len, before_first}
use Rattle.std.specs.Str.{IsCharBoundary}
use Rattle.std.specs.Str.Lines.{strip_carriage_return}
use Rattle.ftl.specs.LookAlikes.{is_unseen}
use Rattle.unicode_width.specs.Width.{char_width}

-- ---- the line

abbrev pub is_line_feed : ℕ → Bool
is_line_feed b = b == 10

abbrev pub is_in_line : ℕ → Bool
is_in_line b = not (b == 10)

-- the last line of a text, which may be empty
abbrev pub last_line : List ℕ → List ℕ
last_line t = drop (length t - suffix_len is_in_line t) t

-- whether a text begins with a line feed
abbrev pub begins_with_line_feed : List ℕ → Bool
begins_with_line_feed [] = false
begins_with_line_feed (b ∷ rest) = is_line_feed b

-- What is on the line before a place. Where the place is that of a line feed, a carriage return before it belongs
-- to the line's end.
abbrev pub front : (t : List ℕ) (cut : ℕ) → List ℕ
front t cut =
    if begins_with_line_feed (drop cut t) then strip_carriage_return (last_line (take cut t))
    else last_line (take cut t)

-- what it has from the place on, without the line's end
abbrev pub back : (t : List ℕ) (cut : ℕ) → List ℕ
back t cut = strip_carriage_return (before_first is_line_feed (drop cut t))

-- ---- the window

-- how many characters are shown of what is before the place, and of what is from there on
abbrev pub window : ℕ
window = 100

-- where the characters begin that are shown of what is before the place
abbrev pub window_start : List ℕ → ℕ
window_start t = length (chars t) - window

-- the characters that are shown, from one of them on
abbrev pub windowed : (start : ℕ) → List ℕ → List ℕ
windowed start t = take window (drop start (chars t))

-- "…" where characters are left out
abbrev pub ellipsis : Bool → List ℕ
ellipsis left_out = if left_out then encode_utf8 0x2026 else []

-- and the column below it
abbrev pub below_ellipsis : Bool → List ℕ
below_ellipsis left_out = if left_out then 32 ∷ [] else []

-- ---- characters

-- a control character but the tab: a terminal would obey it
abbrev pub is_hidden : ℕ → Bool
is_hidden c = nat_lt c 32 || (nat_lt 126 c && nat_lt c 160)

-- the number of a character that can't be seen, as `<U+00A0>`
abbrev pub shown_number : ℕ → List ℕ
shown_number c = codes "<U+" ++ ((if c == 0xA0 then codes "00" else []) ++ (radix_digits 16 true c ++ codes ">"))

-- how a character is shown: U+FFFD in place of what is hidden, and its number in place of what can't be seen
abbrev pub shown_char : ℕ → List ℕ
shown_char c =
    if c == 9 then 9 ∷ [] else if is_hidden c then encode_utf8 0xFFFD else if is_unseen c then shown_number c
    else encode_utf8 c

-- what is below it: a tab below a tab, else as many spaces as the columns that it takes
abbrev pub below_char : ℕ → List ℕ
below_char c =
    if c == 9 then 9 ∷ [] else if is_hidden c then 32 ∷ [] else if is_unseen c then replicate 8 32
    else replicate (unwrap_or (char_width false c) 0) 32

-- a whole text, as it is shown
abbrev pub shown_text : List ℕ → List ℕ
shown_text t = flat_map shown_char (chars t)

-- the same of the characters of a text that are in its window
abbrev pub shown : (start : ℕ) → List ℕ → List ℕ
shown start t = flat_map shown_char (windowed start t)

abbrev pub below : (start : ℕ) → List ℕ → List ℕ
below start t = flat_map below_char (windowed start t)

-- ---- the excerpt

-- what is shown before the place
abbrev pub shown_front : List ℕ → List ℕ
shown_front t = ellipsis (nat_lt 0 (window_start t)) ++ shown (window_start t) t

-- and from there on
abbrev pub shown_back : List ℕ → List ℕ
shown_back t = shown 0 t ++ ellipsis (nat_lt window (length (chars t)))

-- what is below what is shown before the place
abbrev pub below_front : List ℕ → List ℕ
below_front t = below_ellipsis (nat_lt 0 (window_start t)) ++ below (window_start t) t

-- the line as it is shown, and below it the caret at the place
abbrev pub excerpt : (caret t : List ℕ) (cut : ℕ) → List ℕ
excerpt caret t cut =
    shown_front (front t cut) ++ shown_back (back t cut) ++ codes "\n" ++ below_front (front t cut) ++ caret ++
    codes "\n"

-- where the character begins that has the byte at the place
pub record BeginsCharacter (t : List ℕ) (place cut : ℕ) : Type 0 where
  pub before : cut ≤ place
  pub boundary : IsCharBoundary t cut
  pub nearest : (i : ℕ) → cut < i → i ≤ place → ¬ (IsCharBoundary t i)

-- the excerpt at the character that has the place
abbrev pub IsExcerpt : (caret t : List ℕ) (place : ℕ) → List ℕ → Type 0
IsExcerpt caret t place lines = (cut : ℕ) × BeginsCharacter t place cut × (lines ≡ excerpt caret t cut)

-- the excerpt was added to old
abbrev pub AddsExcerpt : (caret t : List ℕ) (place : ℕ) → (old new : List ℕ) → Type 0
AddsExcerpt caret t place old new = (lines : List ℕ) × IsExcerpt caret t place lines × (new ≡ old ++ lines)
