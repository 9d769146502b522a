-- The bytes of a line before a place, and sums over them.
use Rattle.std.proofs.Common.{◌≡◌, ◌<◌, ◌≤◌, ◌+◌, ◌-◌, ◌*◌, ◌^◌, ◌==◌, ℕ, List, length, take, drop, get_or}
use Rattle.std.proofs.Common.{not, Bool, true, false, cond, arith, sym, ap, ◌∙◌}
use Rattle.std.specs.Prelude.{slice_range}
use Rattle.std.specs.List.{sum_by}
use Rattle.std.proofs.lemmas.List.{drop-drop, drop-take, length-take, length-take-le, take_all}
use Rattle.std.proofs.lemmas.List.Sums.{suffix_len-le-length, sum_by-le, sum_by-take-drop, sum_by_more_le}
use Rattle.fluent_syntax.specs.Lines.{column_at}
use Rattle.fluent_syntax_c.specs.Columns.{IsOnLine, IsPositionOf, characters, line_before, utf16_units}
use Rattle.fluent_syntax_c.specs.declared.columns.OnLine.{OnLine}
use Rattle.fluent_syntax_c.specs.declared.columns.LastPosition.{LastPosition}

module _ (t : List ℕ) (place : ℕ) (inside : place ≤ length t) where
  -- a column is at most 1 and the place
  pub column_is_at_most_place_plus_one : column_at t place ≤ place + 1
  column_is_at_most_place_plus_one =
      let within = suffix_len-le-length (λ b. not (b == 10)) (take place t) in
      omega (arith, within, length-take-le place t inside)

  -- they are those from the line's start, which the column gives
  range_from_line_start_is_line_before : (column : ℕ) → column ≡ column_at t place →
      slice_range t (place - (column - 1)) place ≡ line_before t place
  range_from_line_start_is_line_before column same =
      let start = place - (column - 1) in
      let len : length (take place t) ≡ place = length-take-le place t inside in
      let from : length (take place t) + 1 - column_at t place ≡ start =
      omega (arith, len, same, column_is_at_most_place_plus_one) in
      let whole : start + (place - start) ≡ place = omega arith in
      sym (drop-take start (place - start) t) ∙ ap (λ n. drop start (take n t)) whole
      ∙ ap (λ n. drop n (take place t)) (sym from)

  -- the sum over them
  pub sum_over_line_is_column : (f : ℕ → ℕ) (column start found : ℕ) → column ≡ column_at t place →
      start ≡ place - (column - 1) →
      found ≡ 1 + sum_by f (slice_range t start place) → found ≡ 1 + sum_by f (line_before t place)
  sum_over_line_is_column f column start found same from is =
      is ∙ ap (λ a. 1 + sum_by f (slice_range t a place)) from
      ∙ ap (λ bytes. 1 + sum_by f bytes) (range_from_line_start_is_line_before column same)

-- a place that is known is on the line that begins where its own does
pub last_position_is_on_line : (t : List ℕ) (last : LastPosition) (start : ℕ) (known : OnLine) → IsPositionOf t last →
    last.byte - (last.position.column - 1) ≡ start → known.byte ≡ last.byte →
    known.column_utf16 ≡ last.position.column_utf16 → known.column_characters ≡ last.position.column_characters →
    IsOnLine t start known
last_position_is_on_line t last start known placed from at units chars =
    let before =
    range_from_line_start_is_line_before t last.byte placed.within last.position.column
    (ap (λ place. place.column) placed.position_is) in
    let range : slice_range t start known.byte ≡ line_before t last.byte =
    ap (λ b. slice_range t start b) at ∙ ap (λ a. slice_range t a last.byte) (sym from) ∙ before in
    record {
      beyond = omega (arith, from, at);
      units_are =
          units ∙ ap (λ place. place.column_utf16) placed.position_is
          ∙ ap (λ bytes. 1 + sum_by utf16_units bytes) (sym range);
      characters_are =
          chars ∙ ap (λ place. place.column_characters) placed.position_is
          ∙ ap (λ bytes. 1 + sum_by characters bytes) (sym range);
    }

-- ---- sums over ranges

sum_from_place_splits_at_later_place : (f : ℕ → ℕ) (t : List ℕ) (a b : ℕ) → a ≤ b →
    sum_by f (slice_range t a b) + sum_by f (drop b t) ≡ sum_by f (drop a t)
sum_from_place_splits_at_later_place f t a b l =
    let whole : a + (b - a) ≡ b = omega arith in
    ap (λ rest. sum_by f (slice_range t a b) + sum_by f rest)
    (sym (drop-drop (b - a) a t ∙ ap (λ n. drop n t) whole))
    ∙ sum_by-take-drop f (drop a t) (b - a)

-- a sum over a range and one over the range after it
adjacent_ranges_sum_up : (f : ℕ → ℕ) (t : List ℕ) (a b c : ℕ) → a ≤ b → b ≤ c →
    sum_by f (slice_range t a b) + sum_by f (slice_range t b c) ≡ sum_by f (slice_range t a c)
adjacent_ranges_sum_up f t a b c l m =
    omega (
      arith,
      sum_from_place_splits_at_later_place f t a b l,
      sum_from_place_splits_at_later_place f t b c m,
      sum_from_place_splits_at_later_place f t a c (omega (arith, l, m)),
    )

-- what was counted on over the whole range
pub range_is_counted : (f : ℕ → ℕ) (t s : List ℕ) (start from to i known found : ℕ) → s ≡ t → start ≤ from → from ≤ to →
    length (slice_range s from to) ≤ i → known ≡ 1 + sum_by f (slice_range t start from) →
    found ≡ known + sum_by f (take i (slice_range s from to)) → found ≡ 1 + sum_by f (slice_range t start to)
range_is_counted f t s start from to i known found source l m end before is =
    let all = ap (sum_by f) (take_all i (slice_range s from to) end ∙ ap (λ u. slice_range u from to) source) in
    omega (arith, all, adjacent_ranges_sum_up f t start from to l m, before, is)

-- ---- how large sums are

range_is_no_longer_than_its_width : (t : List ℕ) (a b : ℕ) → length (slice_range t a b) ≤ b - a
range_is_no_longer_than_its_width t a b = omega (arith, length-take (b - a) (drop a t))

range_sum_is_at_most_twice_its_width : (f : ℕ → ℕ) (t : List ℕ) (a b : ℕ) → ((n : ℕ) → f n ≤ 2) →
    sum_by f (slice_range t a b) ≤ (b - a) * 2
range_sum_is_at_most_twice_its_width f t a b small =
    let most = sum_by-le f 2 (slice_range t a b) (λ k d l. small (get_or (slice_range t a b) k d)) in
    omega (arith, most, range_is_no_longer_than_its_width t a b)

-- 1 and sums of small numbers over two ranges, with one number more
pub count_fits_one_more : (f : ℕ → ℕ) (t s : List ℕ) (start from to i d known found given : ℕ) → ((b : ℕ) → f b ≤ 2) →
    length t < 2 ^ 63 → start ≤ from → from ≤ to → to ≤ length t → i < length (slice_range s from to) →
    known ≡ 1 + sum_by f (slice_range t start from) → found ≡ known + sum_by f (take i (slice_range s from to)) →
    given ≡ f (get_or (slice_range s from to) i d) → found + given < 2 ^ 64
count_fits_one_more f t s start from to i d known found given small short l m inside at before is one =
    let more = sum_by_more_le f (slice_range s from to) i d at in
    let beyond = range_sum_is_at_most_twice_its_width f s from to small in
    let ahead = range_sum_is_at_most_twice_its_width f t start from small in
    omega (arith, more, beyond, ahead, before, is, one, short, inside)

two_or_one_is_small : (goes_on is_long : Bool) → cond goes_on 0 (cond is_long 2 1) ≤ 2
two_or_one_is_small true is_long = omega arith
two_or_one_is_small false true = omega arith
two_or_one_is_small false false = omega arith

pub byte_has_at_most_two_utf16_units : (b : ℕ) → utf16_units b ≤ 2
byte_has_at_most_two_utf16_units b = two_or_one_is_small _ _

zero_or_one_is_at_most_two : (goes_on : Bool) → cond goes_on 0 1 ≤ 2
zero_or_one_is_at_most_two true = omega arith
zero_or_one_is_at_most_two false = omega arith

pub byte_counts_at_most_two_characters : (b : ℕ) → characters b ≤ 2
byte_counts_at_most_two_characters b = zero_or_one_is_at_most_two _
