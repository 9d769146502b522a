-- Lines and columns: how large they are, and what they mean.
use Rattle.std.proofs.Common.{◌≡◌, ℕ, zero, suc, ◌+◌, ◌-◌, ◌*◌, ◌<◌, ◌≤◌, List, length, take, drop, get_or, slice_index}
use Rattle.std.proofs.Common.{Bool, true, false, cond, refl, sym, ap, ◌∙◌, subst, arith, below_more}
use Rattle.std.specs.List.{sum_by, slice_range}
use Rattle.std.proofs.lemmas.List.{get_or-drop, length-drop}
use Rattle.std.proofs.lemmas.List.Sums.{sum_by_more}
use Rattle.ftl_lsp.specs.Positions.{ends_line, utf16_units, next_line, next_character, line_at, character_at}
use Rattle.ftl_lsp.specs.Positions.{position_at, IsPosition}

next_line-le : (ends : Bool) (line n : ℕ) → line ≤ n → next_line ends line ≤ suc n
next_line-le true line n h = omega arith
next_line-le false line n h = omega arith

-- no more lines end than there are bytes
pub line_at-le : (t : List ℕ) (n : ℕ) → line_at t n ≤ n
line_at-le t zero = omega arith
line_at-le t (suc n) = next_line-le (ends_line t n) (line_at t n) n (line_at-le t n)

chosen-le : (goes_on is_long : Bool) → cond goes_on 0 (cond is_long 2 1) ≤ 2
chosen-le true is_long = omega arith
chosen-le false true = omega arith
chosen-le false false = omega arith

pub units-le : (b : ℕ) → utf16_units b ≤ 2
units-le b = chosen-le _ _

next_character-le : (ends : Bool) (units character n : ℕ) → character ≤ 2 * n → units ≤ 2 →
    next_character ends units character ≤ 2 * suc n
next_character-le true units character n h k = omega arith
next_character-le false units character n h k = omega arith

-- no column is larger than twice the bytes
pub character_at-le : (t : List ℕ) (n : ℕ) → character_at t n ≤ 2 * n
character_at-le t zero = omega arith
character_at-le t (suc n) =
    next_character-le (ends_line t n) (utf16_units (slice_index t n)) (character_at t n) n (character_at-le t n)
    (units-le (slice_index t n))

-- one byte more
range_units-more : (t : List ℕ) (start n : ℕ) → start ≤ n → n < length t →
    sum_by utf16_units (slice_range t start (suc n)) ≡
    sum_by utf16_units (slice_range t start n) + utf16_units (slice_index t n)
range_units-more t start n h l =
    let inside : n - start < length (drop start t) = omega (arith, length-drop start t) in
    let one : suc n - start ≡ (n - start) + 1 = omega arith in
    let there : start + (n - start) ≡ n = omega arith in
    ap (λ m. sum_by utf16_units (take m (drop start t))) one
    ∙ sum_by_more utf16_units (drop start t) (n - start) 0 inside
    ∙ ap (λ b. sum_by utf16_units (slice_range t start n) + utf16_units b)
    (get_or-drop start t (n - start) 0 ∙ ap (λ m. get_or t m 0) there)

-- the place after a byte, by whether a line ends with it
position_after_byte_is_next_position : (t : List ℕ) (n : ℕ) (ends : Bool) → n < length t → ends_line t n ≡ ends →
    IsPosition t n (position_at t n) → IsPosition t (suc n)
    (record {
      line = next_line ends (line_at t n);
      character = next_character ends (utf16_units (slice_index t n)) (character_at t n);
    })
position_after_byte_is_next_position t n true l e p = record {
  start = suc n;
  before = omega arith;
  begins = λ h. let here : suc n - 1 ≡ n = omega arith in subst (λ m. ends_line t m ≡ true) (sym here) e;
  same_line = λ k f g. absurd (omega arith);
  line = sym (ap (λ b. next_line b (line_at t n)) e);
  character =
      let none : 0 ≡ suc n - suc n = omega arith in
      ap (λ m. sum_by utf16_units (take m (drop (suc n) t))) none;
}
position_after_byte_is_next_position t n false l e p = record {
  start = p.start;
  before = let h : p.start ≤ n = p.before in omega arith;
  begins = p.begins;
  same_line = λ k f g.
      let here : k < n + 1 = omega arith in
      below_more (λ m. p.start ≤ m → ends_line t m ≡ false) n (λ m h i. p.same_line m i h) (λ i. e) k here f;
  line = p.line;
  character = ap (λ m. m + utf16_units (slice_index t n)) p.character ∙ sym (range_units-more t p.start n p.before l);
}

pub position_at_is_position : (t : List ℕ) (n : ℕ) → n ≤ length t → IsPosition t n (position_at t n)
position_at_is_position t zero l = record {
  start = 0;
  before = omega arith;
  begins = λ h. absurd (omega arith);
  same_line = λ k f g. absurd (omega arith);
  line = refl;
  character = refl;
}
position_at_is_position t (suc n) l =
    let within : n ≤ length t = omega arith in
    let inside : n < length t = omega arith in
    position_after_byte_is_next_position t n (ends_line t n) inside refl (position_at_is_position t n within)
