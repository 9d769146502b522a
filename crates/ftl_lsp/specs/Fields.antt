-- The fields of a header, and the length that one of them names.
use Rattle.std.specs.Prelude.{◌≡◌, ℕ, ◌+◌, ◌-◌, ◌*◌, ◌<◌, ◌≤◌, ◌==◌, ◌&&◌, ◌||◌, min, nat_le, List, [], ◌∷◌, map, take}
use Rattle.std.specs.Prelude.{drop, length, codes, Bool, Option, Some, None, if◌then◌else◌}
use Rattle.std.specs.List.{list_all}
use Rattle.std.specs.Char.{to_ascii_lowercase}
use Rattle.ftl_lsp.specs.HeaderEnds.{IsLineEnd}
use Rattle.ftl_lsp.specs.declared.limits.TheConstants.{BODY_LIMIT}

-- the line is the field `Content-Length`, in letters of either case
abbrev pub NamesLength : List ℕ → Type 0
NamesLength line = map to_ascii_lowercase (take 15 line) ≡ codes "content-length:"

-- a space or a tab
abbrev pub is_blank : ℕ → Bool
is_blank b = (b == 32) || (b == 9)

abbrev pub is_digit : ℕ → Bool
is_digit b = nat_le 48 b && nat_le b 57

-- the number with a digit more; one beyond the limit counts as the limit and one
abbrev pub with_digit : ℕ → ℕ → ℕ
with_digit n b = min (n * 10 + (b - 48)) (BODY_LIMIT + 1)

-- the number of further digits after a number, with blanks after them
abbrev pub digits_after : ℕ → List ℕ → Option ℕ
digits_after n [] = Some n
digits_after n (b ∷ bs) =
    if is_digit b then digits_after (with_digit n b) bs else (if list_all is_blank (b ∷ bs) then Some n else None)

-- the number of digits, of which there is at least one
abbrev pub digits_of : List ℕ → Option ℕ
digits_of [] = None
digits_of (b ∷ bs) = if is_digit b then digits_after (b - 48) bs else None

-- the number of a field's value: digits, with blanks around them
abbrev pub number_of : List ℕ → Option ℕ
number_of [] = None
number_of (b ∷ bs) = if is_blank b then number_of bs else digits_of (b ∷ bs)

-- The header names the length: by the first line that is the field `Content-Length`, if there is one.
pub data HasLength : List ℕ → Option ℕ → Type 0 where
  in_line : (header : List ℕ) (at : ℕ) → IsLineEnd header at → NamesLength (take at header) →
      HasLength header (number_of (drop 15 (take at header)))
  below_line : (header : List ℕ) (at : ℕ) (n : Option ℕ) → IsLineEnd header at → ¬ (NamesLength (take at header)) →
      at + 2 ≤ length header → HasLength (drop (at + 2) header) n → HasLength header n
  nowhere : (header : List ℕ) (at : ℕ) → IsLineEnd header at → ¬ (NamesLength (take at header)) →
      length header < at + 2 → HasLength header None
