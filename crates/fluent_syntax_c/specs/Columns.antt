-- Lines and columns, all from 1. Each place of a text has them, also one within a character.
use Rattle.std.specs.Prelude.{◌≡◌, ℕ, ◌+◌, ◌-◌, ◌≤◌, ◌&&◌, List, drop, length, nat_le, take, slice_range}
use Rattle.std.specs.Prelude.{if◌then◌else◌}
use Rattle.std.specs.List.{sum_by}
use Rattle.fluent_syntax.specs.Lines.{column_at, line_at}
use Rattle.fluent_syntax_c.specs.declared.columns.OnLine.{OnLine}
use Rattle.fluent_syntax_c.specs.declared.columns.Position.{Position}
use Rattle.fluent_syntax_c.specs.declared.columns.LastPosition.{LastPosition}

-- how many characters begin with the byte: none with 0x80 to 0xBF, which go on with one
abbrev pub characters : ℕ → ℕ
characters b = if nat_le 0x80 b && nat_le b 0xBF then 0 else 1

-- how many UTF-16 units the characters are that begin with the byte: two where it begins one of four bytes
abbrev pub utf16_units : ℕ → ℕ
utf16_units b = if nat_le 0x80 b && nat_le b 0xBF then 0 else (if nat_le 0xF0 b then 2 else 1)

-- the bytes of the line before the place
abbrev pub line_before : List ℕ → ℕ → List ℕ
line_before t place = let before = take place t in drop (length before + 1 - column_at t place) before

-- 1 and the number of characters that begin in the line before the place
abbrev pub column_characters : List ℕ → ℕ → ℕ
column_characters t place = 1 + sum_by characters (line_before t place)

-- 1 and the number of UTF-16 units that those are
abbrev pub column_utf16 : List ℕ → ℕ → ℕ
column_utf16 t place = 1 + sum_by utf16_units (line_before t place)

-- the line and the columns of the place
abbrev pub position_at : List ℕ → ℕ → Position
position_at t place = record {
  line = line_at t place;
  column = column_at t place;
  column_utf16 = column_utf16 t place;
  column_characters = column_characters t place;
}

-- The line and the columns are those of the byte, which is one of the text's or its end.
pub record IsPositionOf (t : List ℕ) (last : LastPosition) : Type 0 where
  pub within : last.byte ≤ length t
  pub position_is : last.position ≡ position_at t last.byte

-- The columns are those of the byte on a line that begins at `start`.
pub record IsOnLine (t : List ℕ) (start : ℕ) (known : OnLine) : Type 0 where
  pub beyond : start ≤ known.byte
  pub units_are : known.column_utf16 ≡ 1 + sum_by utf16_units (slice_range t start known.byte)
  pub characters_are : known.column_characters ≡ 1 + sum_by characters (slice_range t start known.byte)
