-- The byte of a place.
use Rattle.std.specs.Prelude.{◌≡◌, ℕ, ◌+◌, ◌<◌, ◌≤◌, ◌==◌, ◌&&◌, ◌||◌, ◌⊎◌, Bool, true, List, length, nat_le}
use Rattle.std.specs.Prelude.{slice_index}
use Rattle.std.specs.Str.{IsCharBoundary}
use Rattle.fluent_syntax_grammar.specs.Bytes.{cr, lf}
use Rattle.ftl_lsp.specs.Positions.{character_at, line_at, utf16_units}
use Rattle.ftl_lsp.specs.declared.documents.positions.Position.{Position}

-- whether a line's text ends before the byte
abbrev pub is_break : ℕ → Bool
is_break b = (b == lf) || (b == cr)

-- whether the column is reached before the byte, after that many units of the line: the line's text ends there, or
-- what begins with the byte reaches beyond the column
abbrev pub stops_at : (byte character column : ℕ) → Bool
stops_at byte character column = is_break byte || nat_le (column + 1) (character + utf16_units byte)

-- whether the place is reached before the byte, which has the place `here`
abbrev pub is_reached : (byte : ℕ) (here position : Position) → Bool
is_reached byte here position = (here.line == position.line) && stops_at byte here.character position.character

-- The line of the number begins with the byte.
pub record BeginsLine (t : List ℕ) (number at : ℕ) : Type 0 where
  pub within : at ≤ length t
  pub line : line_at t at ≡ number
  pub character : character_at t at ≡ 0

-- The byte is in the place's line, not after the column; and the text ends there, or the place is reached.
pub record IsInLine (t : List ℕ) (position : Position) (byte : ℕ) : Type 0 where
  pub line : line_at t byte ≡ position.line
  pub column : character_at t byte ≤ position.character
  pub reached : (byte ≡ length t) ⊎ (stops_at (slice_index t byte) (character_at t byte) position.character ≡ true)

-- It is the text's end, and the text has no such line.
pub record IsPastLastLine (t : List ℕ) (position : Position) (byte : ℕ) : Type 0 where
  pub line : line_at t byte < position.line
  pub end : byte ≡ length t

-- The byte of the place, which is at a character's boundary: in its line as far on as the column, but not beyond the
-- line's text; or the text's end, where the text has fewer lines.
pub record IsByteOf (t : List ℕ) (position : Position) (byte : ℕ) : Type 0 where
  pub boundary : IsCharBoundary t byte
  pub there : IsInLine t position byte ⊎ IsPastLastLine t position byte
