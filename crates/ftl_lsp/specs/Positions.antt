-- Places of a text as the protocol counts them.
use Rattle.std.specs.Prelude.{◌≡◌, ℕ, zero, suc, ◌+◌, ◌-◌, ◌<◌, ◌≤◌, ◌==◌, ◌&&◌, ◌||◌, nat_le, List}
use Rattle.std.specs.Prelude.{slice_index, slice_range, Bool, true, false, not, if◌then◌else◌}
use Rattle.std.specs.List.{sum_by}
use Rattle.fluent_syntax_grammar.specs.Bytes.{lf, cr}
use Rattle.ftl_lsp.specs.declared.documents.positions.Position.{Position}

-- a line ends with the byte: an LF, or a CR before anything but an LF
abbrev pub ends_line : List ℕ → ℕ → Bool
ends_line t at = (slice_index t at == lf) || ((slice_index t at == cr) && not (slice_index t (at + 1) == lf))

-- a line begins with the byte, or at the text's end
abbrev pub begins_line : List ℕ → ℕ → Bool
begins_line t zero = true
begins_line t (suc n) = ends_line t n

-- how many UTF-16 units begin with the byte: two for a character of four bytes, one for any other, and none for the
-- bytes that go on with a character
abbrev pub utf16_units : ℕ → ℕ
utf16_units b = if nat_le 128 b && nat_le b 191 then 0 else (if nat_le 240 b then 2 else 1)

-- a line more, if a line ends
abbrev pub next_line : (ends : Bool) → ℕ → ℕ
next_line true line = line + 1
next_line false line = line

-- the column after that many units more, or the next line's first, if a line ends
abbrev pub next_character : (ends : Bool) → (units character : ℕ) → ℕ
next_character true units character = 0
next_character false units character = character + units

-- the lines that end before the byte
abbrev pub line_at : List ℕ → ℕ → ℕ
line_at t zero = 0
line_at t (suc n) = next_line (ends_line t n) (line_at t n)

-- the UTF-16 units between the line's begin and the byte
abbrev pub character_at : List ℕ → ℕ → ℕ
character_at t zero = 0
character_at t (suc n) = next_character (ends_line t n) (utf16_units (slice_index t n)) (character_at t n)

abbrev pub position_at : List ℕ → ℕ → Position
position_at t byte = record { line = line_at t byte; character = character_at t byte }

-- The place of a byte: its line begins at `start`, and in it are that many UTF-16 units before the byte.
pub record IsPosition (t : List ℕ) (byte : ℕ) (position : Position) : Type 0 where
  pub start : ℕ
  pub before : start ≤ byte
  -- a line ends where this one begins
  pub begins : 0 < start → ends_line t (start - 1) ≡ true
  -- and none ends between there and the byte
  pub same_line : (k : ℕ) → start ≤ k → k < byte → ends_line t k ≡ false
  pub line : position.line ≡ line_at t start
  pub character : position.character ≡ sum_by utf16_units (slice_range t start byte)
