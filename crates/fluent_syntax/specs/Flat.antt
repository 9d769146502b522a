-- Texts that hold no brace, and no line that a mark begins.
use Rattle.std.specs.Prelude.{ℕ, ◌-◌, List, Bool, true, ◌≡◌, ◌&&◌, ◌||◌, ◌==◌, not, slice_index, EachIndex}
use Rattle.fluent_syntax_grammar.specs.Bytes.{cr, full_stop, hash, hyphen, lf, space}
use Rattle.fluent_syntax_grammar.specs.PatternTexts.{is_brace}

-- a line starts at place 0 and after every LF
abbrev pub starts_line : List ℕ → ℕ → Bool
starts_line t i = i == 0 || slice_index t (i - 1) == lf

-- a space, `#`, `.`, `-` or CR
abbrev pub is_line_mark : ℕ → Bool
is_line_mark b = b == space || b == hash || b == full_stop || b == hyphen || b == cr

-- whether a flat text may hold the byte, at a line's start or elsewhere
abbrev pub may_occur : Bool → ℕ → Bool
may_occur first b = not (is_brace b) && not (first && is_line_mark b)

abbrev pub IsFlat : List ℕ → Type 0
IsFlat t = EachIndex t (λ i. may_occur (starts_line t i) (slice_index t i) ≡ true)
