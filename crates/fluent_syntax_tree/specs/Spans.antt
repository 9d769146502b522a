-- Ranges of a text.
use Rattle.std.specs.Prelude.{ℕ, ◌≤◌, List, slice_range}
use Rattle.std.specs.Str.{IsCharBoundary}
use Rattle.fluent_syntax_tree.specs.declared.spans.Span.{Span}

-- an ordered range of the text whose ends are character boundaries
abbrev pub IsTextRange : List ℕ → Span → Type 0
IsTextRange t span = (span.start ≤ span.end) × IsCharBoundary t span.start × IsCharBoundary t span.end

-- the bytes there
abbrev pub bytes_at : List ℕ → Span → List ℕ
bytes_at t span = slice_range t span.start span.end
