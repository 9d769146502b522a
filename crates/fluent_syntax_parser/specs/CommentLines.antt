-- Lines of a text and of comments.
use Rattle.std.specs.Prelude.{ℕ, List, [], ◌∷◌, Option, Some, None, Bool, ◌==◌, not}
use Rattle.fluent_syntax_grammar.specs.Bytes.{lf}
use Rattle.fluent_syntax_tree.specs.declared.spans.Span.{Span}

-- every byte but LF
abbrev pub is_not_lf : ℕ → Bool
is_not_lf b = not (b == lf)

-- what a comment line adds to its comment
abbrev pub line_of : Option Span → List Span
line_of None = []
line_of (Some line) = line ∷ []
