-- What a kind of error says of the byte at its place.
use Rattle.std.specs.Prelude.{◌≡◌, ℕ, List, true, false}
use Rattle.fluent_syntax_grammar.specs.Bytes.{lf, right_brace}
use Rattle.fluent_syntax_grammar.specs.Places.{has_byte}
use Rattle.fluent_syntax_tree.specs.Kind.{Kind, ExpectedToken, UnbalancedClosingBrace, UnterminatedStringLiteral}

-- `ExpectedToken(c)`: the byte at the place isn't c, or the text ends there. `UnbalancedClosingBrace`: it is a `}`.
-- `UnterminatedStringLiteral`: it is an LF. The other kinds say nothing of it.
abbrev pub kind_means : List ℕ → Kind → ℕ → Type 0
kind_means t (ExpectedToken c) i = has_byte t c i ≡ false
kind_means t UnbalancedClosingBrace i = has_byte t right_brace i ≡ true
kind_means t UnterminatedStringLiteral i = has_byte t lf i ≡ true
kind_means t k i = Unit {0}
