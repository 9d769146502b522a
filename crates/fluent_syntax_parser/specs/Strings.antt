-- Parts of string literals.
use Rattle.std.specs.Prelude.{ℕ, ◌+◌, List, slice_get, Bool, ◌||◌, ◌==◌, not}
use Rattle.fluent_syntax_grammar.specs.Bytes.{lf, backslash, double_quote}
use Rattle.fluent_syntax_grammar.specs.Construct.{Construct, peek}
use Rattle.fluent_syntax_grammar.specs.Strings.{escaped}

-- an escape, at its backslash
abbrev pub escape : List ℕ → Construct (Unit {0})
escape t = peek (λ i. slice_get t (i + 1)) (escaped t)

-- bytes that represent themselves in a string literal: all but a quote, a backslash and LF
abbrev pub is_plain : ℕ → Bool
is_plain b = not (b == double_quote || b == backslash || b == lf)
