-- Where a text is cut to read its escapes.
use Rattle.std.specs.Prelude.{◌≡◌, ◌≢◌, ℕ, ◌<◌, List, ◌∷◌, ◌++◌, length, slice_index, Option, MatchOption}
use denote.Ref.{Bor}
use Rattle.fluent_syntax_grammar.specs.Bytes.{backslash}

-- no byte is a backslash
abbrev pub IsPlain : List ℕ → Type 0
IsPlain bs = (i : ℕ) → i < length bs → slice_index bs i ≢ backslash

-- The parts of the text before its first backslash and after that. None where it has none.
abbrev pub CutsAtBackslash : List ℕ → Option (Bor (List ℕ) × Bor (List ℕ)) → Type 0
CutsAtBackslash bs result =
    MatchOption result (IsPlain bs) (λ parts. (bs ≡ parts.0.now ++ backslash ∷ parts.1.now) × IsPlain parts.0.now)
