-- Lists that grow at their end: what is added is said by what it puts before a tail.
use Rattle.std.specs.Prelude.{◌≡◌, List, ◌++◌}

module _ {X : Type 0} where
  -- `new` is `old` with what `more` puts before a tail
  abbrev pub Adds : (old new : List X) → (more : List X → List X) → Type 0
  Adds old new more = (rest : List X) → new ++ rest ≡ old ++ more rest

  -- what `left` puts before a tail is still to come, of what `all` does
  abbrev pub Leaves : (old now : List X) → (left all : List X → List X) → Type 0
  Leaves old now left all = (rest : List X) → now ++ left rest ≡ old ++ all rest
