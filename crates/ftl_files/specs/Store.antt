-- What a call does to files: the bytes of each by its path, where they are known.
use Rattle.std.specs.Prelude.{◌≡◌, ◌⊎◌, ℕ, List, Option, None, Some}

-- where the bytes were known, they are this text now
abbrev pub Becomes : (old new : Option (List ℕ)) → List ℕ → Type 0
Becomes None new text = Unit {0}
Becomes (Some bytes) new text = new ≡ Some text

-- each file is what it was
abbrev pub AllUnchanged : (old new : List ℕ → Option (List ℕ)) → Type 0
AllUnchanged old new = (path : List ℕ) → new path ≡ old path

-- each file but that of the path is what it was; where none was, one may have come
abbrev pub OthersUnchanged : (old new : List ℕ → Option (List ℕ)) → List ℕ → Type 0
OthersUnchanged old new path = (other : List ℕ) → (new other ≡ old other) ⊎ (other ≡ path) ⊎ (old other ≡ None)
