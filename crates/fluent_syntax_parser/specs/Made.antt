-- What a reader gives that makes texts: the value of its construct, with what the text of each span represents in the
-- span's place.
use Rattle.std.specs.Prelude.{◌≡◌, ℕ, List, [], ◌∷◌, ◌++◌, Result, Ok, Err}
use Rattle.fluent_syntax_grammar.specs.Construct.{Construct, Read}
use Rattle.fluent_syntax_parser.specs.declared.fault.ReadFault.{ReadFault}
use Rattle.fluent_syntax_parser.specs.Outcomes.{Fails}

-- The construct at i spells a value and ends at j, and f of that value is this one.
pub data IsMade {A B : Type 0} (f : A → B) (c : Construct A) (i : ℕ) (b : B) (j : ℕ) : Type 0 where
  made : {a : A} → c i (Read a j) → b ≡ f a → IsMade f c i b j

-- What a reader answers that began at i is an outcome of the construct at i, with f of its value. `view` is the value
-- that an answer represents.
abbrev pub Parses : {A B X : Type 0} → List ℕ → (A → B) → Construct A → (X → B) → ℕ → Result (X × ℕ) ReadFault → Type 0
Parses t f c view i (Ok x) = IsMade f c i (view x.0) x.1
Parses t f c view i (Err e) = Fails t c i e

-- The same of a reader that adds what it read to a list, and answers where that ends. Where it fails, the list stays.
abbrev pub AddsParsed : {A B X : Type 0} → List ℕ → (A → B) → Construct A → (X → B) → (old new : List X) → ℕ →
    Result ℕ ReadFault → Type 0
AddsParsed t f c view old new i (Ok j) = (x : _) × (new ≡ old ++ x ∷ []) × IsMade f c i (view x) j
AddsParsed t f c view old new i (Err e) = Fails t c i e × (new ≡ old)

-- The same of a reader that fills an empty list with what it read, and answers where that ends. Where it fails, nothing
-- is said of the list.
abbrev pub Fills : {A B X : Type 0} → List ℕ → (A → B) → Construct A → (List X → B) → List X → ℕ → Result ℕ ReadFault →
    Type 0
Fills t f c view new i (Ok j) = IsMade f c i (view new) j
Fills t f c view new i (Err e) = Fails t c i e
