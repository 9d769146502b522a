-- Names as the keys of a table.
use Rattle.std.specs.Prelude.{◌≡◌, ℕ, Bool, List}
use Rattle.std.specs.List.{list_any}
use Rattle.std.specs.Str.{bytes_eq}
use Rattle.fluent_syntax_grammar.specs.Arguments.{is_used}

module _ {K : Type 0} (text : K → List ℕ) where
  -- whether one of the keys is the name
  abbrev pub is_key : List K → List ℕ → Bool
  is_key keys name = list_any (λ k. bytes_eq name (text k)) keys

  -- the keys are these names
  abbrev pub NotesAll : List K → List (List ℕ) → Type 0
  NotesAll keys names = (name : List ℕ) → is_key keys name ≡ is_used name names
