-- Names, each with a list.
use Rattle.std.specs.Prelude.{◌≡◌, ◌⊎◌, ◌<◌, ℕ, List, [], ◌∷◌, ◌++◌, length, map, get_or, set, Option, Some, None}
use Rattle.fluent_syntax_names.specs.FirstPlaces.{Notes, place_of}
use Rattle.fluent_syntax_names.specs.QualifiedNames.{Text}
use Rattle.fluent_syntax_names.specs.declared.named_lists.NamedLists.{NamedLists}

-- which number a name has
abbrev pub Numbering : Type 0
Numbering = Text → Option ℕ

-- each number is one of so many
abbrev pub Within : Numbering → (count : ℕ) → Type 0
Within number count = (x : Text) (u : ℕ) → number x ≡ Some u → u < count

-- no two names have the same number
abbrev pub IsInjective : Numbering → Type 0
IsInjective number = (x y : Text) (u : ℕ) → number x ≡ Some u → number y ≡ Some u → x ≡ y

abbrev pub numbers_of : {X : Type 0} → NamedLists X → Numbering
numbers_of names = place_of names.numbers.table

abbrev pub lists_of : {X : Type 0} → NamedLists X → List (List X)
lists_of names = map (λ list. list.items) names.lists.items

-- the name is new, and the last list is its own, and empty
pub record IsNew {X : Type 0} (old new : NamedLists X) (name : Text) (number : ℕ) : Type 0 where
  pub absent : numbers_of old name ≡ None
  pub last : number ≡ length (lists_of old)
  pub notes : Notes (numbers_of old) (numbers_of new) name number
  pub longer : lists_of new ≡ lists_of old ++ [] ∷ []

-- the name has this number: it had it and nothing has changed, or it is new
pub record AddsName {X : Type 0} (old new : NamedLists X) (name : Text) (number : ℕ) : Type 0 where
  pub known : numbers_of new name ≡ Some number
  pub stays : (x : Text) (u : ℕ) → numbers_of old x ≡ Some u → numbers_of new x ≡ Some u
  pub adds : (new ≡ old) ⊎ IsNew old new name number

-- the list of that number is longer by the item, and nothing else has changed
pub record AddsItem {X : Type 0} (old new : NamedLists X) (number : ℕ) (item : X) : Type 0 where
  pub same : new.numbers ≡ old.numbers
  pub longer : lists_of new ≡ set (lists_of old) number (get_or (lists_of old) number [] ++ item ∷ [])
