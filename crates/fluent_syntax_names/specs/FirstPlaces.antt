-- Tables of names, each with its place or its number.
use Rattle.std.specs.Prelude.{◌≡◌, ℕ, List, Option, Some, None, Vec, if◌then◌else◌}
use Rattle.std.specs.Ordering.{nat_cmp}
use Rattle.std.specs.Cmp.Lexicographic.{slice_cmp}
use Rattle.std.specs.Str.{bytes_eq}
use Rattle.std.specs.BTreeMap.{BTreeMap, get_by}
use Rattle.std.specs.declared.alloc.Global.{Global}

-- the place that a table has for the name
abbrev pub place_of : {X : Type 0} → BTreeMap (Vec ℕ Global) X → List ℕ → Option X
place_of table name = get_by (λ k. slice_cmp nat_cmp name k.items) table

-- the first that is there
abbrev pub first_of : {X : Type 0} → Option X → Option X → Option X
first_of None second = second
first_of (Some place) second = Some place

-- the place where it has the name
abbrev pub place_where : {X : Type 0} → (name noted : List ℕ) → X → Option X
place_where name noted place = if bytes_eq name noted then Some place else None

-- what is noted now is what was noted before, and these places where their names are new
abbrev pub NotesPlaces : {X : Type 0} → (old new places : List ℕ → Option X) → Type 0
NotesPlaces old new places = (name : List ℕ) → new name ≡ first_of (old name) (places name)

-- the name is noted, where it is new
abbrev pub Notes : {X : Type 0} → (old new : List ℕ → Option X) → List ℕ → X → Type 0
Notes old new noted place = NotesPlaces old new (λ name. place_where name noted place)
