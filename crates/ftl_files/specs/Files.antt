-- What there is at each path at a moment, what a crash may leave there, and how a call goes on from there.
use Rattle.std.specs.Prelude.{◌≡◌, ◌⊎◌, ◌≤◌, ◌++◌, ℕ, List, Option, None, Some}

-- All of it. A path has no file where its bytes are `None`; of a real disk nothing is known, and they are `None` too.
pub record Files : Type 1 where
  -- what a read gives
  pub bytes_at : List ℕ → Option (List ℕ)
  -- what a crash now may leave in the file that is at a path
  pub may_hold : List ℕ → List ℕ → Type 0
  -- what a crash now may leave at a path: a file's bytes, or no file
  pub may_leave : List ℕ → Option (List ℕ) → Type 0
  -- a number that doesn't fall
  pub moment : ℕ
  -- what a crash at some moment from that one on might have left at a path
  pub left_since : ℕ → List ℕ → Option (List ℕ) → Type 0

-- files of which nothing is known
abbrev pub unknown : Files
unknown = record {
  bytes_at = λ path. None;
  may_hold = λ path bytes. ⊥;
  may_leave = λ path left. ⊥;
  moment = 0;
  left_since = λ t path left. ⊥;
}

-- what may come to be at a path
abbrev pub Changes : Type 1
Changes = List ℕ → Option (List ℕ) → Type 0

-- A call went on from old to new. At each moment between the two, whatever a read gives or a crash leaves at a path is
-- what it was or might have been at old, or one of the changes.
pub record GoesOn (old new : Files) (changes : Changes) : Type 0 where
  pub later : old.moment ≤ new.moment
  pub bytes : (path : List ℕ) → (new.bytes_at path ≡ old.bytes_at path) ⊎ changes path (new.bytes_at path)
  pub hold : (path bytes : List ℕ) → new.may_hold path bytes → old.may_hold path bytes ⊎ changes path (Some bytes)
  pub leave : (path : List ℕ) (left : Option (List ℕ)) → new.may_leave path left →
      old.may_leave path left ⊎ changes path left
  pub since : (t : ℕ) (path : List ℕ) (left : Option (List ℕ)) → t ≤ old.moment → new.left_since t path left →
      old.left_since t path left ⊎ changes path left
  -- what might have been left stays so
  pub keeps : (t : ℕ) (path : List ℕ) (left : Option (List ℕ)) → t ≤ old.moment → old.left_since t path left →
      new.left_since t path left

-- nothing changes
abbrev pub nowhere : Changes
nowhere path left = ⊥

-- anything may come to this path, and to no other
abbrev pub at_path : List ℕ → Changes
at_path only path left = path ≡ only

-- anything may come to this path if there was nothing
abbrev pub at_free_path : (old : Files) → List ℕ → Changes
at_free_path old only path left = (path ≡ only) × (old.bytes_at path ≡ None)

-- anything may come where there was nothing
abbrev pub at_free_paths : (old : Files) → Changes
at_free_paths old path left = old.bytes_at path ≡ None

-- what was at one path comes to another
abbrev pub renamed : (old : Files) → (from to : List ℕ) → Changes
renamed old from to path left =
    (path ≡ from) ⊎ ((path ≡ to) × ((bytes : List ℕ) × (left ≡ Some bytes)
    × ((old.bytes_at from ≡ Some bytes) ⊎ old.may_hold from bytes)))

-- The text comes to the path, whole; and anything may come where there was nothing.
abbrev pub replaced : (old : Files) → (path text : List ℕ) → Changes
replaced old only text path left = (old.bytes_at path ≡ None) ⊎ ((path ≡ only) × (left ≡ Some text))

-- The file is filled and takes the name: its bytes were known, and then the text after them comes to the name.
abbrev pub filled : (old : Files) → (temporary only text : List ℕ) → Changes
filled old temporary only text path left =
    (path ≡ temporary) ⊎
    ((path ≡ only) × ((bytes : List ℕ) → old.bytes_at temporary ≡ Some bytes → left ≡ Some (bytes ++ text)))

-- where the file's bytes are known, these are all that a crash may leave in it
abbrev pub IsSynced : (now : Files) → (path : List ℕ) → Type 0
IsSynced now path = (bytes : List ℕ) → now.bytes_at path ≡ Some bytes → (left : List ℕ) → now.may_hold path left →
    left ≡ bytes

-- where the file's bytes are known, a crash leaves a file of them at the path
abbrev pub IsDurable : (now : Files) → (path : List ℕ) → Type 0
IsDurable now path =
    (bytes : List ℕ) → now.bytes_at path ≡ Some bytes → (left : Option (List ℕ)) → now.may_leave path left →
    left ≡ Some bytes

-- where the file's bytes are known, a crash leaves at the path what it may leave in the file
abbrev pub IsNamed : (now : Files) → (path : List ℕ) → Type 0
IsNamed now path = (bytes : List ℕ) → now.bytes_at path ≡ Some bytes → (left : Option (List ℕ)) →
    now.may_leave path left → (kept : List ℕ) × (left ≡ Some kept) × now.may_hold path kept
