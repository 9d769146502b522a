-- What changes make of a text.
use Rattle.std.specs.Prelude.{◌≡◌, ℕ, List, [], ◌∷◌, ◌++◌, drop, max, min, take}
use Rattle.ftl_lsp.specs.Edits.{Edit, whole, between}
use Rattle.ftl_lsp.specs.Offsets.{IsByteOf}
use Rattle.ftl_lsp.specs.declared.documents.positions.Position.{Position}

-- the bytes with others in place of those of the range
abbrev pub text_after : List ℕ → (from to : ℕ) → List ℕ → List ℕ
text_after t from to new = take from t ++ (new ++ drop to t)

-- The text is the old one with the new bytes in place of what is between the places, in whichever order they come.
pub record ChangesBetween (t : List ℕ) (start end : Position) (new made : List ℕ) : Type 0 where
  pub first : ℕ
  pub last : ℕ
  pub from_start : IsByteOf t start first
  pub from_end : IsByteOf t end last
  pub text : made ≡ text_after t (min first last) (max first last) new

-- The change makes the second text of the first.
pub data MakesEdit (old : List ℕ) : Edit → (new : List ℕ) → Type 0 where
  makes_whole : (text new : List ℕ) → new ≡ text → MakesEdit old (whole text) new
  makes_between : (start end : Position) → (text new : List ℕ) → ChangesBetween old start end text new →
      MakesEdit old (between start end text) new

-- The changes, one after another, make the second text of the first.
pub data MakesEdits (old : List ℕ) : List Edit → (new : List ℕ) → Type 0 where
  makes_none : MakesEdits old [] old
  makes_last : (edits : List Edit) (edit : Edit) (made new : List ℕ) → MakesEdits old edits made →
      MakesEdit made edit new → MakesEdits old (edits ++ edit ∷ []) new
