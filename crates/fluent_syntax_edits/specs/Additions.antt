-- What is added to a text of what a reference has.
use Rattle.std.specs.Prelude.{◌≡◌, ℕ, Contains, List, [], ◌∷◌, None, Option, Some, slice_get}
use Rattle.fluent_syntax_tree.specs.Bytes.{hyphen}
use Rattle.fluent_syntax_tree.specs.Entry.{AttributeTree, BodyTree, EntryTree, comment, junk, message, term}
use Rattle.fluent_syntax_tree.specs.declared.edition.Edition.{Edition}
use Rattle.fluent_syntax_grammar.specs.RoundTrip.{tree_of}
use Rattle.fluent_syntax_grammar.specs.Tiling.{Tile, Tiling}
use Rattle.fluent_syntax_grammar.specs.Written.{Text}
use Rattle.fluent_syntax_edits.specs.Changes.{inserts, joined_part, replaces}
use Rattle.fluent_syntax_edits.specs.SeveralEdits.{NumberedChange}

-- ---- attributes

-- the name of a message or a term, with its `-`
abbrev pub name_of : EntryTree Text → Option Text
name_of (message m) = Some m.id
name_of (term m) = Some (hyphen ∷ m.id)
name_of (comment level lines) = None
name_of (junk content) = None

abbrev pub attributes_of : EntryTree Text → List (AttributeTree Text)
attributes_of (message m) = m.attributes
attributes_of (term m) = m.attributes
attributes_of (comment level lines) = []
attributes_of (junk content) = []

-- the message or the term with these
abbrev pub with_attributes : List (AttributeTree Text) → EntryTree Text → EntryTree Text
with_attributes attributes (message m) = message (record m { attributes = attributes })
with_attributes attributes (term m) = term (record m { attributes = attributes })
with_attributes attributes (comment level lines) = comment level lines
with_attributes attributes (junk content) = junk content

-- The list has all its own ones in their order, and others between them.
pub data IsMerged {X : Type 0} (IsOther : X → Type 0) : (own merged : List X) → Type 0 where
  none : IsMerged IsOther [] []
  kept : {x : X} {own merged : List X} → IsMerged IsOther own merged → IsMerged IsOther (x ∷ own) (x ∷ merged)
  added : {x : X} {own merged : List X} → IsOther x → IsMerged IsOther own merged → IsMerged IsOther own (x ∷ merged)

-- it is one of an entry of that name
pub record IsAttributeOf (entries : BodyTree Text) (name : Option Text) (attribute : AttributeTree Text) : Type 0 where
  pub number : ℕ
  pub entry : EntryTree Text
  pub there : slice_get entries number ≡ Some entry
  pub named : name_of entry ≡ name
  pub has : Contains (attributes_of entry) attribute

-- the entry with attributes more that entries of its name have
pub record IsMergedEntry (entries : BodyTree Text) (own merged : EntryTree Text) : Type 0 where
  pub attributes : List (AttributeTree Text)
  pub is : merged ≡ with_attributes attributes own
  pub merge : IsMerged (IsAttributeOf entries (name_of own)) (attributes_of own) attributes

-- ---- changes

-- The change inserts an entry of the reference's tree, or puts attributes of it into an entry of the own tree.
pub data IsTreeAddition (reference own : BodyTree Text) : NumberedChange → Type 0 where
  inserted : (place number : ℕ) (entry : EntryTree Text) → slice_get reference number ≡ Some entry →
      IsTreeAddition reference own (record { number = place; change = inserts (joined_part entry) })
  merged : (number : ℕ) (entry merged : EntryTree Text) → slice_get own number ≡ Some entry →
      IsMergedEntry reference entry merged →
      IsTreeAddition reference own (record { number = number; change = replaces (joined_part merged) })

-- so of the trees that two texts are read as
pub record IsAddition (edition : Edition) (reference t : List ℕ) (change : NumberedChange) : Type 0 where
  pub their_tiles : List Tile
  pub their_tiling : Tiling edition reference their_tiles
  pub tiles : List Tile
  pub tiling : Tiling edition t tiles
  pub adds : IsTreeAddition (tree_of reference their_tiles) (tree_of t tiles) change
