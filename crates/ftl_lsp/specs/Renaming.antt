-- What a renaming writes.
use Rattle.std.specs.Prelude.{◌≡◌, ◌⊎◌, ℕ, ℤ, List, ◌∷◌, slice_range, codes, All, true, Option, Some, None}
use Rattle.serde_json.specs.Data.{Data, Members, null, number, string, array, object, member, no_members, put}
use Rattle.serde_json.specs.Find.{of_integer}
use Rattle.serde_json.specs.View.{items_of}
use Rattle.fluent_syntax_tree.specs.declared.spans.Span.{Span}
use Rattle.fluent_syntax_grammar.specs.Bytes.{hyphen}
use Rattle.fluent_syntax_grammar.specs.Spellings.{is_name}
use Rattle.ftl_lsp.specs.Edits.{position_param_in}
use Rattle.ftl_lsp.specs.Locations.{edit_form}
use Rattle.ftl_lsp.specs.Occurrences.{IsNameAt}
use Rattle.ftl_lsp.specs.Offsets.{IsByteOf}
use Rattle.ftl_lsp.specs.OpenDocuments.{OpenText}
use Rattle.ftl_lsp.specs.Params.{new_name_in, uri_in}
use Rattle.ftl_lsp.specs.declared.documents.positions.Position.{Position}

abbrev pub version_form : Option ℤ → Data
version_form None = null
version_form (Some version) = number (of_integer version)

-- the edits of a document in one of its versions
abbrev pub document_edits_form : (uri : List ℕ) → (version : Option ℤ) → (edits : List Data) → Data
document_edits_form uri version edits =
    object (member (codes "edits") (array (items_of edits)) (member (codes "textDocument")
    (object (member (codes "uri") (string uri) (member (codes "version") (version_form version) no_members)))
    no_members))

abbrev pub renaming_form : (changes : List Data) → Data
renaming_form changes = object (member (codes "documentChanges") (array (items_of changes)) no_members)

-- the edits of documents by their names, for an editor that takes no versions
abbrev pub changes_form : Members → Data
changes_form changes = object (member (codes "changes") (object changes) no_members)

-- The identifier is the new name, or what follows the `-` with which that begins.
abbrev pub IsIdentifierOf : (new identifier : List ℕ) → Type 0
IsIdentifierOf new identifier = (new ≡ identifier) ⊎ (new ≡ hyphen ∷ identifier)

-- The document is open, with that text and that version; or it is a file whose name no open document has.
abbrev pub HasText : (texts : List ℕ → Option OpenText) → (uri t : List ℕ) → (version : Option ℤ) → Type 0
HasText texts uri t version =
    (texts uri ≡ Some (record { text = t; version = version })) ⊎ ((texts uri ≡ None) × (version ≡ None))

-- The edit puts the identifier in place of a span of the text, of which the bytes are the old name.
pub data RenamesAt (t old identifier : List ℕ) : Data → Type 0 where
  renames_at : (span : Span) → slice_range t span.start span.end ≡ old →
      RenamesAt t old identifier (edit_form t identifier span)

-- The edits of a document do so.
pub data RenamesIn (texts : List ℕ → Option OpenText) (old identifier : List ℕ) : Data → Type 0 where
  renames_in : (uri t : List ℕ) (version : Option ℤ) (edits : List Data) → HasText texts uri t version →
      All (RenamesAt t old identifier) edits →
      RenamesIn texts old identifier (document_edits_form uri version edits)

-- The members are edits of documents, each by its name, that do so.
pub data RenamesEach (texts : List ℕ → Option OpenText) (old identifier : List ℕ) : Members → Type 0 where
  renames_none : RenamesEach texts old identifier no_members
  renames_one_more : (uri t : List ℕ) (version : Option ℤ) (edits : List Data) (others : Members) →
      HasText texts uri t version → All (RenamesAt t old identifier) edits → RenamesEach texts old identifier others →
      RenamesEach texts old identifier (put uri (array (items_of edits)) others)

-- The message asks of a place in an open document where the old name is, and for a new name: the identifier.
pub record AsksToRename (texts : List ℕ → Option OpenText) (d : Data) (old identifier : List ℕ) : Type 0 where
  pub uri : List ℕ
  pub named : uri_in d ≡ Some uri
  pub found : OpenText
  pub is_open : texts uri ≡ Some found
  pub position : Position
  pub asked : position_param_in d ≡ Some position
  pub byte : ℕ
  pub there : IsByteOf found.text position byte
  pub old_name : IsNameAt found.text byte old
  pub old_spelling : is_name old ≡ true
  pub new : List ℕ
  pub wanted : new_name_in d ≡ Some new
  pub identifier_of : IsIdentifierOf new identifier
  pub spelling : is_name identifier ≡ true

-- The value is the edits of some documents and files: each puts the identifier that is asked for in place of the old
-- name.
pub data RenamesName (texts : List ℕ → Option OpenText) (d : Data) : Data → Type 0 where
  renames : (old identifier : List ℕ) (changes : List Data) → AsksToRename texts d old identifier →
      All (RenamesIn texts old identifier) changes → RenamesName texts d (renaming_form changes)
  renames_by_name : (old identifier : List ℕ) (changes : Members) → AsksToRename texts d old identifier →
      RenamesEach texts old identifier changes → RenamesName texts d (changes_form changes)
