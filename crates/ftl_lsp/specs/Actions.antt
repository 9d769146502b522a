-- What a code action does.
use Rattle.std.specs.Prelude.{◌≡◌, ◌⊎◌, ℕ, Bool, true, false, List, [], ◌∷◌, codes, map, All, Option, Some, Ok}
use Rattle.std.specs.Prelude.{Vec, string_bytes}
use Rattle.std.specs.Global.{Global}
use Rattle.serde_json.specs.Data.{Data, string, array, object, member, no_members, put}
use Rattle.serde_json.specs.View.{items_of}
use Rattle.fluent_syntax_grammar.specs.Spellings.{is_name}
use Rattle.fluent_syntax_tree.specs.declared.edition.Edition.TheVariants.{One}
use Rattle.fluent_syntax_edits.specs.Additions.{IsAddition}
use Rattle.fluent_syntax_edits.specs.Changes.{removes}
use Rattle.fluent_syntax_edits.specs.SeveralEdits.{AreReplacements, NumberedChange}
use Rattle.fluent_syntax_edits.specs.declared.drafts.Replacement.{Replacement}
use Rattle.ftl_lsp.specs.Locations.{edit_form}
use Rattle.ftl_lsp.specs.OpenDocuments.{OpenText}
use Rattle.ftl_lsp.specs.Params.{uri_in}
use Rattle.ftl_lsp.specs.Renaming.{RenamesAt, changes_form, document_edits_form, renaming_form}

-- the edits of a document, in its version where the editor takes that
abbrev pub workspace_edit_form : (versioned : Bool) → (uri : List ℕ) → OpenText → (edits : List Data) → Data
workspace_edit_form true uri found edits = renaming_form (document_edits_form uri found.version edits ∷ [])
workspace_edit_form false uri found edits = changes_form (put uri (array (items_of edits)) no_members)

-- an action that mends something by them
abbrev pub action_form : (title : List ℕ) → (edit : Data) → Data
action_form title edit =
    object (member (codes "edit") edit (member (codes "kind") (string (codes "quickfix"))
    (member (codes "title") (string title) no_members)))

abbrev pub replacement_form : (t : List ℕ) → Replacement → Data
replacement_form t replacement = edit_form t (string_bytes replacement.text) replacement.span

-- The change of the text adds what some other text has besides, or removes an entry.
abbrev pub Mends : (t : List ℕ) → NumberedChange → Type 0
Mends t change = ((r : List ℕ) × IsAddition One r t change) ⊎ (change.change ≡ removes)

-- The action makes such changes, so that the document is read as its tree with them; or it puts another name in the
-- place of one.
pub data IsAction (uri : List ℕ) (found : OpenText) : Data → Type 0 where
  mends : (versioned : Bool) (title : List ℕ) (changes : List NumberedChange) (replacements : Vec Replacement Global) →
      All (Mends found.text) changes → AreReplacements One found.text changes (Ok replacements) →
      IsAction uri found (action_form title
      (workspace_edit_form versioned uri found (map (replacement_form found.text) replacements.items)))
  respells : (versioned : Bool) (title old new : List ℕ) (edit : Data) → is_name new ≡ true →
      RenamesAt found.text old new edit →
      IsAction uri found (action_form title (workspace_edit_form versioned uri found (edit ∷ [])))

-- The value is actions for the open document that the message names.
pub data AreActions (texts : List ℕ → Option OpenText) (d : Data) : Data → Type 0 where
  actions : (uri : List ℕ) (found : OpenText) (list : List Data) → uri_in d ≡ Some uri → texts uri ≡ Some found →
      All (IsAction uri found) list → AreActions texts d (array (items_of list))
