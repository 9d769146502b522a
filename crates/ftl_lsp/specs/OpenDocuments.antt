-- The texts and versions of the open documents, and what changes them.
use Rattle.std.specs.Prelude.{◌≡◌, ℕ, ℤ, List, Bool, true, false, Option, Some, None, String, string_bytes}
use Rattle.std.specs.Prelude.{option_map}
use Rattle.std.specs.BTreeMap.{BTreeMap, get_by_text}
use Rattle.std.specs.Map.{update}
use Rattle.std.specs.Str.{bytes_eq}
use Rattle.std.specs.declared.alloc.Global.{Global}
use Rattle.ftl_lsp.specs.Changes.{MakesEdits}
use Rattle.ftl_lsp.specs.Edits.{Edit}
use Rattle.ftl_lsp.specs.declared.documents.open_documents.Documents.{Documents}
use Rattle.ftl_lsp.specs.declared.documents.open_documents.OpenDocument.{OpenDocument}

-- The text of an open document, and the number that the editor gave it, if it gave one.
pub record OpenText : Type 0 where
  pub text : List ℕ
  pub version : Option ℤ

abbrev pub open_text : OpenDocument → OpenText
open_text open' = record { text = string_bytes open'.document.text; version = open'.version }

-- the document that is open under a name
abbrev pub texts_of : BTreeMap (String Global) OpenDocument → (name : List ℕ) → Option OpenText
texts_of documents name = option_map open_text (get_by_text documents name)

abbrev pub texts : Documents → (name : List ℕ) → Option OpenText
texts documents name = texts_of documents.by_name name

-- Under the name there is that document now, or none, and under each other what was there.
abbrev pub Sets : (old : List ℕ → Option OpenText) → (name : List ℕ) → Option OpenText →
    (new : List ℕ → Option OpenText) → Type 0
Sets old name found new = (other : List ℕ) → new other ≡ update bytes_eq old name found other

-- The document that was open has that version now, and the text that the changes make of its own.
pub record MakesOpen (old : OpenText) (version : Option ℤ) (edits : List Edit) (new : OpenText) : Type 0 where
  pub numbered : new.version ≡ version
  pub text : MakesEdits old.text edits new.text

-- Where a document was open under the name, it has that version now, and the text that the changes make of its own; and
-- what is open under each other name is the same. Where none was, nothing changed.
abbrev pub SetsMade : (old : List ℕ → Option OpenText) → (name : List ℕ) → (version : Option ℤ) → List Edit →
    (found : Bool) → (new : List ℕ → Option OpenText) → Type 0
SetsMade old name version edits true new =
    (before after : OpenText) × (old name ≡ Some before) × MakesOpen before version edits after ×
    Sets old name (Some after) new
SetsMade old name version edits false new = (old name ≡ None) × ((other : List ℕ) → new other ≡ old other)
