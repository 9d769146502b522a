-- The documents and files that a request asks of.
use Rattle.std.specs.Prelude.{◌≡◌, ℕ, List, All, Option, Some}
use Rattle.serde_json.specs.Data.{Data}
use Rattle.ftl_lsp.specs.Edits.{position_param_in}
use Rattle.ftl_lsp.specs.Offsets.{IsByteOf}
use Rattle.ftl_lsp.specs.OpenDocuments.{OpenText}
use Rattle.ftl_lsp.specs.Params.{uri_in}
use Rattle.ftl_lsp.specs.Renaming.{HasText}
use Rattle.ftl_lsp.specs.declared.documents.index.IndexedDocument.{IndexedDocument}
use Rattle.ftl_lsp.specs.declared.documents.positions.Position.{Position}
use Rattle.ftl_lsp.specs.declared.requests.request_context.RequestContext.{RequestContext}

-- It is open, with its text and its version; or it is a file whose name no open document has.
abbrev pub IsIndexed : (texts : List ℕ → Option OpenText) → IndexedDocument → Type 0
IsIndexed texts document = HasText texts document.uri.now document.text.now document.version

-- Each of the documents is one of these; and the message asks of the byte, in the open document that is named.
pub record IsContextOf (texts : List ℕ → Option OpenText) (d : Data) (context : RequestContext) : Type 0 where
  pub documents : All (IsIndexed texts) context.documents.items
  pub named : uri_in d ≡ Some context.uri.now
  pub found : OpenText
  pub is_open : texts context.uri.now ≡ Some found
  pub position : Position
  pub asked : position_param_in d ≡ Some position
  pub there : IsByteOf found.text position context.byte
