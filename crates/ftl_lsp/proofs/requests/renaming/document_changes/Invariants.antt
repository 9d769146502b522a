use Rattle.std.proofs.Common.{◌≡◌, ℕ, List, All, Option, map, true}
use Rattle.fluent_syntax_grammar.specs.Spellings.{is_name}
use Rattle.serde_json.specs.Data.{Data}
use Rattle.serde_json.specs.View.{view}
use Rattle.ftl_lsp.specs.Contexts.{IsContextOf}
use Rattle.ftl_lsp.specs.Occurrences.{shown_of}
use Rattle.ftl_lsp.specs.OpenDocuments.{OpenText}
use Rattle.ftl_lsp.specs.Renaming.{RenamesIn}
use Rattle.ftl_lsp.proofs.requests.renaming.document_changes.Given as goal

abbrev pub invariant-loop-document : goal.invariant-loop-document
invariant-loop-document l =
    (texts : List ℕ → Option OpenText) (d : Data) → IsContextOf texts d l.context → is_name (shown_of l.name) ≡ true →
    All (RenamesIn texts (shown_of l.name) l.identifier) (map view l.changes.items)
