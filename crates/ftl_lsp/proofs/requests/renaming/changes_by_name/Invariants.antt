use Rattle.std.proofs.Common.{◌≡◌, ℕ, List, Option, true}
use Rattle.fluent_syntax_grammar.specs.Spellings.{is_name}
use Rattle.serde_json.specs.Data.{Data}
use Rattle.serde_json.specs.View.{members_view}
use Rattle.ftl_lsp.specs.Contexts.{IsContextOf}
use Rattle.ftl_lsp.specs.Occurrences.{shown_of}
use Rattle.ftl_lsp.specs.OpenDocuments.{OpenText}
use Rattle.ftl_lsp.specs.Renaming.{RenamesEach}
use Rattle.ftl_lsp.proofs.requests.renaming.changes_by_name.Given as goal

abbrev pub invariant-loop-document : goal.invariant-loop-document
invariant-loop-document l =
    (texts : List ℕ → Option OpenText) (d : Data) → IsContextOf texts d l.context → is_name (shown_of l.name) ≡ true →
    RenamesEach texts (shown_of l.name) l.identifier (members_view l.changes.entries)
