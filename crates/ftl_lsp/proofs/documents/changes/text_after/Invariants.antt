use Rattle.std.proofs.Common.{map, string_bytes, take}
use Rattle.ftl_lsp.specs.Changes.{MakesEdits}
use Rattle.ftl_lsp.specs.Edits.{edit_of}
use Rattle.ftl_lsp.proofs.documents.changes.text_after.Given as goal

abbrev pub invariant-loop-change : goal.invariant-loop-change
invariant-loop-change l =
    MakesEdits l.text (map edit_of (take l.change-index l.changes)) (string_bytes l.made)
