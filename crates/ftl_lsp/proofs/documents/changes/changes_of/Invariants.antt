use Rattle.std.proofs.Common.{◌≡◌, ◌++◌, drop, map, option_map}
use Rattle.serde_json.specs.View.{items_view}
use Rattle.ftl_lsp.specs.Edits.{edit_of, edits_in}
use Rattle.ftl_lsp.proofs.documents.changes.changes_of.Given as goal

abbrev pub invariant-loop-value : goal.invariant-loop-value
invariant-loop-value l =
    option_map (λ others. map edit_of l.changes.items ++ others) (edits_in (items_view (drop l.value-index l.values)))
    ≡ edits_in (items_view l.values)
