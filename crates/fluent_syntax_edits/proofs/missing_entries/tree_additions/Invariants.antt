use Rattle.std.proofs.Common.{All, map, string_bytes}
use Rattle.fluent_syntax_edits.specs.Additions.{IsTreeAddition}
use Rattle.fluent_syntax_edits.specs.SeveralEdits.{numbered_change}
use Rattle.fluent_syntax_tree.specs.View.{resource_view}
use Rattle.fluent_syntax_edits.proofs.missing_entries.tree_additions.Given as goal

abbrev pub invariant-loop-group : goal.invariant-loop-group
invariant-loop-group l =
    All (IsTreeAddition (resource_view (λ s. string_bytes s) l.reference)
    (resource_view (λ s. string_bytes s) l.tree))
    (map numbered_change l.edits.items)
