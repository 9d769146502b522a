use Rattle.std.proofs.Common.{◌≡◌, map, take}
use Rattle.fluent_syntax_tree.specs.View.{entry_view}
use Rattle.fluent_syntax_tree.proofs.copied.entries.resource.Given as goal

abbrev pub invariant-loop-item : goal.invariant-loop-item
invariant-loop-item g l =
    map (entry_view g.C.CopyTexts.made) l.body.items
    ≡ map (entry_view (g.C.CopyTexts.source l.by)) (take l.item-index l.item-items)
