use Rattle.std.proofs.Common.{◌≡◌, map, take}
use Rattle.fluent_syntax_tree.specs.View.{attribute_view}
use Rattle.fluent_syntax_tree.proofs.copied.entries.attributes.Given as goal

abbrev pub invariant-loop-item : goal.invariant-loop-item
invariant-loop-item g l =
    map (attribute_view g.C.CopyTexts.made) l.copies.items
    ≡ map (attribute_view (g.C.CopyTexts.source l.by)) (take l.item-index l.item-items)
