use Rattle.std.proofs.Common.{◌≡◌, map, take}
use Rattle.fluent_syntax_tree.specs.declared.ast.CallArguments.{out-CallArguments}
use Rattle.fluent_syntax_tree.specs.View.{inline_view, element_view, named_view, variant_view}
use Rattle.fluent_syntax_tree.proofs.copied.patterns.+copied.Given as goal

abbrev pub invariant-arguments-loop-item : goal.invariant-arguments-loop-item
invariant-arguments-loop-item g l =
    map (inline_view g.C.CopyTexts.made) l.positional.items
    ≡ map (inline_view (g.C.CopyTexts.source l.by)) (take l.item-index l.item-items)

abbrev pub invariant-arguments-loop-item-2 : goal.invariant-arguments-loop-item-2
invariant-arguments-loop-item-2 g l =
    (map (inline_view g.C.CopyTexts.made) l.positional.items ≡ map (inline_view (g.C.CopyTexts.source l.by))
    (out-CallArguments g.row.X.Denot l.arguments).positional.items) × (map (named_view g.C.CopyTexts.made)
    l.nameds.items
    ≡ map (named_view (g.C.CopyTexts.source l.by)) (take l.item-index l.item-items))

abbrev pub invariant-expression-loop-item : goal.invariant-expression-loop-item
invariant-expression-loop-item g l =
    map (variant_view g.C.CopyTexts.made) l.copies.items
    ≡ map (variant_view (g.C.CopyTexts.source l.by)) (take l.item-index l.item-items)

abbrev pub invariant-pattern-loop-item : goal.invariant-pattern-loop-item
invariant-pattern-loop-item g l =
    map (element_view g.C.CopyTexts.made) l.elements.items
    ≡ map (element_view (g.C.CopyTexts.source l.by)) (take l.item-index l.item-items)
