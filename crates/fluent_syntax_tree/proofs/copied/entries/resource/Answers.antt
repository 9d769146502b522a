use Rattle.fluent_syntax_tree.specs.Every.{entry_every}
use Rattle.fluent_syntax_tree.specs.View.{entry_view}
use Rattle.fluent_syntax_tree.proofs.Every.{item_of_every_list_has_it}
use Rattle.fluent_syntax_tree.proofs.Lists.{maps_agree_on_push}
use Rattle.fluent_syntax_tree.proofs.copied.entries.resource.Goals as goal

pub entry-requires : goal.entry-requires
entry-requires g c = record {
  each =
      item_of_every_list_has_it (entry_every (g.C.CopyTexts.can c.args.by.now)) (entry_view (λ x. x))
      c.args.resource.now.body.items
      c.deref-item-items.result.now c.loop-item.item-index c.item-item.result c.requires.each
      c.deref-item-items.ensures.value c.loop-item-test.true c.item-item.is;
}

pub loop-item-preserved : goal.loop-item-preserved
loop-item-preserved g c =
    maps_agree_on_push (entry_view g.C.CopyTexts.made) (entry_view (g.C.CopyTexts.source c.args.by.now)) _ _
    c.in_ok-entry.field-0 _ c.loop-item.item-index c.item-item.result c.loop-item.invariant
    c.in_ok-push.ensures.items c.loop-item-test.true c.item-item.is c.in_ok-entry.ensures
