use Rattle.std.proofs.Common.{string_bytes}
use Rattle.std.proofs.lemmas.Result.{err_from_is_err_and}
use Rattle.fluent_syntax_tree.specs.View.{attribute_view}
use Rattle.fluent_syntax_json.specs.Reading.{attribute_in}
use Rattle.fluent_syntax_json.proofs.Items.{handed, pushed, item_that_fails_fails_items}
use Rattle.fluent_syntax_json.proofs.reading.entries.attributes.Goals as goal

pub returns-in_err-attribute : goal.returns-in_err-attribute
returns-in_err-attribute c =
    let p = err_from_is_err_and c.from_residual-in_err-attribute.result c.from_residual-in_err-attribute.ensures.1 in
    handed _ _ _ _ _ _ p.1 p.2
    (λ q. rw (
      c.in_ok-list.ensures,
      item_that_fails_fails_items attribute_in c.in_ok-list.field-0.now.items c.deref-item-items.result.now
          c.loop-item.item-index
          c.item-item.result c.loop-item-test.true c.item-item.is c.deref-item-items.ensures.value q,
    ))
    c.in_err-attribute.ensures

pub loop-item-preserved : goal.loop-item-preserved
loop-item-preserved c =
    pushed attribute_in (attribute_view string_bytes) _ _ c.in_ok-attribute.field-0 _ c.loop-item.item-index
    c.item-item.result c.loop-item.invariant c.in_ok-push.ensures.items c.loop-item-test.true c.item-item.is
    c.in_ok-attribute.ensures
