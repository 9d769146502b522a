use Rattle.std.proofs.Common.{string_bytes}
use Rattle.fluent_syntax_tree.specs.View.{attribute_view}
use Rattle.fluent_syntax_json.specs.Form.{attribute_form}
use Rattle.fluent_syntax_json.proofs.Forms.{list-made}
use Rattle.fluent_syntax_json.proofs.form.entries.attributes.Goals as goal

pub returns : goal.returns
returns c =
    list-made c.loop-item.list _ c.args.attributes.now.items c.loop-item.item-index attribute_form
    (attribute_view string_bytes) c.loop-item.invariant c.loop-item-test.false c.deref-item-items.ensures.value
