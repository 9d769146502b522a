use Rattle.fluent_syntax_c.proofs.NameRows.{attribute_name_is_in_text}
use Rattle.fluent_syntax_c.proofs.names.add_owner.Goals as goal

pub row_of-requires-in-loop-attribute : goal.row_of-requires-in-loop-attribute
row_of-requires-in-loop-attribute c =
    attribute_name_is_in_text c.args.positions.now c.loop-attribute.positions c.args.attributes.now.items
    c.deref-attribute-items.result.now c.loop-attribute.attribute-index c.attribute-item.result c.requires.attributes
    c.deref-attribute-items.ensures.value c.loop-attribute-test.true c.attribute-item.is
    c.loop-attribute.invariant.text
