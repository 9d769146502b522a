use Rattle.std.proofs.Common.{string_bytes, sym, ◌∙◌}
use Rattle.std.proofs.lemmas.Simd.{map-map}
use Rattle.fluent_syntax_tree.specs.View.{attribute_view}
use Rattle.fluent_syntax_tree.proofs.Lists.{maps_of_whole_prefix_agree}
use Rattle.fluent_syntax_grammar.specs.Joined.{joined_attribute}
use Rattle.fluent_syntax_writer.proofs.joined.entries.attributes.Goals as goal

pub returns : goal.returns
returns g c =
    let text = g.T.ReadTexts.text in
    maps_of_whole_prefix_agree (attribute_view string_bytes) (λ a. joined_attribute (attribute_view text a)) _ _ _
    c.loop-item.item-index c.loop-item.invariant c.loop-item-test.false c.deref-item-items.ensures.value
    ∙ sym (map-map joined_attribute (attribute_view text) c.args.attributes.now.items)
