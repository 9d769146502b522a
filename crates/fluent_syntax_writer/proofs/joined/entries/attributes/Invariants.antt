use Rattle.std.proofs.Common.{◌≡◌, map, take, string_bytes}
use Rattle.fluent_syntax_tree.specs.View.{attribute_view}
use Rattle.fluent_syntax_grammar.specs.Joined.{joined_attribute}
use Rattle.fluent_syntax_writer.proofs.joined.entries.attributes.Given as goal

abbrev pub invariant-loop-item : goal.invariant-loop-item
invariant-loop-item g l =
    map (attribute_view string_bytes) l.copies.items
    ≡ map (λ a. joined_attribute (attribute_view g.T.ReadTexts.text a)) (take l.item-index l.item-items)
