use Rattle.std.proofs.Common.{◌≡◌, Some, map, string_bytes}
use Rattle.fluent_syntax_tree.specs.View.{attribute_view}
use Rattle.fluent_syntax_json.specs.Reading.{attribute_in}
use Rattle.fluent_syntax_json.proofs.Items.{so_far}
use Rattle.fluent_syntax_json.proofs.reading.entries.attributes.Given as goal

abbrev pub invariant-loop-item : goal.invariant-loop-item
invariant-loop-item l =
    so_far attribute_in l.item-items l.item-index ≡ Some (map (attribute_view string_bytes) l.attributes.items)
