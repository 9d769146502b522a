use Rattle.std.proofs.Common.{◌≡◌, Some, map, string_bytes}
use Rattle.fluent_syntax_tree.specs.View.{entry_view}
use Rattle.fluent_syntax_json.specs.Reading.{entry_in}
use Rattle.fluent_syntax_json.proofs.Items.{so_far}
use Rattle.fluent_syntax_json.proofs.reading.entries.resource.Given as goal

abbrev pub invariant-loop-item : goal.invariant-loop-item
invariant-loop-item l =
    so_far entry_in l.item-items l.item-index ≡ Some (map (entry_view string_bytes) l.body.items)
