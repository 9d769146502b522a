use Rattle.std.proofs.Common.{◌≡◌, map, take, string_bytes}
use Rattle.std.specs.List.{flat_map}
use Rattle.fluent_syntax_tree.specs.View.{entry_view}
use Rattle.fluent_syntax_grammar.specs.Joined.{joined_entry}
use Rattle.fluent_syntax_writer.proofs.joined.entries.resource.Given as goal

abbrev pub invariant-loop-item : goal.invariant-loop-item
invariant-loop-item g l =
    map (entry_view string_bytes) l.body.items
    ≡ flat_map (λ e. joined_entry (entry_view g.T.ReadTexts.text e)) (take l.item-index l.item-items)
