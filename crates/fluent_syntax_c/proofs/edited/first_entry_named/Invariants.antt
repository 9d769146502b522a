use Rattle.std.proofs.Common.{◌≡◌, drop, map}
use Rattle.std.specs.List.{position_from}
use Rattle.fluent_syntax_tree.specs.View.{entry_view}
use Rattle.fluent_syntax_c.specs.Edits.{first_entry_named, has_entry_name}
use Rattle.fluent_syntax_c.proofs.edited.first_entry_named.Given as goal

abbrev pub invariant-loop-number : goal.invariant-loop-number
invariant-loop-number l =
    let view = entry_view (λ text. text.now) in
    let entries = l.tree.body.items in
    record {
      rest :
          position_from (has_entry_name l.name) l.number (map view (drop l.number entries))
          ≡ first_entry_named l.name (map view entries);
    }
