use Rattle.std.proofs.Common.{◌≡◌, drop, map}
use Rattle.std.specs.List.{position_from}
use Rattle.fluent_syntax_tree.specs.View.{entry_view}
use Rattle.fluent_syntax_edits.specs.Numbers.{first_named, is_named}
use Rattle.fluent_syntax_edits.proofs.numbers.number_of.Given as goal

abbrev pub invariant-loop-number : goal.invariant-loop-number
invariant-loop-number g l =
    let view = entry_view g.S.Slice.text in
    let entries = l.tree.body.items in
    record {
      rest :
          position_from (is_named l.name) l.number (map view (drop l.number entries))
          ≡ first_named l.name (map view entries);
    }
