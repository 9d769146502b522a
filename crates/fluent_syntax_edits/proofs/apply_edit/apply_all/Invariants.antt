use Rattle.std.proofs.Common.{◌≡◌, ◌≤◌, drop, length, map, string_bytes}
use Rattle.fluent_syntax_tree.specs.View.{entry_view}
use Rattle.fluent_syntax_edits.specs.SeveralEdits.{numbered_change, tree_after_all}
use Rattle.fluent_syntax_edits.proofs.apply_edit.apply_all.Given as goal

abbrev pub invariant-loop-count : goal.invariant-loop-count
invariant-loop-count l =
    let view = entry_view (λ s. string_bytes s) in
    record {
      within : l.count ≤ length l.edits;
      made :
          map view l.body.items
          ≡ tree_after_all (map numbered_change (drop l.count l.edits)) (map view l.fn.body.items);
    }

abbrev pub decreases-loop-count : goal.decreases-loop-count
decreases-loop-count l = l.count
