use Rattle.std.proofs.Common.{◌≤◌, Contains, length, map, string_bytes}
use Rattle.fluent_syntax_edits.specs.Additions.{IsMerged}
use Rattle.fluent_syntax_tree.specs.View.{attribute_view}
use Rattle.fluent_syntax_edits.proofs.missing_attributes.merge.Given as goal

abbrev pub invariant-loop-attribute : goal.invariant-loop-attribute
invariant-loop-attribute l =
    let view = attribute_view (λ s. string_bytes s) in
    record {
      within : l.place ≤ length l.own.items;
      merges :
          IsMerged (Contains (map view l.others.items)) (map view l.fn.own.items) (map view l.own.items);
    }
