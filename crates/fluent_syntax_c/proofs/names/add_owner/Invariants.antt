use Rattle.std.proofs.Common.{◌≡◌, ◌++◌, map, take}
use Rattle.fluent_syntax_tree.specs.View.{attribute_view}
use Rattle.fluent_syntax_c.specs.Names.{owner_rows}
use Rattle.fluent_syntax_c.proofs.names.add_owner.Given as goal

abbrev pub invariant-loop-attribute : goal.invariant-loop-attribute
invariant-loop-attribute l = record {
  text : l.positions ≡ l.fn.positions;
  so_far : l.rows.items ≡ l.fn.rows.items ++
      owner_rows l.fn.positions l.fn.named l.owner l.fn.whole l.fn.name
      (map (attribute_view (λ s. s)) (take l.attribute-index l.attribute-items));
}
