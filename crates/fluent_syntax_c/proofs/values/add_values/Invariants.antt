use Rattle.std.proofs.Common.{◌≡◌, ◌++◌, ◌∷◌, map, take, Some}
use Rattle.fluent_syntax_c.specs.Values.{value_row}
use Rattle.fluent_syntax_c.proofs.values.add_values.Given as goal

abbrev pub invariant-loop-attribute : goal.invariant-loop-attribute
invariant-loop-attribute l = record {
  so_far : l.rows.items ≡ l.fn.rows.items ++
      (value_row l.fn.ranges.value ∷ map (λ a. value_row (Some a.value)) (take l.attribute-index l.attribute-items));
}
