use Rattle.std.proofs.Common.{List, drop, map}
use Rattle.fluent_syntax_tree.specs.declared.ast.Attribute.{Attribute}
use Rattle.fluent_syntax_tree.specs.View.{attribute_view}
use Rattle.fluent_syntax_names.specs.Growing.{Leaves}
use Rattle.fluent_syntax_names.specs.Mentions.{attributes_mentions}
use Rattle.fluent_syntax_names.proofs.entries.add_attributes.Given as goal

abbrev pub invariant-loop-attribute : goal.invariant-loop-attribute
invariant-loop-attribute g l =
    let all = λ (nodes : List (Attribute g.row.X.Denot)). attributes_mentions (map (attribute_view (λ x. x)) nodes) in
    record { left : Leaves l.fn.list.items l.list.items (all (drop l.attribute-index l.attributes)) (all l.attributes) }
