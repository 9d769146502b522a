use Rattle.std.proofs.Common.{List, drop, map}
use Rattle.fluent_syntax_tree.specs.View.{attribute_view}
use Rattle.fluent_syntax_tree.specs.declared.ast.Attribute.{Attribute}
use Rattle.fluent_syntax_tree.specs.declared.spans.Span.{Span}
use Rattle.fluent_syntax_names.specs.Growing.{Leaves}
use Rattle.fluent_syntax_c.specs.Nodes.{attributes_nodes}
use Rattle.fluent_syntax_c.proofs.nodes.add_attributes.Given as goal

abbrev pub invariant-loop-attribute : goal.invariant-loop-attribute
invariant-loop-attribute l =
    let all = λ (nodes : List (Attribute Span)). attributes_nodes (map (attribute_view (λ s. s)) nodes) in
    record { left : Leaves l.fn.rows.items l.rows.items (all (drop l.attribute-index l.attributes)) (all l.attributes) }
