use Rattle.std.proofs.Common.{List, map, refl}
use Rattle.fluent_syntax_tree.specs.View.{attribute_view}
use Rattle.fluent_syntax_tree.specs.declared.ast.Attribute.{Attribute}
use Rattle.fluent_syntax_tree.specs.declared.spans.Span.{Span}
use Rattle.fluent_syntax_names.proofs.Adding.{leaves_next, leaves_none}
use Rattle.fluent_syntax_c.specs.Nodes.{attribute_nodes, attributes_nodes}
use Rattle.fluent_syntax_c.proofs.nodes.add_attributes.Goals as goal

pub loop-attribute-preserved : goal.loop-attribute-preserved
loop-attribute-preserved c =
    let all = λ (nodes : List (Attribute Span)). attributes_nodes (map (attribute_view (λ s. s)) nodes) in
    let one = λ (x : Attribute Span). attribute_nodes (attribute_view (λ s. s) x) in
    record {
      left = leaves_next all one c.args.rows.now.items c.loop-attribute.rows.items c.args.attributes.now
          c.loop-attribute.attribute-index (λ x xs tail. refl) _ c.attribute-item.result c.loop-attribute-test.true
          c.attribute-item.is c.loop-attribute.invariant.left c.in_ok-add_attribute.ensures;
    }

pub returns : goal.returns
returns c =
    let all = λ (nodes : List (Attribute Span)). attributes_nodes (map (attribute_view (λ s. s)) nodes) in
    leaves_none all (λ (x : Attribute Span). attribute_nodes (attribute_view (λ s. s) x)) c.args.rows.now.items
    c.loop-attribute.rows.items c.args.attributes.now c.loop-attribute.attribute-index (λ tail. refl)
    c.loop-attribute-test.false c.loop-attribute.invariant.left
