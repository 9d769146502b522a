use Rattle.std.proofs.Common.{List, map, refl}
use Rattle.fluent_syntax_tree.specs.declared.ast.Attribute.{Attribute}
use Rattle.fluent_syntax_tree.specs.View.{attribute_view}
use Rattle.fluent_syntax_names.specs.Mentions.{attribute_mentions, attributes_mentions}
use Rattle.fluent_syntax_names.proofs.Adding.{leaves_next, leaves_none}
use Rattle.fluent_syntax_names.proofs.entries.add_attributes.Goals as goal

pub loop-attribute-preserved : goal.loop-attribute-preserved
loop-attribute-preserved g c =
    let all = λ (nodes : List (Attribute g.row.X.Denot)). attributes_mentions (map (attribute_view (λ x. x)) nodes) in
    let one = λ (x : Attribute g.row.X.Denot). attribute_mentions (attribute_view (λ x. x) x) in
    record {
      left = leaves_next all one c.args.list.now.items c.loop-attribute.list.items c.args.attributes.now
          c.loop-attribute.attribute-index (λ x xs tail. refl) _ c.attribute-item.result c.loop-attribute-test.true
          c.attribute-item.is c.loop-attribute.invariant.left c.in_ok-add_attribute.ensures;
    }

pub returns : goal.returns
returns g c =
    let all = λ (nodes : List (Attribute g.row.X.Denot)). attributes_mentions (map (attribute_view (λ x. x)) nodes) in
    leaves_none all (λ (x : Attribute g.row.X.Denot). attribute_mentions (attribute_view (λ x. x) x))
    c.args.list.now.items c.loop-attribute.list.items c.args.attributes.now c.loop-attribute.attribute-index
    (λ tail. refl) c.loop-attribute-test.false c.loop-attribute.invariant.left
