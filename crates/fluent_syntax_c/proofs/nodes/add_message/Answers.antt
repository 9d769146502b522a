use Rattle.std.proofs.Common.{◌≡◌, ◌+◌, length, map, option_map, arith, ap, ◌∙◌}
use Rattle.std.proofs.lemmas.List.{length-map}
use Rattle.fluent_syntax_tree.specs.View.{attribute_view, pattern_view}
use Rattle.fluent_syntax_names.proofs.Adding.{adding_on_ok_adds_both}
use Rattle.fluent_syntax_c.specs.Nodes.{node_row, option_count}
use Rattle.fluent_syntax_c.specs.declared.nodes.NodeKind.TheVariants as kind
use Rattle.fluent_syntax_c.proofs.NodeRows.{row_and_rest_are_added}
use Rattle.fluent_syntax_c.proofs.nodes.add_message.Goals as goal

pub returns : goal.returns
returns c =
    let attributes = c.args.message.now.attributes in
    let held : c.value_count.result + c.len.result
    ≡ option_count (option_map (pattern_view (λ s. s)) c.args.message.now.value)
    + length (map (attribute_view (λ s. s)) attributes.items) =
    omega (
      arith,
      c.len.ensures,
      attributes.ok.0,
      length-map attributes.items (attribute_view (λ s. s)),
      c.value_count.ensures.count,
    ) in
    let rest = rw c.deref.ensures.value at c.add_attributes.ensures in
    adding_on_ok_adds_both c.add_attributes.result c.args.rows.now.items c.add_own_comment.new.rows.items
    c.add_attributes.new.rows.items _ _ c.in_ok-add_own_comment.ensures
    (row_and_rest_are_added c.add_attributes.result c.add_own_comment.new.rows.items c.push.new.self.items
    c.add_attributes.new.rows.items _ _ _ c.in_ok-push.ensures.items
    (c.node.ensures ∙ ap (λ n. node_row kind.Message c.args.message.now.id.name n) held)
    (adding_on_ok_adds_both c.add_attributes.result c.push.new.self.items c.add_value.new.rows.items
    c.add_attributes.new.rows.items _ _ c.in_ok-add_value.ensures rest))
