use Rattle.std.proofs.Common.{◌≡◌, ◌+◌, length, map, arith, ap, ◌∙◌}
use Rattle.std.proofs.lemmas.List.{length-map}
use Rattle.fluent_syntax_tree.specs.View.{attribute_view}
use Rattle.fluent_syntax_names.proofs.Adding.{adding_on_ok_adds_both}
use Rattle.fluent_syntax_c.specs.Nodes.{node_row}
use Rattle.fluent_syntax_c.specs.declared.nodes.NodeKind.TheVariants as kind
use Rattle.fluent_syntax_c.proofs.NodeRows.{row_and_rest_are_added}
use Rattle.fluent_syntax_c.proofs.nodes.add_term.Goals as goal

pub returns : goal.returns
returns c =
    let attributes = c.args.term.now.attributes in
    let held : 1 + c.len.result ≡ 1 + length (map (attribute_view (λ s. s)) attributes.items) =
    omega (arith, c.len.ensures, attributes.ok.0, length-map attributes.items (attribute_view (λ s. s))) in
    let rest = rw c.deref.ensures.value at c.add_attributes.ensures in
    adding_on_ok_adds_both c.add_attributes.result c.args.rows.now.items c.add_own_comment.new.rows.items
    c.add_attributes.new.rows.items _ _ c.in_ok-add_own_comment.ensures
    (row_and_rest_are_added c.add_attributes.result c.add_own_comment.new.rows.items c.push.new.self.items
    c.add_attributes.new.rows.items _ _ _ c.in_ok-push.ensures.items
    (c.node.ensures ∙ ap (λ n. node_row kind.Term c.args.term.now.id.name n) held)
    (adding_on_ok_adds_both c.add_attributes.result c.push.new.self.items c.add_pattern.new.rows.items
    c.add_attributes.new.rows.items _ _ c.in_ok-add_pattern.ensures rest))
