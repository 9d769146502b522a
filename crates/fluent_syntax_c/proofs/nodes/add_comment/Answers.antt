use Rattle.std.proofs.Common.{◌≡◌, length, map, arith, ap, ◌∙◌}
use Rattle.std.proofs.lemmas.List.{length-map}
use Rattle.fluent_syntax_c.specs.Nodes.{no_text, node_row}
use Rattle.fluent_syntax_c.proofs.NodeRows.{row_and_rest_are_added}
use Rattle.fluent_syntax_c.proofs.nodes.add_comment.Goals as goal

pub returns : goal.returns
returns c =
    let lines = c.args.comment.now.content in
    let counted : c.len.result ≡ length (map (λ s. s) lines.items) =
    omega (arith, c.len.ensures, lines.ok.0, length-map lines.items (λ s. s)) in
    let rest = rw c.deref.ensures.value at c.add_lines.ensures in
    row_and_rest_are_added c.add_lines.result c.args.rows.now.items c.push.new.self.items
    c.add_lines.new.rows.items _ _ _ c.in_ok-push.ensures.items
    (c.bare_node.ensures ∙ ap (λ n. node_row c.args.kind no_text n) counted) rest
