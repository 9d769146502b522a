use Rattle.std.proofs.Common.{List, get_or, map, refl}
use Rattle.fluent_syntax_tree.specs.declared.spans.Span.{Span}
use Rattle.fluent_syntax_names.proofs.Adding.{items_are_left_after_next, leaves_none}
use Rattle.fluent_syntax_c.specs.Nodes.{line_nodes, lines_nodes, no_text}
use Rattle.fluent_syntax_c.proofs.nodes.add_lines.Goals as goal

pub loop-line-preserved : goal.loop-line-preserved
loop-line-preserved c =
    let all = λ (lines : List Span). lines_nodes (map (λ s. s) lines) in
    record {
      left = items_are_left_after_next all line_nodes c.args.rows.now.items c.loop-line.rows.items c.args.lines.now
          c.loop-line.line-index (λ x xs tail. refl) _ (get_or c.args.lines.now c.loop-line.line-index no_text) no_text
          c.loop-line-test.true refl c.loop-line.invariant.left c.in_ok-add_line.ensures;
    }

pub returns : goal.returns
returns c =
    let all = λ (lines : List Span). lines_nodes (map (λ s. s) lines) in
    leaves_none all line_nodes c.args.rows.now.items c.loop-line.rows.items c.args.lines.now c.loop-line.line-index
    (λ tail. refl) c.loop-line-test.false c.loop-line.invariant.left
