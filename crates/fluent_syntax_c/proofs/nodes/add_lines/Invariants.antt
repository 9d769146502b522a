use Rattle.std.proofs.Common.{List, drop, map}
use Rattle.fluent_syntax_tree.specs.declared.spans.Span.{Span}
use Rattle.fluent_syntax_names.specs.Growing.{Leaves}
use Rattle.fluent_syntax_c.specs.Nodes.{lines_nodes}
use Rattle.fluent_syntax_c.proofs.nodes.add_lines.Given as goal

abbrev pub invariant-loop-line : goal.invariant-loop-line
invariant-loop-line l =
    let all = λ (lines : List Span). lines_nodes (map (λ s. s) lines) in
    record { left : Leaves l.fn.rows.items l.rows.items (all (drop l.line-index l.lines)) (all l.lines) }
