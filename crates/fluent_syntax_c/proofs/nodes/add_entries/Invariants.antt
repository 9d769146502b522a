use Rattle.std.proofs.Common.{List, drop, map}
use Rattle.fluent_syntax_tree.specs.View.{entry_view}
use Rattle.fluent_syntax_tree.specs.declared.ast.Entry.{Entry}
use Rattle.fluent_syntax_tree.specs.declared.spans.Span.{Span}
use Rattle.fluent_syntax_names.specs.Growing.{Leaves}
use Rattle.fluent_syntax_c.specs.Nodes.{body_nodes}
use Rattle.fluent_syntax_c.proofs.nodes.add_entries.Given as goal

abbrev pub invariant-loop-entry : goal.invariant-loop-entry
invariant-loop-entry l =
    let all = λ (nodes : List (Entry Span)). body_nodes (map (entry_view (λ s. s)) nodes) in
    record { left : Leaves l.fn.rows.items l.rows.items (all (drop l.entry-index l.entries)) (all l.entries) }
