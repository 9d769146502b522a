use Rattle.std.proofs.Common.{List, drop, map}
use Rattle.fluent_syntax_tree.specs.declared.ast.Entry.{Entry}
use Rattle.fluent_syntax_tree.specs.declared.spans.Span.{Span}
use Rattle.fluent_syntax_tree.specs.View.{entry_view}
use Rattle.fluent_syntax_names.specs.Growing.{Leaves}
use Rattle.fluent_syntax_names.specs.Mentions.{body_mentions}
use Rattle.fluent_syntax_names.proofs.name_index.add_body.Given as goal

abbrev pub invariant-loop-entry : goal.invariant-loop-entry
invariant-loop-entry l =
    let all = λ (nodes : List (Entry Span)). body_mentions (map (entry_view (λ x. x)) nodes) in
    record { left : Leaves l.fn.list.items l.list.items (all (drop l.entry-index l.body)) (all l.body) }
