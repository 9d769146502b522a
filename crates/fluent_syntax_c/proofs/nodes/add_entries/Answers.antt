use Rattle.std.proofs.Common.{List, map, refl}
use Rattle.fluent_syntax_tree.specs.View.{entry_view}
use Rattle.fluent_syntax_tree.specs.declared.ast.Entry.{Entry}
use Rattle.fluent_syntax_tree.specs.declared.spans.Span.{Span}
use Rattle.fluent_syntax_names.proofs.Adding.{leaves_next, leaves_none}
use Rattle.fluent_syntax_c.specs.Nodes.{body_nodes, entry_nodes}
use Rattle.fluent_syntax_c.proofs.nodes.add_entries.Goals as goal

pub loop-entry-preserved : goal.loop-entry-preserved
loop-entry-preserved c =
    let all = λ (nodes : List (Entry Span)). body_nodes (map (entry_view (λ s. s)) nodes) in
    let one = λ (x : Entry Span). entry_nodes (entry_view (λ s. s) x) in
    record {
      left = leaves_next all one c.args.rows.now.items c.loop-entry.rows.items c.args.entries.now
          c.loop-entry.entry-index (λ x xs tail. refl) _ c.entry-item.result c.loop-entry-test.true
          c.entry-item.is c.loop-entry.invariant.left c.in_ok-add_entry.ensures;
    }

pub returns : goal.returns
returns c =
    let all = λ (nodes : List (Entry Span)). body_nodes (map (entry_view (λ s. s)) nodes) in
    leaves_none all (λ (x : Entry Span). entry_nodes (entry_view (λ s. s) x)) c.args.rows.now.items
    c.loop-entry.rows.items c.args.entries.now c.loop-entry.entry-index (λ tail. refl)
    c.loop-entry-test.false c.loop-entry.invariant.left
