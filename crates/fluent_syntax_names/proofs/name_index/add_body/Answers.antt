use Rattle.std.proofs.Common.{List, map, refl}
use Rattle.fluent_syntax_tree.specs.declared.ast.Entry.{Entry}
use Rattle.fluent_syntax_tree.specs.declared.spans.Span.{Span}
use Rattle.fluent_syntax_tree.specs.View.{entry_view}
use Rattle.fluent_syntax_names.specs.Mentions.{entry_mentions, body_mentions}
use Rattle.fluent_syntax_names.proofs.Adding.{leaves_next, leaves_none}
use Rattle.fluent_syntax_names.proofs.name_index.add_body.Goals as goal

pub loop-entry-preserved : goal.loop-entry-preserved
loop-entry-preserved c =
    let all = λ (nodes : List (Entry Span)). body_mentions (map (entry_view (λ x. x)) nodes) in
    let one = λ (x : Entry Span). entry_mentions (entry_view (λ x. x) x) in
    record {
      left = leaves_next all one c.args.list.now.items c.loop-entry.list.items c.args.body.now
          c.loop-entry.entry-index (λ x xs tail. refl) _ c.entry-item.result c.loop-entry-test.true
          c.entry-item.is c.loop-entry.invariant.left c.in_ok-add_entry.ensures;
    }

pub returns : goal.returns
returns c =
    let all = λ (nodes : List (Entry Span)). body_mentions (map (entry_view (λ x. x)) nodes) in
    leaves_none all (λ (x : Entry Span). entry_mentions (entry_view (λ x. x) x))
    c.args.list.now.items c.loop-entry.list.items c.args.body.now c.loop-entry.entry-index
    (λ tail. refl) c.loop-entry-test.false c.loop-entry.invariant.left
