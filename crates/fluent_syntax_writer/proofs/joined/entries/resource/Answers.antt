use Rattle.std.proofs.Common.{◌++◌, append-nil, string_bytes, sym, ap, ◌∙◌}
use Rattle.std.proofs.lemmas.List.Folds.{flat_map-map}
use Rattle.std.specs.List.{flat_map}
use Rattle.std.specs.Option.{option_to_list}
use Rattle.fluent_syntax_tree.specs.View.{entry_view}
use Rattle.fluent_syntax_tree.proofs.Lists.{flat_map-end}
use Rattle.fluent_syntax_grammar.specs.Joined.{joined_entry}
use Rattle.fluent_syntax_writer.proofs.joining.Bodies.{flat_map_take_next}
use Rattle.fluent_syntax_writer.proofs.joined.entries.resource.Goals as goal
use Rattle.fluent_syntax_writer.proofs.joined.entries.resource.Goals.{in-Some+in_ok-push-in-Some, in-None}

pub loop-item-preserved : goal.loop-item-preserved
loop-item-preserved g c =
    let old = c.loop-item.body.items in
    flat_map_take_next (entry_view string_bytes) (λ e. joined_entry (entry_view g.T.ReadTexts.text e)) old _
    c.in_ok-entry.field-0 c.deref-item-items.result.now c.loop-item.item-index c.item-item.result
    c.loop-item.invariant
    (elim c.match-branch-2.branch [
      | in-Some+in_ok-push-in-Some w ↦
          ap (λ b. b.items) w.body-is ∙ w.in_ok-push-in-Some.ensures.items
          ∙ ap (λ o. old ++ option_to_list o) (sym w.in-Some.is)
      | in-None w ↦
          ap (λ b. b.items) w.body-is ∙ sym (append-nil old)
          ∙ ap (λ o. old ++ option_to_list o) (sym w.in-None.is)
    ])
    c.loop-item-test.true c.item-item.is c.in_ok-entry.ensures

pub returns-clause-joined : goal.returns-clause-joined
returns-clause-joined g c =
    let text = g.T.ReadTexts.text in
    c.loop-item.invariant
    ∙ sym (flat_map-end (λ e. joined_entry (entry_view text e)) c.deref-item-items.result.now c.loop-item.item-index
    c.loop-item-test.false)
    ∙ ap (flat_map (λ e. joined_entry (entry_view text e))) c.deref-item-items.ensures.value
    ∙ sym (flat_map-map joined_entry (entry_view text) c.args.resource.now.body.items)
