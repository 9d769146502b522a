use Rattle.std.proofs.Common.{◌≡◌, ◌∙◌, ap, arith, length, refl, string_bytes}
use Rattle.std.specs.Vec.{vec_len}
use Rattle.fluent_syntax_tree.specs.View.{entry_view, pattern_view}
use Rattle.fluent_syntax_edits.specs.Changes.{with_target}
use Rattle.fluent_syntax_edits.proofs.Numbered.{insert_maps_to_insert, past_end_at_number_changes_nothing}
use Rattle.fluent_syntax_edits.proofs.Numbered.{remove_maps_to_remove, setting_item_changes_it_at_number}
use Rattle.fluent_syntax_edits.proofs.apply_edit.apply.Goals as goal

pub returns-in_ok-insert-in-Insert : goal.returns-in_ok-insert-in-Insert
returns-in_ok-insert-in-Insert c =
    let body = c.args.body.now in
    let size : length body.items ≡ vec_len body = omega (arith, body.ok.0) in
    rw (c.in-Insert.is, c.in_ok-insert-in-Insert.ensures.items)
    (insert_maps_to_insert (entry_view (λ s. string_bytes s)) c.args.index c.min.result body.items c.in-Insert.entry
    (omega arith) (omega (arith, size)) (λ l. omega (arith, size)))

pub returns-in-Replace : goal.returns-in-Replace
returns-in-Replace c =
    let body = c.args.body.now in
    let size : length body.items ≡ vec_len body = omega (arith, body.ok.0) in
    rw c.in-Replace.is
    (setting_item_changes_it_at_number (entry_view (λ s. string_bytes s)) _ c.args.index body.items c.in-Replace.entry
    c.in-Replace.entry
    (omega (arith, size)) refl)

pub returns-in-Set : goal.returns-in-Set
returns-in-Set c =
    let body = c.args.body.now in
    let size : length body.items ≡ vec_len body = omega (arith, body.ok.0) in
    let target = c.in-Set.target in
    let v = pattern_view (λ s. string_bytes s) c.in-Set.value in
    rw c.in-Set.is
    (setting_item_changes_it_at_number (entry_view (λ s. string_bytes s)) (with_target target v) c.args.index body.items
    _ _
    (omega (arith, size))
    (c.set_in.ensures
    ∙ ap (λ e. with_target target v (entry_view (λ s. string_bytes s) e)) c.index_mut-in-Set.ensures.value))

pub returns-in-Remove : goal.returns-in-Remove
returns-in-Remove c =
    rw (c.in-Remove.is, c.remove.ensures.items)
    (remove_maps_to_remove (entry_view (λ s. string_bytes s)) c.args.index c.args.body.now.items)

pub returns-in-Replace-2 : goal.returns-in-Replace-2
returns-in-Replace-2 c =
    let body = c.args.body.now in
    let size : length body.items ≡ vec_len body = omega (arith, body.ok.0) in
    rw c.in-Replace.is
    (past_end_at_number_changes_nothing (entry_view (λ s. string_bytes s)) _ c.args.index body.items
    (omega (arith, size)))

pub returns-in-Set-2 : goal.returns-in-Set-2
returns-in-Set-2 c =
    let body = c.args.body.now in
    let size : length body.items ≡ vec_len body = omega (arith, body.ok.0) in
    rw c.in-Set.is
    (past_end_at_number_changes_nothing (entry_view (λ s. string_bytes s)) _ c.args.index body.items
    (omega (arith, size)))
