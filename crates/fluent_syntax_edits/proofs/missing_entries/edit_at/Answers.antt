use Rattle.std.proofs.Common.{◌∙◌, ap, arith, refl, string_bytes, subst, sym}
use Rattle.std.proofs.lemmas.Bool.Decides.{nat_tests}
use Rattle.std.proofs.lemmas.Option.{slice_get-map, slice_get_read}
use Rattle.std.specs.Prelude.{option_map}
use Rattle.fluent_syntax_tree.specs.View.{entry_view, resource_view}
use Rattle.fluent_syntax_edits.specs.Additions.{IsTreeAddition, inserted, merged}
use Rattle.fluent_syntax_edits.proofs.missing_entries.edit_at.Goals as goal

pub returns-in_ok-replace-in-Some-2 : goal.returns-in_ok-replace-in-Some-2
returns-in_ok-replace-in-Some-2 c =
    let tree = c.args.tree.now in
    let lookup = rw (c.in-Some-get.is, c.deref.ensures.value) at c.get.ensures.lookup in
    let within = sym lookup.0 in
    let found = slice_get_read tree.body.items _ _ _ refl (grind (arith, nat_tests)) lookup.1 in
    let there =
    slice_get-map (entry_view (λ s. string_bytes s)) tree.body.items _
    ∙ ap (option_map (entry_view (λ s. string_bytes s))) found in
    subst
    (IsTreeAddition (resource_view (λ s. string_bytes s) c.args.reference.now)
    (resource_view (λ s. string_bytes s) tree))
    (sym c.in_ok-replace-in-Some-2.ensures)
    (merged _ _ _ there (rw c.in-Some-2.is at c.in_ok-entry.ensures))

pub returns-in_ok-insert-in-Some-get-2 : goal.returns-in_ok-insert-in-Some-get-2
returns-in_ok-insert-in-Some-get-2 c =
    let reference = c.args.reference.now in
    let lookup = rw (c.in-Some-get-2.is, c.deref-2.ensures.value) at c.get-2.ensures.lookup in
    let within = sym lookup.0 in
    let found = slice_get_read reference.body.items _ _ _ refl (grind (arith, nat_tests)) lookup.1 in
    let there =
    slice_get-map (entry_view (λ s. string_bytes s)) reference.body.items _
    ∙ ap (option_map (entry_view (λ s. string_bytes s))) found in
    subst
    (IsTreeAddition (resource_view (λ s. string_bytes s) reference)
    (resource_view (λ s. string_bytes s) c.args.tree.now))
    (sym c.in_ok-insert-in-Some-get-2.ensures) (inserted _ _ _ there)
