use Rattle.std.proofs.Common.{◌≡◌, ◌≤◌, ◌∙◌, Contains, ap, arith, get_or, length, map, refl, string_bytes, subst, sym}
use Rattle.fluent_syntax_tree.specs.View.{attribute_view}
use Rattle.std.proofs.lemmas.List.Edits.{length-insert}
use Rattle.std.specs.List.{insert}
use Rattle.fluent_syntax_edits.specs.Additions.{IsMerged}
use Rattle.fluent_syntax_edits.proofs.Merging.{image_of_item_is_contained, inserting_keeps_merged}
use Rattle.fluent_syntax_edits.proofs.Merging.{list_is_merged_with_none}
use Rattle.fluent_syntax_edits.proofs.Numbered.{insert_maps_to_insert}
use Rattle.fluent_syntax_edits.proofs.missing_attributes.merge.Goals.{in-Some}
use Rattle.fluent_syntax_edits.proofs.missing_attributes.merge.Goals.{in_default+in_ok-format+else-is_ok}
use Rattle.fluent_syntax_edits.proofs.missing_attributes.merge.Goals.{
  in_default+in_ok-format+then-is_ok+in_ok-try_clone+in_ok-insert,
}
use Rattle.fluent_syntax_edits.proofs.missing_attributes.merge.Goals as goal

pub loop-attribute-init : goal.loop-attribute-init
loop-attribute-init c =
    let view = attribute_view (λ s. string_bytes s) in
    record {
      within = omega arith;
      merges = list_is_merged_with_none (Contains (map view c.args.others.now.items)) (map view c.args.own.now.items);
    }

pub loop-attribute-preserved : goal.loop-attribute-preserved
loop-attribute-preserved c =
    let view = attribute_view (λ s. string_bytes s) in
    let others = c.args.others.now.items in
    let own = c.loop-attribute.own.items in
    let is_other = Contains (map view others) in
    let inv = c.loop-attribute.invariant in
    elim c.match-position.branch [
      | in-Some w ↦
          (let bound = rw w.in-Some.is at c.position.ensures.bound in
          rw (w.own-is, w.place-is) (record {
            within = omega (arith, bound, ap length c.iter.ensures.rest);
            merges = inv.merges;
          }))
      | in_default+in_ok-format+then-is_ok+in_ok-try_clone+in_ok-insert w ↦
          (let copy = w.in_ok-try_clone.field-0 in
          let items : c.match-position.own.items ≡ insert own c.loop-attribute.place copy =
          ap (λ v. v.items) w.own-is ∙ w.in_ok-insert.ensures.items in
          let is : is_other (view copy) =
          subst is_other (sym w.in_ok-try_clone.ensures)
          (subst (λ xs. Contains (map view xs) (view c.attribute-item.result)) c.deref-attribute-items.ensures.value
          (image_of_item_is_contained view _ _ _ c.loop-attribute-test.true c.attribute-item.is)) in
          record {
            within = omega (arith, w.place-is, ap length items, length-insert _ _ copy inv.within);
            merges =
                subst (λ xs. IsMerged is_other (map view c.args.own.now.items) (map view xs)) (sym items)
                (subst (IsMerged is_other (map view c.args.own.now.items))
                (sym
                (insert_maps_to_insert view _ _ own copy (omega arith) inv.within (λ l. absurd (omega (arith, l)))))
                (inserting_keeps_merged is_other _ _ c.loop-attribute.place (view copy) inv.merges is));
          })
      | in_default+in_ok-format+else-is_ok w ↦ rw (w.own-is, w.place-is) inv
    ]
