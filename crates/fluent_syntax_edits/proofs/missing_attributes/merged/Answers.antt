use Rattle.std.proofs.Common.{◌∙◌, ap, arith, refl, string_bytes, sym}
use Rattle.std.proofs.lemmas.Bool.Decides.{nat_tests}
use Rattle.std.proofs.lemmas.Option.{slice_get-map, slice_get_read}
use Rattle.std.specs.Prelude.{option_map}
use Rattle.fluent_syntax_tree.specs.View.{entry_view}
use Rattle.fluent_syntax_edits.proofs.Merging.{entry_is_merged_with_none, merging_entry_twice_merges}
use Rattle.fluent_syntax_edits.proofs.missing_attributes.merged.Goals.{in-Some+in_ok-is_new, in_default}
use Rattle.fluent_syntax_edits.proofs.missing_attributes.merged.Goals as goal

pub loop-place-init : goal.loop-place-init
loop-place-init c = rw c.in_ok-merged.ensures (entry_is_merged_with_none _ _)

pub loop-place-preserved : goal.loop-place-preserved
loop-place-preserved c =
    let view = entry_view (λ s. string_bytes s) in
    let body = c.args.reference.now.body.items in
    elim c.match-get.branch [
      | in-Some+in_ok-is_new w ↦
          (let lookup = rw (w.in-Some.is, c.deref.ensures.value) at c.get.ensures.lookup in
          let within = sym lookup.0 in
          let found = slice_get_read body _ _ _ refl (grind (arith, nat_tests)) lookup.1 in
          let there = slice_get-map view body _ ∙ ap (option_map view) found in
          let more = w.in_ok-is_new.ensures in
          rw w.merged-is (merging_entry_twice_merges _ _ _ _ c.loop-place.invariant (more _ _ there)))
      | in_default w ↦ rw w.merged-is c.loop-place.invariant
    ]
