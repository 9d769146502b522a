use Rattle.std.proofs.Common.{◌++◌, ◌∙◌, ap, arith, inr, map, refl, string_bytes, subst, sym}
use Rattle.std.proofs.lemmas.List.{drop_all}
use Rattle.std.proofs.lemmas.Result.{err_from_is_err_and}
use Rattle.std.proofs.lemmas.Str.{IsCharBoundary-from_drop}
use Rattle.std.specs.Prelude.{IsTrue}
use Rattle.std.specs.Str.{IsCharBoundary}
use Rattle.fluent_syntax_edits.specs.Changes.{change_of}
use Rattle.fluent_syntax_edits.specs.SeveralEdits.{numbered_change, overlap}
use Rattle.fluent_syntax_edits.specs.declared.fault.EditFault.TheVariants.{Overlap}
use Rattle.fluent_syntax_edits.proofs.DraftSteps.{draft_grows_by_edit, draft_is_before_edit, draft_of_all_is_spliced}
use Rattle.fluent_syntax_edits.proofs.DraftSteps.{draft_of_all_replaces, empty_draft_is_before_all}
use Rattle.fluent_syntax_edits.proofs.DraftSteps.{fault_of_range_is_first, found_range_is_range}
use Rattle.fluent_syntax_edits.proofs.DraftSteps.{range_by_places_is_range}
use Rattle.fluent_syntax_edits.proofs.DraftSteps.{IsDraftBefore}
use Rattle.fluent_syntax_edits.proofs.drafts.draft_of.Goals as goal
use Rattle.fluent_syntax_edits.proofs.drafts.draft_of.Goals.{then-is_char_boundary, else-is_char_boundary}

pub loop-edit-init : goal.loop-edit-init
loop-edit-init c = record {
  before =
      empty_draft_is_before_all c.args.edition c.args.source.now (map numbered_change c.args.edits.now) _
      c.new.ensures.bytes c.new-2.ensures.items refl;
  cuts = IsCharBoundary-from_drop c.args.source.now 0 (omega arith) c.utf8.source;
}

pub returns-in_err-span : goal.returns-in_err-span
returns-in_err-span c =
    let p = err_from_is_err_and c.from_residual-in_err-span.result c.from_residual-in_err-span.ensures.1 in
    let e = c.edit-item.result in
    let range =
    range_by_places_is_range c.args.edition c.args.source.now e.index (change_of e.edit) _ _ _
    c.in_ok-entry_places.ensures c.deref.ensures.value c.in_err-span.ensures in
    rw (p.1, p.2)
    (fault_of_range_is_first c.args.edition c.args.source.now c.args.edits.now c.loop-edit.edit-index e
    c.loop-edit-test.true c.edit-item.is c.loop-edit.draft _ c.loop-edit.invariant.before range)

pub returns-then-span-draft : goal.returns-then-span-draft
returns-then-span-draft c =
    let e = c.edit-item.result in
    let s = c.in_ok-span.span in
    let range =
    found_range_is_range c.args.edition c.args.source.now e.index (change_of e.edit) s
    (range_by_places_is_range c.args.edition c.args.source.now e.index (change_of e.edit) _ _ _
    c.in_ok-entry_places.ensures c.deref.ensures.value c.in_ok-span.ensures) in
    let before =
    draft_is_before_edit c.args.edition c.args.source.now c.args.edits.now c.loop-edit.edit-index e
    c.loop-edit-test.true c.edit-item.is c.loop-edit.draft c.loop-edit.invariant.before in
    inr (before.fault Overlap (overlap s range c.if-span-draft.true))

pub loop-edit-preserved : goal.loop-edit-preserved
loop-edit-preserved c =
    let e = c.edit-item.result in
    let s = c.in_ok-span.span in
    let range =
    found_range_is_range c.args.edition c.args.source.now e.index (change_of e.edit) s
    (range_by_places_is_range c.args.edition c.args.source.now e.index (change_of e.edit) _ _ _
    c.in_ok-entry_places.ensures c.deref.ensures.value c.in_ok-span.ensures) in
    let before =
    draft_is_before_edit c.args.edition c.args.source.now c.args.edits.now c.loop-edit.edit-index e
    c.loop-edit-test.true c.edit-item.is c.loop-edit.draft c.loop-edit.invariant.before in
    let added = c.in_ok-add_edit.ensures in
    record {
      before =
          draft_grows_by_edit c.args.edition c.args.source.now (map numbered_change c.args.edits.now) _
          (numbered_change e) s c.loop-edit.draft c.add_edit.new.draft before range c.if-span-draft.false added;
      cuts =
          elim c.if-is_char_boundary.branch [
            | then-is_char_boundary w ↦
                subst (λ k. IsCharBoundary c.args.source.now k) (sym added.end)
                (w.is_char_boundary-cuts.ensures.test.0
                (subst IsTrue (sym c.if-not-cuts.false ∙ w.cuts-is) refl))
            | else-is_char_boundary w ↦ absurd (cc)
          ];
    }

pub returns : goal.returns
returns c =
    let d = c.loop-edit.draft in
    let all = map numbered_change c.args.edits.now in
    let none = ap (map numbered_change) (drop_all c.loop-edit.edit-index c.args.edits.now c.loop-edit-test.false) in
    let before =
    subst (λ rest. IsDraftBefore c.args.edition c.args.source.now all rest d) none c.loop-edit.invariant.before in (
      draft_of_all_replaces c.args.edition c.args.source.now all d before,
      c.in_ok-push_str.ensures.bytes
          ∙ (ap (λ bs. string_bytes d.text ++ bs) c.range_from.ensures.value
          ∙ draft_of_all_is_spliced c.args.edition c.args.source.now all d before),
    )
