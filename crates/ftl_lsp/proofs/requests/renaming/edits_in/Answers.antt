use Rattle.std.proofs.Common.{rules, ◌∙◌}
use Rattle.std.proofs.lemmas.List.Elements.{All-same}
use Rattle.ftl_lsp.specs.Occurrences.{IsCut, shown_of}
use Rattle.ftl_lsp.specs.Renaming.{RenamesAt}
use Rattle.ftl_lsp.proofs.RenamingLemmas.{All-append_value, edit_of_span_renames_identifier}
use Rattle.ftl_lsp.proofs.requests.renaming.edits_in.Goals as goal

pub loop-span-preserved : goal.loop-span-preserved
loop-span-preserved c =
    let t = c.args.document.now.text.now in
    let old = shown_of c.args.name in
    let cuts = All-same (λ span. IsCut t span old) c.deref-span-items.result.now c.in_ok-ranges_of.field-0.items
    c.deref-span-items.ensures.value c.in_ok-ranges_of.ensures in
    record {
      positions = c.edit_form.ensures.text ∙ c.loop-span.invariant.positions;
      edits = λ named. All-append_value (RenamesAt t old c.args.text.now) _ _ _ c.in_ok-push.ensures.items
          (c.loop-span.invariant.edits named)
          (edit_of_span_renames_identifier t old c.args.text.now _ _ _ c.in_ok-edit_form.ensures.form
          c.loop-span.invariant.positions named
          (cuts c.loop-span.span-index _ (search rules)));
    }
