use Rattle.std.proofs.Common.{ap, rules, subst, sym, ◌∙◌, All, List, map}
use Rattle.std.proofs.lemmas.List.Elements.{All-same}
use Rattle.serde_json.specs.View.{view}
use Rattle.serde_json.specs.declared.value.Value.{Value}
use Rattle.ftl_lsp.specs.Contexts.{IsIndexed}
use Rattle.ftl_lsp.specs.Occurrences.{shown_of}
use Rattle.ftl_lsp.specs.Renaming.{RenamesIn, renames_in}
use Rattle.ftl_lsp.proofs.RenamingLemmas.{All-append_value}
use Rattle.ftl_lsp.proofs.requests.renaming.document_changes.Goals as goal
use Rattle.ftl_lsp.proofs.requests.renaming.document_changes.Goals.{
  then-not-is_empty+in_ok-edits_of_document+in_ok-push,
}
use Rattle.ftl_lsp.proofs.requests.renaming.document_changes.Goals.{else-not-is_empty}

pub loop-document-preserved : goal.loop-document-preserved
loop-document-preserved c = λ texts d context named.
    let renames = RenamesIn texts (shown_of c.args.name) c.args.identifier.now in
    let before = c.loop-document.invariant texts d context named in
    let each = All-same (IsIndexed texts) c.deref-document-items.result.now c.args.context.now.documents.items
    c.deref-document-items.ensures.value context.documents in
    let here =
    subst (IsIndexed texts) (sym c.document-item.is) (each c.loop-document.document-index _ (search rules)) in
    elim c.if-not-is_empty.branch [
      | then-not-is_empty+in_ok-edits_of_document+in_ok-push w ↦
          All-append_value renames _ _ _ (ap (λ v. v.items) w.changes-is ∙ w.in_ok-push.ensures.items) before
          (subst renames (sym w.in_ok-edits_of_document.ensures)
          (renames_in _ _ _ _ here (c.in_ok-edits.ensures named)))
      | else-not-is_empty w ↦
          subst (λ (values : List Value). All renames (map view values)) (sym (ap (λ v. v.items) w.changes-is)) before
    ]
