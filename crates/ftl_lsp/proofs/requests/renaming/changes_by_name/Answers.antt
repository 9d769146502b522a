use Rattle.std.proofs.Common.{ap, rules, subst, sym, ◌∙◌, List}
use Rattle.std.proofs.lemmas.List.Elements.{All-same}
use Rattle.serde_json.proofs.Views.{Entry}
use Rattle.serde_json.specs.View.{members_view}
use Rattle.ftl_lsp.specs.Contexts.{IsIndexed}
use Rattle.ftl_lsp.specs.Occurrences.{shown_of}
use Rattle.ftl_lsp.specs.Renaming.{RenamesEach, renames_none}
use Rattle.ftl_lsp.proofs.RenamingLemmas.{edits_of_one_more}
use Rattle.ftl_lsp.proofs.requests.renaming.changes_by_name.Goals as goal
use Rattle.ftl_lsp.proofs.requests.renaming.changes_by_name.Goals.{
  then-not-is_empty+in_ok-uri+in_ok-insert,
  else-not-is_empty,
}

pub returns-then-eq : goal.returns-then-eq
returns-then-eq c = λ texts d context named.
    subst (λ (entries : List Entry). RenamesEach texts (shown_of c.args.name) c.args.identifier.now
    (members_view entries)) (sym c.new-changes.ensures.empty) renames_none

pub loop-document-init : goal.loop-document-init
loop-document-init c = λ texts d context named.
    subst (λ (entries : List Entry). RenamesEach texts (shown_of c.args.name) c.args.identifier.now
    (members_view entries)) (sym c.new-changes.ensures.empty) renames_none

pub loop-document-preserved : goal.loop-document-preserved
loop-document-preserved c = λ texts d context named.
    let before = c.loop-document.invariant texts d context named in
    let each = All-same (IsIndexed texts) c.deref-document-items.result.now c.args.context.now.documents.items
    c.deref-document-items.ensures.value context.documents in
    let here =
    subst (IsIndexed texts) (sym c.document-item.is) (each c.loop-document.document-index _ (search rules)) in
    elim c.if-not-is_empty.branch [
      | then-not-is_empty+in_ok-uri+in_ok-insert w ↦
          edits_of_one_more texts _ _ _ _ _ _ _ _ _ (ap (λ m. m.entries) w.changes-is ∙ w.in_ok-insert.ensures.entries)
          w.in_ok-uri.ensures.ok here (c.in_ok-edits.ensures named) before
      | else-not-is_empty w ↦
          subst (λ (entries : List Entry). RenamesEach texts (shown_of c.args.name) c.args.identifier.now
          (members_view entries)) (sym (ap (λ m. m.entries) w.changes-is)) before
    ]
