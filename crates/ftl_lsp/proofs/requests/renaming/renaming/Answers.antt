use Rattle.std.proofs.Common.{subst, sym}
use Rattle.std.proofs.lemmas.Result.{IfOk-weaker}
use Rattle.ftl_lsp.specs.Renaming.{RenamesName, renames, renames_by_name}
use Rattle.ftl_lsp.proofs.requests.renaming.renaming.Goals as goal

pub returns-in_ok-document_changes : goal.returns-in_ok-document_changes
returns-in_ok-document_changes c = λ texts d context asks.
    let changes = c.in_ok-document_changes.ensures texts d context asks.old_spelling in
    IfOk-weaker c.renaming_form.result _ _
    (λ value is. subst (RenamesName texts d) (sym is) (renames _ _ _ asks changes)) c.renaming_form.ensures

pub returns-in_ok-changes_by_name : goal.returns-in_ok-changes_by_name
returns-in_ok-changes_by_name c = λ texts d context asks.
    let changes = c.in_ok-changes_by_name.ensures texts d context asks.old_spelling in
    IfOk-weaker c.changes_form.result _ _
    (λ value is. subst (RenamesName texts d) (sym is) (renames_by_name _ _ _ asks changes)) c.changes_form.ensures
