use Rattle.std.proofs.Common.{◌∙◌, ap, map, subst, sym}
use Rattle.fluent_syntax_edits.specs.SeveralEdits.{numbered_change}
use Rattle.ftl_lsp.specs.Actions.{IsAction, action_form, mends, replacement_form, workspace_edit_form}
use Rattle.ftl_lsp.specs.OpenDocuments.{open_text}
use Rattle.ftl_lsp.proofs.requests.actions.mended_document.MendedDocument.action_of.Goals as goal

pub returns-in_ok-action_form-in-Ok : goal.returns-in_ok-action_form-in-Ok
returns-in_ok-action_form-in-Ok c = λ all.
    let found = open_text c.args.self.now.open.now in
    let uri = c.args.self.now.uri.now in
    let versioned = c.args.self.now.versioned in
    let edits =
    (rw c.text-text.ensures at c.in_ok-edits-in-Ok.ensures)
    ∙ ap (map (replacement_form found.text)) c.deref.ensures.value in
    subst (IsAction uri found)
    (sym (c.in_ok-action_form-in-Ok.ensures
    ∙ ap (λ e. action_form c.args.title.now (workspace_edit_form versioned uri found e)) edits))
    (mends versioned c.args.title.now (map numbered_change c.args.edits.now) c.in-Ok.found all
    (rw c.text-text.ensures at c.in-Ok.ensures))
