use Rattle.std.proofs.Common.{◌∙◌, ◌∷◌, ◌++◌, [], List, ap, map, subst, sym}
use Rattle.serde_json.specs.View.{view}
use Rattle.serde_json.specs.declared.value.Value.{Value}
use Rattle.ftl_lsp.specs.Actions.{IsAction, action_form, respells, workspace_edit_form}
use Rattle.ftl_lsp.specs.OpenDocuments.{open_text}
use Rattle.ftl_lsp.proofs.RenamingLemmas.{edit_of_span_renames_identifier}
use Rattle.ftl_lsp.proofs.requests.actions.mended_document.MendedDocument.respelling.Goals as goal

pub returns : goal.returns
returns c =
    let found = open_text c.args.self.now.open.now in
    let uri = c.args.self.now.uri.now in
    let versioned = c.args.self.now.versioned in
    let one =
    ap (map view) (c.in_ok-push.ensures.items
    ∙ ap (λ (items : List Value). items ++ c.in_ok-edit_form.field-0 ∷ []) c.new-list.ensures.items) in
    subst (IsAction uri found)
    (sym (c.in_ok-action_form.ensures
    ∙ ap (λ e. action_form c.args.title.now (workspace_edit_form versioned uri found e)) one))
    (respells versioned c.args.title.now c.args.old.now c.args.name.now _ c.requires.name
    (edit_of_span_renames_identifier found.text c.args.old.now c.args.name.now _ c.args.span _
    c.in_ok-edit_form.ensures.form (c.new-positions.ensures ∙ c.text.ensures) c.requires.old c.requires.cut))
