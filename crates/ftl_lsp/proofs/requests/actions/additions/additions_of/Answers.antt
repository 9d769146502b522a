use Rattle.std.proofs.Common.{◌∙◌, List, All, ap, map, subst, sym}
use Rattle.fluent_syntax_edits.specs.SeveralEdits.{numbered_change}
use Rattle.serde_json.specs.View.{view}
use Rattle.serde_json.specs.declared.value.Value.{Value}
use Rattle.ftl_lsp.specs.Actions.{IsAction, Mends}
use Rattle.ftl_lsp.specs.OpenDocuments.{open_text}
use Rattle.ftl_lsp.proofs.ActionLemmas.{additions_mend}
use Rattle.ftl_lsp.proofs.RenamingLemmas.{All-append_value}
use Rattle.ftl_lsp.proofs.requests.actions.additions.additions_of.Goals as goal
use Rattle.ftl_lsp.proofs.requests.actions.additions.additions_of.Goals.{in-Some+in_ok-push, in_default}

pub loop-choice-preserved : goal.loop-choice-preserved
loop-choice-preserved c =
    let found = open_text c.args.mended.now.open.now in
    let is_action = IsAction c.args.mended.now.uri.now found in
    let added = additions_mend _ _ _ (rw c.text-text.ensures at c.in_ok-edits.ensures) in
    let mends =
    subst (λ edits. All (Mends found.text) (map numbered_change edits)) (sym c.deref-in-loop-choice.ensures.value) added
    in
    elim c.match-branch-3.branch [
      | in-Some+in_ok-push w ↦
          All-append_value is_action _ _ _ (ap (λ v. v.items) w.list-is ∙ w.in_ok-push.ensures.items)
          c.loop-choice.invariant (rw w.in-Some.is at (c.in_ok-action.ensures mends))
      | in_default w ↦
          subst (λ (values : List Value). All is_action (map view values)) (sym (ap (λ v. v.items) w.list-is))
          c.loop-choice.invariant
    ]
