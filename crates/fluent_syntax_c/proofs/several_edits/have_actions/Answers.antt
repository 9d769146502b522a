use Rattle.std.proofs.Common.{refl, rules, sym}
use Rattle.std.proofs.lemmas.List.{take_all}
use Rattle.std.proofs.lemmas.List.Elements.{All-more, All-same}
use Rattle.fluent_syntax_c.specs.SeveralEdits.{HasAction}
use Rattle.fluent_syntax_c.proofs.several_edits.have_actions.Goals as goal

pub loop-edit-preserved : goal.loop-edit-preserved
loop-edit-preserved c =
    All-more HasAction c.args.edits.now c.loop-edit.edit-index _ c.loop-edit-test.true c.loop-edit.invariant
    (c.has_action.ensures.0 (search rules))

pub returns : goal.returns
returns c =
    let edits = c.args.edits.now in
    let all = sym (take_all c.loop-edit.edit-index edits c.loop-edit-test.false) in
    ((λ e. All-same HasAction edits _ all c.loop-edit.invariant), (λ h. refl))
