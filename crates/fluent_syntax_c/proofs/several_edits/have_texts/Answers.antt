use Rattle.std.proofs.Common.{refl, rules, sym}
use Rattle.std.proofs.lemmas.List.{take_all}
use Rattle.std.proofs.lemmas.List.Elements.{All-more, All-same}
use Rattle.fluent_syntax_c.specs.SeveralEdits.{HasTexts}
use Rattle.fluent_syntax_c.proofs.several_edits.have_texts.Goals as goal

pub loop-edit-preserved : goal.loop-edit-preserved
loop-edit-preserved c =
    All-more HasTexts c.args.edits.now c.loop-edit.edit-index _ c.loop-edit-test.true c.loop-edit.invariant
    (c.has_texts.ensures.0 (search rules))

pub returns : goal.returns
returns c =
    let edits = c.args.edits.now in
    let all = sym (take_all c.loop-edit.edit-index edits c.loop-edit-test.false) in
    ((λ e. All-same HasTexts edits _ all c.loop-edit.invariant), (λ h. refl))

pub returns-then-not-has_texts : goal.returns-then-not-has_texts
returns-then-not-has_texts c = (
  (λ e. cc),
  (λ all. c.if-not-has_texts.ensures.1 (all c.loop-edit.edit-index _ c.loop-edit-test.true)),
)
