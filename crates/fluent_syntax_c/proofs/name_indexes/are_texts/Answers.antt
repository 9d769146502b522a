use Rattle.std.proofs.Common.{refl, rules, sym}
use Rattle.std.proofs.lemmas.List.{take_all}
use Rattle.std.proofs.lemmas.List.Elements.{All-more, All-same}
use Rattle.fluent_syntax_c.specs.NameIndexes.{IsText}
use Rattle.fluent_syntax_c.proofs.name_indexes.are_texts.Goals as goal

pub loop-text-preserved : goal.loop-text-preserved
loop-text-preserved c =
    All-more IsText c.args.texts.now c.loop-text.text-index _ c.loop-text-test.true c.loop-text.invariant
    (c.is_text.ensures.0 (search rules))

pub returns : goal.returns
returns c =
    let texts = c.args.texts.now in
    let all = sym (take_all c.loop-text.text-index texts c.loop-text-test.false) in
    ((λ e. All-same IsText texts _ all c.loop-text.invariant), (λ h. refl))
