use Rattle.std.proofs.Common.{refl}
use Rattle.fluent_syntax_parser.proofs.expressions.InlineForms.{message_as_selector_has_fault}
use Rattle.fluent_syntax_parser.proofs.expressions.InlineForms.{message_attribute_as_selector_has_fault}
use Rattle.fluent_syntax_parser.proofs.expressions.InlineForms.{term_as_selector_has_fault}
use Rattle.fluent_syntax_parser.proofs.expressions.InlineForms.{no_fault_of_term, placeable_as_selector_has_fault}
use Rattle.fluent_syntax_parser.proofs.expressions.InlineForms.{other_inline_as_selector_has_no_fault}
use Rattle.fluent_syntax_parser.proofs.reader.Reader.selector_fault.Goals as goal

pub returns-in-None : goal.returns-in-None
returns-in-None g c = λ t i.
    let arm = c.in-MessageReference in
    rw arm.is (message_as_selector_has_fault g.M.MakeTexts.made arm.id arm.attribute c.in-None.is, refl, refl)

pub returns-in-Some : goal.returns-in-Some
returns-in-Some g c = λ t i.
    let arm = c.in-MessageReference in
    rw arm.is (
      message_attribute_as_selector_has_fault g.M.MakeTexts.made arm.id arm.attribute _ c.in-Some.is,
      refl,
      refl,
    )

pub returns-in-None-attribute : goal.returns-in-None-attribute
returns-in-None-attribute g c = λ t i.
    let arm = c.in-TermReference in
    rw arm.is (
      term_as_selector_has_fault g.M.MakeTexts.made arm.id arm.attribute arm.arguments c.in-None-attribute.is,
      refl,
      refl,
    )

pub returns-in-Some-attribute : goal.returns-in-Some-attribute
returns-in-Some-attribute g c = λ t i.
    let arm = c.in-TermReference in
    rw arm.is (no_fault_of_term g.M.MakeTexts.made arm.id arm.attribute arm.arguments _ c.in-Some-attribute.is)

pub returns-in-Placeable : goal.returns-in-Placeable
returns-in-Placeable g c = λ t i.
    let arm = c.in-Placeable in
    rw arm.is (placeable_as_selector_has_fault g.M.MakeTexts.made arm.expression, refl, refl)

pub returns-in_default : goal.returns-in_default
returns-in_default g c = λ t i.
    let arm = c.in_default in
    other_inline_as_selector_has_no_fault g.M.MakeTexts.made c.args.expression.now arm.not-MessageReference
    arm.not-TermReference arm.not-Placeable
