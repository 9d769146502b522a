use Rattle.std.proofs.Common.{sym, ◌∙◌}
use Rattle.fluent_syntax_parser.proofs.expressions.InlineForms.{term_with_attribute_is_term_attribute}
use Rattle.fluent_syntax_parser.proofs.expressions.InlineForms.{inline_without_term_is_no_term_attribute}
use Rattle.fluent_syntax_parser.proofs.reader.Reader.is_term_attribute.Goals as goal

pub returns-in-TermReference : goal.returns-in-TermReference
returns-in-TermReference g c =
    let arm = c.in-TermReference in
    rw arm.is (c.is_some.ensures
    ∙ sym (term_with_attribute_is_term_attribute g.M.MakeTexts.made arm.id arm.attribute arm.arguments))

pub returns-in_default : goal.returns-in_default
returns-in_default g c =
    sym (inline_without_term_is_no_term_attribute g.M.MakeTexts.made c.args.expression.now
    c.in_default.not-TermReference)
