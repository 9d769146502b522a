use Rattle.std.proofs.Common.{◌≡◌, ◌∙◌, ap, false, sym, true}
use Rattle.fluent_syntax_grammar.specs.Grammar.{within}
use Rattle.fluent_syntax_parser.proofs.expressions.ArgumentNames.{is_name, argument_name_is_identifier}
use Rattle.fluent_syntax_parser.proofs.expressions.ArgumentNames.{inline_but_name_has_no_argument_name}
use Rattle.fluent_syntax_parser.proofs.expressions.ArgumentNames.{is_name-inline_map}
use Rattle.fluent_syntax_parser.proofs.expressions.InlineForms.{message_reference_is_name, no_name_of_attribute}
use Rattle.fluent_syntax_parser.proofs.expressions.InlineForms.{inline_but_message_is_no_name}
use Rattle.fluent_syntax_parser.proofs.reader.Reader.argument_name.Goals as goal

pub returns-in-None : goal.returns-in-None
returns-in-None g c =
    let arm = c.in-MessageReference in
    let t = c.args.self.now.source.bytes.now in
    λ n end e read same.
    let is : is_name e ≡ true =
    sym (is_name-inline_map _ e) ∙ ap is_name (sym same)
    ∙ rw arm.is (message_reference_is_name g.M.MakeTexts.made arm.id
    arm.attribute
    c.in-None.is) in
    let found = argument_name_is_identifier t c.args.place (within c.args.self.now.edition t n) e end read is in
    c.name_at.ensures.name found.0 found.1 found.2 ∙ sym found.3

pub returns-in-Some : goal.returns-in-Some
returns-in-Some g c =
    let arm = c.in-MessageReference in
    λ n end e read same.
    let is : is_name e ≡ false =
    sym (is_name-inline_map _ e) ∙ ap is_name (sym same) ∙ rw arm.is (no_name_of_attribute g.M.MakeTexts.made arm.id
    arm.attribute _ c.in-Some.is) in
    sym (inline_but_name_has_no_argument_name e is)

pub returns-in_default : goal.returns-in_default
returns-in_default g c =
    λ n end e read same.
    let is : is_name e ≡ false =
    sym (is_name-inline_map _ e) ∙ ap is_name (sym same)
    ∙ inline_but_message_is_no_name g.M.MakeTexts.made c.args.expression.now c.in_default.not-MessageReference in
    sym (inline_but_name_has_no_argument_name e is)
