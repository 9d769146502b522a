use Rattle.std.proofs.Common.{Ok, arith, subst}
use Rattle.fluent_syntax_grammar.specs.Grammar.{within}
use Rattle.fluent_syntax_grammar.proofs.TotalEntries.{too_deep_entry_has_more_bytes_than_depth}
use Rattle.fluent_syntax_parser.specs.PartRanges.{FindsEntry}
use Rattle.fluent_syntax_parser.proofs.entry_forms.ExtentForms.{found_ranges_are_those_of_entry, none_is_read}
use Rattle.fluent_syntax_parser.proofs.entry_forms.ExtentRanges.{found_ranges_lie_in_text}
use Rattle.fluent_syntax_parser.proofs.readers.Fails.{failure_of_refusal_is_refused, failure_is_too_deep}
use Rattle.fluent_syntax_parser.proofs.ranges.entry_ranges.Goals as goal

pub returns-in-Ok-clause-ranges : goal.returns-in-Ok-clause-ranges
returns-in-Ok-clause-ranges c =
    let edition = c.args.edition in
    let n = c.args.nesting in
    found_ranges_are_those_of_entry edition c.args.text.now n c.args.start _
    (subst (λ t. FindsEntry edition t (within edition t n) c.args.start (Ok c.in-Ok.found)) c.as_bytes.ensures.value
    c.in-Ok.ensures)

pub returns-in-Ok-clause-parts : goal.returns-in-Ok-clause-parts
returns-in-Ok-clause-parts c =
    found_ranges_lie_in_text c.args.edition c.args.text.now c.utf8.text c.args.start _ (returns-in-Ok-clause-ranges c)

pub returns-in-Err-Refused-clause-ranges : goal.returns-in-Err-Refused-clause-ranges
returns-in-Err-Refused-clause-ranges c = λ e end read.
    none_is_read c.args.text.now c.args.start end e c.args.edition c.args.nesting _ _ _
    (failure_of_refusal_is_refused
    (rw (c.as_bytes.ensures.value, c.in-Err-Refused.field-0-is) at c.in-Err-Refused.ensures)) read

pub returns-in-Err-TooDeep-clause-nests : goal.returns-in-Err-TooDeep-clause-nests
returns-in-Err-TooDeep-clause-nests c = λ e.
    too_deep_entry_has_more_bytes_than_depth c.args.edition c.args.text.now _ _ (omega (arith, c.requires))
    (failure_is_too_deep (rw (c.as_bytes.ensures.value, c.in-Err-TooDeep.field-0-is) at c.in-Err-TooDeep.ensures))

pub returns-in-Err-TooDeep-clause-deeper : goal.returns-in-Err-TooDeep-clause-deeper
returns-in-Err-TooDeep-clause-deeper c = λ e.
    failure_is_too_deep (rw (c.as_bytes.ensures.value, c.in-Err-TooDeep.field-0-is) at c.in-Err-TooDeep.ensures)
