use Rattle.std.proofs.Common.{None, Some, ap, sym, ◌∙◌}
use Rattle.std.proofs.lemmas.Result.{err_from_is_err_and}
use Rattle.fluent_syntax_tree.specs.Kind.{ExpectedTermField}
use Rattle.fluent_syntax_tree.specs.declared.spans.Span.{Span}
use Rattle.fluent_syntax_grammar.specs.Bytes.{hyphen}
use Rattle.fluent_syntax_grammar.specs.Construct.{stops, goes_on, at_place, given, failed_from}
use Rattle.fluent_syntax_grammar.specs.Entries.{term_with}
use Rattle.fluent_syntax_grammar.specs.Grammar.{within}
use Rattle.fluent_syntax_grammar.proofs.FunctionalWords.{identifier_is_functional, token_is_functional}
use Rattle.fluent_syntax_parser.specs.PartRanges.{term_has_parts}
use Rattle.fluent_syntax_parser.specs.Outcomes.{refused}
use Rattle.fluent_syntax_parser.specs.declared.fault.Fault.TheVariants as fault
use Rattle.fluent_syntax_parser.proofs.entry_forms.ExtentForms.{parts_of_fields_read_as_fields}
use Rattle.fluent_syntax_parser.proofs.entry_forms.ExtentForms.{fields_with_value_range_have_value}
use Rattle.fluent_syntax_parser.proofs.entry_forms.ExtentForms.{fields_without_value_range_have_none}
use Rattle.fluent_syntax_grammar.proofs.Functional.{here_is_functional}
use Rattle.fluent_syntax_parser.proofs.readers.Fails.{bind_fails_second}
use Rattle.fluent_syntax_parser.proofs.entry_forms.FieldForms.{entry_after_name_fails_where_fields_fail, fields_go_on}
use Rattle.fluent_syntax_parser.proofs.scanning.NameTexts.{identifier_has_name_text, token_is_one_byte}
use Rattle.fluent_syntax_parser.proofs.reader.Reader.term_parts.Goals as goal

pub returns-in_err-letter : goal.returns-in_err-letter
returns-in_err-letter g c =
    let p = err_from_is_err_and c.from_residual.result c.from_residual.ensures.1 in
    rw (p.1, p.2) (refused (λ k from to h. goes_on at_place (stops (c.in_err-letter.ensures.parses k from to h))))

pub returns-in_err-end : goal.returns-in_err-end
returns-in_err-end g c =
    let p = err_from_is_err_and c.from_residual-in_err-end.result c.from_residual-in_err-end.ensures.1 in
    rw (p.1, p.2) (refused (λ k from to h.
    goes_on at_place
    (goes_on c.in_ok-letter.ensures.parses
    (stops (c.in_err-end.ensures.parses k from to h)))))

pub returns-in_err-value : goal.returns-in_err-value
returns-in_err-value g c =
    let t = c.args.self.now.source.bytes.now in
    let name : Span = record { start = c.in_ok-letter.letter; end = c.in_ok-end.end } in
    let p = err_from_is_err_and c.from_residual-in_err-value.result c.from_residual-in_err-value.ensures.1 in
    rw (p.1, p.2)
    (bind_fails_second here_is_functional at_place
    (bind_fails_second (token_is_functional t hyphen) c.in_ok-letter.ensures.parses
    (bind_fails_second (identifier_is_functional t) c.in_ok-end.ensures.parses
    (entry_after_name_fails_where_fields_fail c.args.self.now.edition t _ (term_with t c.args.start name)
    c.in_err-value.ensures))))

pub returns-then-is_none : goal.returns-then-is_none
returns-then-is_none g c =
    let t = c.args.self.now.source.bytes.now in
    let edition = c.args.self.now.edition in
    let R = within edition t c.args.nesting in
    let name : Span = record { start = c.in_ok-letter.letter; end = c.in_ok-end.end } in
    let found = c.in_ok-value in
    let (f, parts_hold) = found.ensures in
    let text = sym (identifier_has_name_text t c.in_ok-end.ensures.parses) in
    let before = token_is_one_byte t c.in_ok-letter.ensures.parses in
    refused {f = fault.TermField} {from = c.in_ok-letter.letter} {place = found.place} (λ k from to (a, b, d).
    rw (a ∙ ap ExpectedTermField text, b ∙ before, d)
    (goes_on at_place
    (goes_on c.in_ok-letter.ensures.parses
    (goes_on c.in_ok-end.ensures.parses
    (fields_go_on edition t R (term_with t c.args.start name) _ _ (None, f.1) _
    (parts_of_fields_read_as_fields edition t R _ _ _ found.value (None, f.1)
    (fields_without_value_range_have_none edition t R _ _ _ found.value f parts_hold c.if-is_none.ensures))
    failed_from)))))

pub returns : goal.returns
returns g c =
    let t = c.args.self.now.source.bytes.now in
    let edition = c.args.self.now.edition in
    let R = within edition t c.args.nesting in
    let name : Span = record { start = c.in_ok-letter.letter; end = c.in_ok-end.end } in
    let found = c.in_ok-value in
    let (f, parts_hold) = found.ensures in
    fields_with_value_range_have_value edition t R _ _ _ found.value f parts_hold c.if-is_none.ensures (λ value parts. (
      _,
      _,
      goes_on at_place
          (goes_on c.in_ok-letter.ensures.parses
          (goes_on c.in_ok-end.ensures.parses
          (fields_go_on edition t R (term_with t c.args.start name) _ _ (Some value, f.1) _
          (parts_of_fields_read_as_fields edition t R _ _ _ found.value (Some value, f.1) parts)
          given))),
      term_has_parts c.in_ok-letter.ensures.parses c.in_ok-end.ensures.parses parts,
    ))
