use Rattle.std.proofs.Common.{◌≡◌, ◌∙◌, ap, length, arith, refl, sym}
use Rattle.std.specs.Vec.{vec_len}
use Rattle.std.proofs.lemmas.Result.{err_from_is_err_and}
use Rattle.fluent_syntax_tree.specs.Kind.{ExpectedMessageField}
use Rattle.fluent_syntax_tree.specs.declared.spans.Span.{Span}
use Rattle.fluent_syntax_grammar.specs.Construct.{stops, goes_on, at_place}
use Rattle.fluent_syntax_grammar.specs.Entries.{message_with}
use Rattle.fluent_syntax_grammar.specs.Grammar.{within}
use Rattle.fluent_syntax_grammar.proofs.FunctionalWords.{identifier_is_functional}
use Rattle.fluent_syntax_parser.specs.PartRanges.{message_has_parts}
use Rattle.fluent_syntax_parser.specs.Outcomes.{refused}
use Rattle.fluent_syntax_parser.specs.declared.fault.Fault.TheVariants as fault
use Rattle.fluent_syntax_parser.proofs.entry_forms.ExtentForms.{parts_of_fields_read_as_fields}
use Rattle.fluent_syntax_parser.proofs.entry_forms.ExtentForms.{no_attribute_trees_mean_no_ranges}
use Rattle.fluent_syntax_parser.proofs.entry_forms.ExtentForms.{no_attribute_ranges_mean_no_trees}
use Rattle.fluent_syntax_parser.proofs.entry_forms.ExtentForms.{value_is_there_where_its_range_is}
use Rattle.fluent_syntax_grammar.proofs.Functional.{here_is_functional}
use Rattle.fluent_syntax_parser.proofs.readers.Fails.{bind_fails_second}
use Rattle.fluent_syntax_parser.proofs.entry_forms.FieldForms.{entry_after_name_fails_where_fields_fail, fields_go_on}
use Rattle.fluent_syntax_parser.proofs.entry_forms.FieldForms.{message_form_of_attributes, message_form_of_value}
use Rattle.fluent_syntax_parser.proofs.entry_forms.FieldForms.{message_without_fields_is_refused, zero_count_is_empty}
use Rattle.fluent_syntax_parser.proofs.entry_forms.FieldForms.{nonzero_count_is_not_empty}
use Rattle.fluent_syntax_parser.proofs.reader.Reader.message_parts.Goals.{else-is_none-via-else-is_none}
use Rattle.fluent_syntax_parser.proofs.reader.Reader.message_parts.Goals.{else-is_none-via-then-is_none+else-is_empty}
use Rattle.fluent_syntax_parser.proofs.scanning.NameTexts.{identifier_has_name_text}
use Rattle.fluent_syntax_parser.proofs.reader.Reader.message_parts.Goals as goal

pub returns-in_err-end : goal.returns-in_err-end
returns-in_err-end g c =
    let p = err_from_is_err_and c.from_residual.result c.from_residual.ensures.1 in
    rw (p.1, p.2) (refused (λ k from to h. goes_on at_place (stops (c.in_err-end.ensures.parses k from to h))))

pub returns-in_err-value : goal.returns-in_err-value
returns-in_err-value g c =
    let t = c.args.self.now.source.bytes.now in
    let name : Span = record { start = c.args.start; end = c.in_ok-end.end } in
    let p = err_from_is_err_and c.from_residual-in_err-value.result c.from_residual-in_err-value.ensures.1 in
    rw (p.1, p.2)
    (bind_fails_second here_is_functional at_place
    (bind_fails_second (identifier_is_functional t) c.in_ok-end.ensures.parses
    (entry_after_name_fails_where_fields_fail c.args.self.now.edition t _ (message_with t c.args.start name)
    c.in_err-value.ensures)))

pub returns-then-is_empty : goal.returns-then-is_empty
returns-then-is_empty g c =
    let t = c.args.self.now.source.bytes.now in
    let edition = c.args.self.now.edition in
    let R = within edition t c.args.nesting in
    let name : Span = record { start = c.args.start; end = c.in_ok-end.end } in
    let found = c.in_ok-value in
    let size : length found.attributes.items ≡ vec_len found.attributes = omega (arith, found.attributes.ok.0) in
    let none = zero_count_is_empty found.attributes.items _ size c.if-is_empty.ensures in
    let text = sym (identifier_has_name_text t c.in_ok-end.ensures.parses) in
    let (f, parts_hold) = found.ensures in
    refused {f = fault.MessageField} {from = c.args.start} {place = found.place} (λ k from to (a, b, d).
    rw (a ∙ ap ExpectedMessageField text, b, d)
    (goes_on at_place
    (goes_on c.in_ok-end.ensures.parses
    (fields_go_on edition t R (message_with t c.args.start name) _ _ f _
    (parts_of_fields_read_as_fields edition t R _ _ _ found.value f parts_hold)
    (message_without_fields_is_refused t c.args.start _ name f.0 f.1
    (value_is_there_where_its_range_is edition t R _ _ _ found.value f parts_hold ∙ c.if-is_none.ensures)
    (no_attribute_ranges_mean_no_trees edition t R parts_hold.attributes none))))))

pub returns : goal.returns
returns g c =
    let t = c.args.self.now.source.bytes.now in
    let edition = c.args.self.now.edition in
    let R = within edition t c.args.nesting in
    let name : Span = record { start = c.args.start; end = c.in_ok-end.end } in
    let found = c.in_ok-value in
    let size : length found.attributes.items ≡ vec_len found.attributes = omega (arith, found.attributes.ok.0) in
    let (f, parts_hold) = found.ensures in (
      _,
      _,
      goes_on at_place
          (goes_on c.in_ok-end.ensures.parses
          (fields_go_on edition t R (message_with t c.args.start name) _ _ f _
          (parts_of_fields_read_as_fields edition t R _ _ _ found.value f parts_hold)
          (elim c.else-is_none.branch [
            | else-is_none-via-then-is_none+else-is_empty w ↦
                message_form_of_attributes t c.args.start found.place name f.0 f.1
                (λ none. nonzero_count_is_not_empty found.attributes.items _ size w.if-is_empty.ensures
                (no_attribute_trees_mean_no_ranges edition t R parts_hold.attributes none))
            | else-is_none-via-else-is_none w ↦
                message_form_of_value t c.args.start found.place name f.0 f.1
                (value_is_there_where_its_range_is edition t R _ _ _ found.value f parts_hold ∙ w.if-is_none.ensures)
          ]))),
      message_has_parts refl c.in_ok-end.ensures.parses parts_hold,
    )
