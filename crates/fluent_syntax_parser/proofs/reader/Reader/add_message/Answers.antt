use Rattle.std.proofs.Common.{◌≡◌, ◌∙◌, ap, length, arith, refl, sym}
use Rattle.std.specs.Vec.{vec_len}
use Rattle.std.proofs.lemmas.Result.{err_from_is_err_and}
use Rattle.fluent_syntax_tree.specs.Kind.{ExpectedMessageField}
use Rattle.fluent_syntax_tree.specs.declared.spans.Span.{Span}
use Rattle.fluent_syntax_grammar.specs.Construct.{stops, goes_on, at_place}
use Rattle.fluent_syntax_grammar.specs.Entries.{message_with}
use Rattle.fluent_syntax_parser.proofs.entry_forms.FieldForms.{entry_after_name_fails_where_fields_fail, fields_go_on}
use Rattle.fluent_syntax_parser.proofs.entry_forms.FieldForms.{equals_are_both_some}
use Rattle.fluent_syntax_parser.proofs.entry_forms.FieldForms.{message_form_of_attributes, message_form_of_value}
use Rattle.fluent_syntax_parser.proofs.entry_forms.FieldForms.{message_without_fields_is_refused, zero_count_is_empty}
use Rattle.fluent_syntax_parser.proofs.entry_forms.FieldForms.{list_with_image_of_empty_is_empty}
use Rattle.fluent_syntax_parser.proofs.entry_forms.FieldForms.{nonzero_count_is_not_empty}
use Rattle.fluent_syntax_parser.proofs.reader.Reader.add_message.Goals.{else-is_none-via-then-is_none+else-is_empty}
use Rattle.fluent_syntax_parser.proofs.reader.Reader.add_message.Goals.{else-is_none-via-else-is_none}
use Rattle.fluent_syntax_grammar.proofs.FunctionalWords.{identifier_is_functional}
use Rattle.fluent_syntax_parser.specs.Outcomes.{no_memory, refused}
use Rattle.fluent_syntax_parser.specs.declared.fault.Fault.TheVariants as fault
use Rattle.fluent_syntax_parser.specs.Made.{made}
use Rattle.fluent_syntax_parser.proofs.readers.Made.{made_was_read}
use Rattle.fluent_syntax_grammar.proofs.Functional.{here_is_functional}
use Rattle.fluent_syntax_parser.proofs.readers.Fails.{bind_fails_second, memory_is_err}
use Rattle.fluent_syntax_parser.proofs.scanning.NameTexts.{identifier_has_name_text}
use Rattle.fluent_syntax_parser.proofs.reader.Reader.add_message.Goals as goal

pub returns-in_err-end-clause-adds : goal.returns-in_err-end-clause-adds
returns-in_err-end-clause-adds g c =
    let p = err_from_is_err_and c.from_residual.result c.from_residual.ensures.1 in
    rw (p.1, p.2) (refused (λ k from to h. goes_on at_place (stops (c.in_err-end.ensures.parses k from to h))), refl)

pub returns-in_err-fields-clause-adds : goal.returns-in_err-fields-clause-adds
returns-in_err-fields-clause-adds g c =
    let t = c.args.self.now.source.bytes.now in
    let name : Span = record { start = c.args.start; end = c.in_ok-end.end } in
    let p = err_from_is_err_and c.from_residual-in_err-fields.result c.from_residual-in_err-fields.ensures.1 in
    rw (p.1, p.2) (
      bind_fails_second here_is_functional at_place
          (bind_fails_second (identifier_is_functional t) c.in_ok-end.ensures.parses
          (entry_after_name_fails_where_fields_fail c.args.self.now.edition t _ (message_with t c.args.start name)
          c.in_err-fields.ensures.parses)),
      refl,
    )

pub returns-then-is_empty-clause-adds : goal.returns-then-is_empty-clause-adds
returns-then-is_empty-clause-adds g c =
    let t = c.args.self.now.source.bytes.now in
    let name : Span = record { start = c.args.start; end = c.in_ok-end.end } in
    let found = c.in_ok-fields.fields in
    let size : length found.attributes.items ≡ vec_len found.attributes = omega (arith, found.attributes.ok.0) in
    let none = zero_count_is_empty found.attributes.items _ size c.if-is_empty.ensures in
    let text = sym (identifier_has_name_text t c.in_ok-end.ensures.parses) in
    made_was_read c.in_ok-fields.ensures.parses (λ x read same. (
      refused {f = fault.MessageField} {from = c.args.start} {place = c.in_ok-fields.place} (λ k from to (a, b, d).
          rw (a ∙ ap ExpectedMessageField text, b, d)
          (goes_on at_place
          (goes_on c.in_ok-end.ensures.parses
          (fields_go_on c.args.self.now.edition t _ (message_with t c.args.start name) _ _ x _ read
          (message_without_fields_is_refused t c.args.start _ name x.0 x.1
          (equals_are_both_some _ _ found.value x.0 (ap (λ y. y.0) same) ∙ c.if-is_none.ensures)
          (list_with_image_of_empty_is_empty _ _ found.attributes.items x.1 (ap (λ y. y.1) same) none)))))),
      refl,
    ))

pub returns-in_err-id-clause-adds : goal.returns-in_err-id-clause-adds
returns-in_err-id-clause-adds g c =
    rw (memory_is_err c.from_residual-in_err-id.result c.from_residual-in_err-id.ensures.1) (no_memory, refl)

pub returns-in_err-add-clause-adds : goal.returns-in_err-add-clause-adds
returns-in_err-add-clause-adds g c =
    rw (memory_is_err c.from_residual-in_err-add.result c.from_residual-in_err-add.ensures.1)
    (no_memory, c.in_err-add.ensures.stays)

pub returns-clause-adds : goal.returns-clause-adds
returns-clause-adds g c =
    let t = c.args.self.now.source.bytes.now in
    let name : Span = record { start = c.args.start; end = c.in_ok-end.end } in
    let place = c.in_ok-fields.place in
    let found = c.in_ok-fields.fields in
    let rest = found.attributes.items in
    let size : length rest ≡ vec_len found.attributes = omega (arith, found.attributes.ok.0) in
    made_was_read c.in_ok-fields.ensures.parses (λ x read same. (
      _,
      c.in_ok-add.ensures.added,
      made
          (goes_on at_place
          (goes_on c.in_ok-end.ensures.parses
          (fields_go_on c.args.self.now.edition t _ (message_with t c.args.start name) _ _ x _ read
          (elim c.else-is_none.branch [
            | else-is_none-via-then-is_none+else-is_empty w ↦
                message_form_of_attributes t c.args.start place name x.0 x.1
                (λ none. nonzero_count_is_not_empty rest _ size w.if-is_empty.ensures
                (list_with_image_of_empty_is_empty _ _ x.1 rest (sym (ap (λ y. y.1) same)) none))
            | else-is_none-via-else-is_none w ↦
                message_form_of_value t c.args.start place name x.0 x.1
                (equals_are_both_some _ _ found.value x.0 (ap (λ y. y.0) same) ∙ w.if-is_none.ensures)
          ]))))
          (rw (c.in_ok-id.ensures, ap (λ y. y.0) same, ap (λ y. y.1) same) refl),
    ))
