use Rattle.std.proofs.Common.{None, Some, ap, refl, sym, ◌∙◌}
use Rattle.std.proofs.lemmas.Result.{err_from_is_err_and}
use Rattle.fluent_syntax_tree.specs.Kind.{ExpectedTermField}
use Rattle.fluent_syntax_tree.specs.declared.spans.Span.{Span}
use Rattle.fluent_syntax_grammar.specs.Construct.{stops, goes_on, at_place, given, failed_from}
use Rattle.fluent_syntax_tree.specs.Tree.{pattern_map}
use Rattle.fluent_syntax_grammar.specs.Entries.{term_with}
use Rattle.fluent_syntax_grammar.specs.Grammar.{within}
use Rattle.fluent_syntax_parser.specs.Fields.{fields}
use Rattle.fluent_syntax_parser.proofs.entry_forms.FieldForms.{entry_after_name_fails_where_fields_fail, fields_go_on}
use Rattle.fluent_syntax_parser.proofs.entry_forms.FieldForms.{no_value_is_read_as_none}
use Rattle.fluent_syntax_parser.proofs.entry_forms.FieldForms.{some_value_is_read_as_some}
use Rattle.fluent_syntax_grammar.specs.Bytes.{hyphen}
use Rattle.fluent_syntax_grammar.proofs.FunctionalWords.{identifier_is_functional, token_is_functional}
use Rattle.fluent_syntax_parser.specs.Outcomes.{no_memory, refused}
use Rattle.fluent_syntax_parser.specs.declared.fault.Fault.TheVariants as fault
use Rattle.fluent_syntax_parser.specs.Made.{made}
use Rattle.fluent_syntax_parser.proofs.readers.Made.{made_was_read}
use Rattle.fluent_syntax_grammar.proofs.Functional.{here_is_functional}
use Rattle.fluent_syntax_parser.proofs.readers.Fails.{bind_fails_second, memory_is_err}
use Rattle.fluent_syntax_parser.proofs.scanning.NameTexts.{identifier_has_name_text, token_is_one_byte}
use Rattle.fluent_syntax_parser.proofs.reader.Reader.add_term.Goals as goal

pub returns-in_err-letter-clause-adds : goal.returns-in_err-letter-clause-adds
returns-in_err-letter-clause-adds g c =
    let p = err_from_is_err_and c.from_residual.result c.from_residual.ensures.1 in
    rw (p.1, p.2) (refused (λ k from to h. goes_on at_place (stops (c.in_err-letter.ensures.parses k from to h))), refl)

pub returns-in_err-end-clause-adds : goal.returns-in_err-end-clause-adds
returns-in_err-end-clause-adds g c =
    let p = err_from_is_err_and c.from_residual-in_err-end.result c.from_residual-in_err-end.ensures.1 in
    rw (p.1, p.2) (
      refused (λ k from to h.
          goes_on at_place
          (goes_on c.in_ok-letter.ensures.parses
          (stops (c.in_err-end.ensures.parses k from to h)))),
      refl,
    )

pub returns-in_err-fields-clause-adds : goal.returns-in_err-fields-clause-adds
returns-in_err-fields-clause-adds g c =
    let t = c.args.self.now.source.bytes.now in
    let name : Span = record { start = c.in_ok-letter.letter; end = c.in_ok-end.end } in
    let p = err_from_is_err_and c.from_residual-in_err-fields.result c.from_residual-in_err-fields.ensures.1 in
    rw (p.1, p.2) (
      bind_fails_second here_is_functional at_place
          (bind_fails_second (token_is_functional t hyphen) c.in_ok-letter.ensures.parses
          (bind_fails_second (identifier_is_functional t) c.in_ok-end.ensures.parses
          (entry_after_name_fails_where_fields_fail c.args.self.now.edition t _ (term_with t c.args.start name)
          c.in_err-fields.ensures.parses))),
      refl,
    )

pub returns-in_err-id-in-Some-clause-adds : goal.returns-in_err-id-in-Some-clause-adds
returns-in_err-id-in-Some-clause-adds g c =
    rw (memory_is_err c.from_residual-in_err-id-in-Some.result c.from_residual-in_err-id-in-Some.ensures.1)
    (no_memory, refl)

pub returns-in_err-add-in-Some-clause-adds : goal.returns-in_err-add-in-Some-clause-adds
returns-in_err-add-in-Some-clause-adds g c =
    rw (memory_is_err c.from_residual-in_err-add-in-Some.result c.from_residual-in_err-add-in-Some.ensures.1)
    (no_memory, c.in_err-add-in-Some.ensures.stays)

pub returns-in_ok-add-in-Some-clause-adds : goal.returns-in_ok-add-in-Some-clause-adds
returns-in_ok-add-in-Some-clause-adds g c =
    let t = c.args.self.now.source.bytes.now in
    let name : Span = record { start = c.in_ok-letter.letter; end = c.in_ok-end.end } in
    let edition = c.args.self.now.edition in
    let found = rw c.in-Some.is at c.in_ok-fields.ensures.parses in
    made_was_read found (λ x read same.
    some_value_is_read_as_some (pattern_map (g.M.MakeTexts.source c.args.self.now.texts.now))
    (fields edition t (within edition t c.args.nesting)) x read (ap (λ y. y.0) same) (λ value there same_value. (
      _,
      c.in_ok-add-in-Some.ensures.added,
      made
          (goes_on at_place
          (goes_on c.in_ok-letter.ensures.parses
          (goes_on c.in_ok-end.ensures.parses
          (fields_go_on edition t _ (term_with t c.args.start name) _ _ (Some value, x.1) _ there given))))
          (rw (c.in_ok-id-in-Some.ensures, same_value, ap (λ y. y.1) same) refl),
    )))

pub returns-in-None-clause-adds : goal.returns-in-None-clause-adds
returns-in-None-clause-adds g c =
    let t = c.args.self.now.source.bytes.now in
    let name : Span = record { start = c.in_ok-letter.letter; end = c.in_ok-end.end } in
    let edition = c.args.self.now.edition in
    let found = rw c.in-None.is at c.in_ok-fields.ensures.parses in
    let text = sym (identifier_has_name_text t c.in_ok-end.ensures.parses) in
    let before = token_is_one_byte t c.in_ok-letter.ensures.parses in
    let letter = c.in_ok-letter.letter in
    made_was_read found (λ x read same. (
      refused {f = fault.TermField} {from = letter} {place = c.in_ok-fields.place} (λ k from to (a, b, d).
          rw (a ∙ ap ExpectedTermField text, b ∙ before, d)
          (goes_on at_place
          (goes_on c.in_ok-letter.ensures.parses
          (goes_on c.in_ok-end.ensures.parses
          (fields_go_on c.args.self.now.edition t _ (term_with t c.args.start name) _ _ (None, x.1) _
          (no_value_is_read_as_none (pattern_map (g.M.MakeTexts.source c.args.self.now.texts.now))
          (fields edition t (within edition t c.args.nesting)) x read (ap (λ y. y.0) same)) failed_from))))),
      refl,
    ))
