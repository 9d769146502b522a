use Rattle.std.proofs.Common.{◌∙◌}
use Rattle.std.proofs.lemmas.Result.{err_from_is_err_and}
use Rattle.fluent_syntax_tree.specs.Tree.{pattern_map}
use Rattle.fluent_syntax_tree.specs.View.{pattern_view}
use Rattle.fluent_syntax_tree.specs.declared.spans.Span.{Span}
use Rattle.fluent_syntax_grammar.specs.Bytes.{equals_sign}
use Rattle.fluent_syntax_grammar.specs.Construct.{stops, goes_on, passed}
use Rattle.fluent_syntax_grammar.proofs.FunctionalRules.{pattern_over_is_functional}
use Rattle.fluent_syntax_grammar.proofs.FunctionalWords.{blank_block_is_functional, inline_blank_is_functional}
use Rattle.fluent_syntax_grammar.proofs.FunctionalWords.{token_is_functional}
use Rattle.fluent_syntax_grammar.proofs.Nesting.{within_is_functional}
use Rattle.fluent_syntax_parser.specs.Outcomes.{refused}
use Rattle.fluent_syntax_parser.proofs.entry_forms.ExtentForms.{equal_options_same_place}
use Rattle.fluent_syntax_parser.proofs.readers.Made.{made_was_read}
use Rattle.fluent_syntax_parser.proofs.readers.Fails.{bind_fails_where_first_fails, bind_fails_second}
use Rattle.fluent_syntax_parser.proofs.reader.Reader.field_parts.Goals as goal

pub returns-in_err-start : goal.returns-in_err-start
returns-in_err-start g c =
    let p = err_from_is_err_and c.from_residual.result c.from_residual.ensures.1 in
    rw (p.1, p.2) (refused (λ k from to h.
    goes_on (passed c.skip_blank_inline-equals.ensures.blank)
    (stops (c.in_err-start.ensures.parses k from to h))))

pub returns-in_err-value : goal.returns-in_err-value
returns-in_err-value g c =
    let t = c.args.self.now.source.bytes.now in
    let p = err_from_is_err_and c.from_residual-in_err-value.result c.from_residual-in_err-value.ensures.1 in
    rw (p.1, p.2)
    (bind_fails_second (inline_blank_is_functional t) (passed c.skip_blank_inline-equals.ensures.blank)
    (bind_fails_second (token_is_functional t equals_sign) c.in_ok-start.ensures.parses
    (bind_fails_where_first_fails c.in_err-value.ensures.parses)))

pub returns-in_err-attributes : goal.returns-in_err-attributes
returns-in_err-attributes g c =
    let t = c.args.self.now.source.bytes.now in
    let edition = c.args.self.now.edition in
    let p = err_from_is_err_and c.from_residual-in_err-attributes.result c.from_residual-in_err-attributes.ensures.1 in
    rw (p.1, p.2)
    (made_was_read c.in_ok-value.ensures.parses (λ value read same.
    bind_fails_second (inline_blank_is_functional t) (passed c.skip_blank_inline-equals.ensures.blank)
    (bind_fails_second (token_is_functional t equals_sign) c.in_ok-start.ensures.parses
    (bind_fails_second (pattern_over_is_functional edition t _ (within_is_functional edition t _)) read
    (bind_fails_second (blank_block_is_functional t) (passed c.in_ok-value.ensures.beyond)
    (bind_fails_where_first_fails c.in_err-attributes.ensures.finds))))))

pub returns : goal.returns
returns g c =
    let t = c.args.self.now.source.bytes.now in
    let f = g.M.MakeTexts.source c.args.self.now.texts.now in
    let view = pattern_view g.M.MakeTexts.made in
    let place : Span = record { start = c.in_ok-start.start; end = c.in_ok-value.end } in
    made_was_read c.in_ok-value.ensures.parses (λ value read same.
    let (rest, attributes) = c.in_ok-attributes.ensures.finds in (
      (value, rest),
      record {
        equals = _;
        beyond = c.skip_blank_inline-equals.ensures.blank;
        place = place;
        sign = c.in_ok-start.ensures.parses;
        value = read;
        there = c.place_if.ensures ∙ equal_options_same_place view (pattern_map f) place c.in_ok-value.value value same;
        line = _;
        blank = c.in_ok-value.ensures.beyond;
        attributes = attributes;
      },
    ))
