use Rattle.std.proofs.Common.{refl}
use Rattle.std.proofs.lemmas.Result.{err_from_is_err_and}
use Rattle.fluent_syntax_grammar.specs.Construct.{stops, goes_on, given, passed}
use Rattle.fluent_syntax_grammar.specs.Bytes.{equals_sign}
use Rattle.fluent_syntax_grammar.proofs.FunctionalRules.{pattern_over_is_functional}
use Rattle.fluent_syntax_grammar.proofs.FunctionalWords.{blank_block_is_functional, inline_blank_is_functional}
use Rattle.fluent_syntax_grammar.proofs.FunctionalWords.{token_is_functional}
use Rattle.fluent_syntax_grammar.proofs.Nesting.{within_is_functional}
use Rattle.fluent_syntax_parser.specs.Outcomes.{refused}
use Rattle.fluent_syntax_parser.specs.Made.{made}
use Rattle.fluent_syntax_parser.proofs.readers.Made.{made_was_read}
use Rattle.fluent_syntax_parser.proofs.readers.Fails.{bind_fails_where_first_fails, bind_fails_second}
use Rattle.fluent_syntax_parser.proofs.reader.Reader.get_fields.Goals as goal

pub returns-in_err-start-clause-parses : goal.returns-in_err-start-clause-parses
returns-in_err-start-clause-parses g c =
    let p = err_from_is_err_and c.from_residual.result c.from_residual.ensures.1 in
    rw (p.1, p.2) (refused (λ k from to h.
    goes_on (passed c.skip_blank_inline-equals.ensures.blank)
    (stops (c.in_err-start.ensures.parses k from to h))))

pub returns-in_err-value-clause-parses : goal.returns-in_err-value-clause-parses
returns-in_err-value-clause-parses g c =
    let t = c.args.self.now.source.bytes.now in
    let p = err_from_is_err_and c.from_residual-in_err-value.result c.from_residual-in_err-value.ensures.1 in
    rw (p.1, p.2)
    (bind_fails_second (inline_blank_is_functional t) (passed c.skip_blank_inline-equals.ensures.blank)
    (bind_fails_second (token_is_functional t equals_sign) c.in_ok-start.ensures.parses
    (bind_fails_where_first_fails c.in_err-value.ensures.parses)))

pub returns-in_err-attributes-clause-parses : goal.returns-in_err-attributes-clause-parses
returns-in_err-attributes-clause-parses g c =
    let t = c.args.self.now.source.bytes.now in
    let edition = c.args.self.now.edition in
    let p = err_from_is_err_and c.from_residual-in_err-attributes.result c.from_residual-in_err-attributes.ensures.1 in
    rw (p.1, p.2)
    (made_was_read c.in_ok-value.ensures.parses (λ value read same.
    bind_fails_second (inline_blank_is_functional t) (passed c.skip_blank_inline-equals.ensures.blank)
    (bind_fails_second (token_is_functional t equals_sign) c.in_ok-start.ensures.parses
    (bind_fails_second (pattern_over_is_functional edition t _ (within_is_functional edition t _)) read
    (bind_fails_second (blank_block_is_functional t) (passed c.in_ok-value.ensures.beyond)
    (bind_fails_where_first_fails c.in_err-attributes.ensures.parses))))))

pub returns-clause-parses : goal.returns-clause-parses
returns-clause-parses g c =
    made_was_read c.in_ok-value.ensures.parses (λ value read same.
    made_was_read c.in_ok-attributes.ensures.parses (λ rest read_rest same_rest. made
    (goes_on (passed c.skip_blank_inline-equals.ensures.blank)
    (goes_on c.in_ok-start.ensures.parses
    (goes_on read
    (goes_on (passed c.in_ok-value.ensures.beyond)
    (goes_on read_rest
    given)))))
    (rw (same, same_rest) refl)))
