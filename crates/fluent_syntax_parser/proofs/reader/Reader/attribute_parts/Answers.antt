use Rattle.std.proofs.Common.{refl}
use Rattle.std.proofs.lemmas.Result.{err_from_is_err_and}
use Rattle.fluent_syntax_grammar.specs.Construct.{stops, goes_on, given, failed, passed}
use Rattle.fluent_syntax_tree.specs.Tree.{pattern_map}
use Rattle.fluent_syntax_grammar.specs.Bytes.{equals_sign, full_stop}
use Rattle.fluent_syntax_grammar.specs.Grammar.{within}
use Rattle.fluent_syntax_grammar.specs.Patterns.{pattern}
use Rattle.fluent_syntax_grammar.proofs.FunctionalWords.{identifier_is_functional, inline_blank_is_functional}
use Rattle.fluent_syntax_grammar.proofs.FunctionalWords.{token_is_functional}
use Rattle.fluent_syntax_parser.specs.Outcomes.{refused}
use Rattle.fluent_syntax_parser.proofs.readers.Made.{no_value_read, made_was_read, made_value_was_read}
use Rattle.fluent_syntax_parser.proofs.readers.Fails.{bind_fails_where_first_fails, bind_fails_second}
use Rattle.fluent_syntax_parser.proofs.reader.Reader.attribute_parts.Goals as goal

pub returns-in_err-letter-clause-finds : goal.returns-in_err-letter-clause-finds
returns-in_err-letter-clause-finds g c =
    let p = err_from_is_err_and c.from_residual.result c.from_residual.ensures.1 in
    rw (p.1, p.2) (refused (λ k from to h.
    goes_on (passed c.skip_blank_inline-dot.ensures.blank)
    (stops (c.in_err-letter.ensures.parses k from to h))))

pub returns-in_err-name_end-clause-finds : goal.returns-in_err-name_end-clause-finds
returns-in_err-name_end-clause-finds g c =
    let p = err_from_is_err_and c.from_residual-in_err-name_end.result c.from_residual-in_err-name_end.ensures.1 in
    rw (p.1, p.2) (refused (λ k from to h.
    goes_on (passed c.skip_blank_inline-dot.ensures.blank)
    (goes_on c.in_ok-letter.ensures.parses
    (stops (c.in_err-name_end.ensures.parses k from to h)))))

pub returns-in_err-start-clause-finds : goal.returns-in_err-start-clause-finds
returns-in_err-start-clause-finds g c =
    let p = err_from_is_err_and c.from_residual-in_err-start.result c.from_residual-in_err-start.ensures.1 in
    rw (p.1, p.2) (refused (λ k from to h.
    goes_on (passed c.skip_blank_inline-dot.ensures.blank)
    (goes_on c.in_ok-letter.ensures.parses
    (goes_on c.in_ok-name_end.ensures.parses
    (goes_on (passed c.skip_blank_inline-equals.ensures.blank)
    (stops (c.in_err-start.ensures.parses k from to h)))))))

pub returns-in_err-value-clause-finds : goal.returns-in_err-value-clause-finds
returns-in_err-value-clause-finds g c =
    let t = c.args.self.now.source.bytes.now in
    let p = err_from_is_err_and c.from_residual-in_err-value.result c.from_residual-in_err-value.ensures.1 in
    rw (p.1, p.2)
    (bind_fails_second (inline_blank_is_functional t) (passed c.skip_blank_inline-dot.ensures.blank)
    (bind_fails_second (token_is_functional t full_stop) c.in_ok-letter.ensures.parses
    (bind_fails_second (identifier_is_functional t) c.in_ok-name_end.ensures.parses
    (bind_fails_second (inline_blank_is_functional t) (passed c.skip_blank_inline-equals.ensures.blank)
    (bind_fails_second (token_is_functional t equals_sign) c.in_ok-start.ensures.parses
    (bind_fails_where_first_fails c.in_err-value.ensures.parses))))))

pub returns-in-Some-clause-finds : goal.returns-in-Some-clause-finds
returns-in-Some-clause-finds g c =
    let t = c.args.self.now.source.bytes.now in
    let edition = c.args.self.now.edition in
    let n = c.args.nesting in
    let found = rw c.in-Some.is at c.in_ok-value.ensures.parses in
    made_was_read found (λ o read same.
    made_value_was_read (pattern_map (g.M.MakeTexts.source c.args.self.now.texts.now))
    (pattern edition t (within edition t n)) o
    read same (λ value there same_value. (
      _,
      record {
        whole =
            goes_on (passed c.skip_blank_inline-dot.ensures.blank)
            (goes_on c.in_ok-letter.ensures.parses
            (goes_on c.in_ok-name_end.ensures.parses
            (goes_on (passed c.skip_blank_inline-equals.ensures.blank)
            (goes_on c.in_ok-start.ensures.parses
            (goes_on there
            given)))));
        dot = _;
        before = c.skip_blank_inline-dot.ensures.blank;
        point = c.in_ok-letter.ensures.parses;
        name = c.in_ok-name_end.ensures.parses;
        named = refl;
        equals = _;
        beyond = c.skip_blank_inline-equals.ensures.blank;
        sign = c.in_ok-start.ensures.parses;
        value = there;
        ends = refl;
      },
      refl,
      same_value,
    )))

pub returns-in-None-clause-finds : goal.returns-in-None-clause-finds
returns-in-None-clause-finds g c =
    let t = c.args.self.now.source.bytes.now in
    let edition = c.args.self.now.edition in
    let n = c.args.nesting in
    let found = rw c.in-None.is at c.in_ok-value.ensures.parses in
    made_was_read found (λ o read same. refused (λ k from to (a, b, d). rw (a, b, d)
    (goes_on (passed c.skip_blank_inline-dot.ensures.blank)
    (goes_on c.in_ok-letter.ensures.parses
    (goes_on c.in_ok-name_end.ensures.parses
    (goes_on (passed c.skip_blank_inline-equals.ensures.blank)
    (goes_on c.in_ok-start.ensures.parses
    (goes_on (no_value_read (pattern_map (g.M.MakeTexts.source c.args.self.now.texts.now))
    (pattern edition t (within edition t n)) o read same)
    (failed refl)))))))))
