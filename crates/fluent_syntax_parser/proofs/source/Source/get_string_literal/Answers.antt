use Rattle.std.proofs.lemmas.Result.{err_from_is_err_and}
use Rattle.fluent_syntax_grammar.specs.Construct.{stops, goes_on, given, at_place}
use Rattle.fluent_syntax_parser.proofs.source.Source.get_string_literal.Goals as goal

pub returns-in_err-start-clause-parses : goal.returns-in_err-start-clause-parses
returns-in_err-start-clause-parses c =
    let p = err_from_is_err_and c.from_residual.result c.from_residual.ensures.1 in
    rw (p.1, p.2) (λ k from to h. stops (c.in_err-start.ensures.parses k from to h))

pub returns-in_err-end-clause-parses : goal.returns-in_err-end-clause-parses
returns-in_err-end-clause-parses c =
    let p = err_from_is_err_and c.from_residual-in_err-end.result c.from_residual-in_err-end.ensures.1 in
    rw (p.1, p.2) (λ k from to h.
    goes_on c.in_ok-start.ensures.parses (goes_on at_place (stops (c.in_err-end.ensures.parses k from to h))))

pub returns-in_err-ptr-clause-parses : goal.returns-in_err-ptr-clause-parses
returns-in_err-ptr-clause-parses c =
    let p = err_from_is_err_and c.from_residual-in_err-ptr.result c.from_residual-in_err-ptr.ensures.1 in
    rw (p.1, p.2) (λ k from to h.
    goes_on c.in_ok-start.ensures.parses
    (goes_on at_place
    (goes_on c.in_ok-end.ensures.parses
    (goes_on (goes_on at_place given)
    (stops
    (c.in_err-ptr.ensures.parses k from to h))))))

pub returns-clause-parses : goal.returns-clause-parses
returns-clause-parses c =
    goes_on c.in_ok-start.ensures.parses
    (goes_on at_place
    (goes_on c.in_ok-end.ensures.parses
    (goes_on (goes_on at_place given)
    (goes_on c.in_ok-ptr.ensures.parses given))))
