use Rattle.std.proofs.lemmas.Result.{err_from_is_err_and}
use Rattle.fluent_syntax_grammar.specs.Construct.{stops, goes_on, given, at_place, first, second}
use Rattle.fluent_syntax_parser.proofs.source.Source.number_end.Goals as goal

pub returns-in_err-ptr-clause-parses : goal.returns-in_err-ptr-clause-parses
returns-in_err-ptr-clause-parses c =
    let p = err_from_is_err_and c.from_residual.result c.from_residual.ensures.1 in
    rw (p.1, p.2) (λ k from to h.
    goes_on at_place
    (goes_on c.take_byte_if-ptr.ensures.parses
    (stops (c.in_err-ptr.ensures.parses k from to h))))

pub returns-in_err-end-clause-parses : goal.returns-in_err-end-clause-parses
returns-in_err-end-clause-parses c =
    let p = err_from_is_err_and c.from_residual-in_err-end.result c.from_residual-in_err-end.ensures.1 in
    rw (p.1, p.2) (λ k from to h.
    goes_on at_place
    (goes_on c.take_byte_if-ptr.ensures.parses
    (goes_on c.in_ok-ptr.ensures.parses
    (goes_on c.take_byte_if-point.ensures.parses
    (stops (first c.if-point.true (c.in_err-end.ensures.parses k from to h)))))))

pub returns-then-point-clause-parses : goal.returns-then-point-clause-parses
returns-then-point-clause-parses c =
    goes_on at_place
    (goes_on c.take_byte_if-ptr.ensures.parses
    (goes_on c.in_ok-ptr.ensures.parses
    (goes_on c.take_byte_if-point.ensures.parses
    (goes_on (first c.if-point.true c.in_ok-end.ensures.parses)
    (goes_on at_place given)))))

pub returns-clause-parses : goal.returns-clause-parses
returns-clause-parses c =
    goes_on at_place
    (goes_on c.take_byte_if-ptr.ensures.parses
    (goes_on c.in_ok-ptr.ensures.parses
    (goes_on c.take_byte_if-point.ensures.parses
    (goes_on (second c.if-point.false given)
    (goes_on at_place given)))))
