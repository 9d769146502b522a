use Rattle.std.proofs.lemmas.Result.{err_from_is_err_and}
use Rattle.fluent_syntax_grammar.specs.Construct.{stops, goes_on, given, first, second}
use Rattle.fluent_syntax_parser.proofs.source.Source.get_attribute_accessor.Goals as goal

pub returns-in_err-end-clause-parses : goal.returns-in_err-end-clause-parses
returns-in_err-end-clause-parses c =
    let p = err_from_is_err_and c.from_residual.result c.from_residual.ensures.1 in
    rw (p.1, p.2) (λ k from to h.
    goes_on c.take_byte_if-dot.ensures.parses
    (first c.if-dot.true
    (stops (c.in_err-end.ensures.parses k from to h))))

pub returns-in_ok-end-clause-parses : goal.returns-in_ok-end-clause-parses
returns-in_ok-end-clause-parses c =
    goes_on c.take_byte_if-dot.ensures.parses
    (first c.if-dot.true
    (goes_on c.in_ok-end.ensures.parses given))

pub returns-else-dot-clause-parses : goal.returns-else-dot-clause-parses
returns-else-dot-clause-parses c = goes_on c.take_byte_if-dot.ensures.parses (second c.if-dot.false given)
