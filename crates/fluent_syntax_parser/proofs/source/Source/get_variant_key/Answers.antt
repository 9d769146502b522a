use Rattle.std.proofs.Common.{sym}
use Rattle.std.proofs.lemmas.Result.{err_from_is_err_and}
use Rattle.fluent_syntax_grammar.specs.Construct.{stops, goes_on, given, chosen, first, second}
use Rattle.fluent_syntax_parser.proofs.source.Source.get_variant_key.Goals as goal

pub returns-in_err-end-clause-parses : goal.returns-in_err-end-clause-parses
returns-in_err-end-clause-parses c =
    let p = err_from_is_err_and c.from_residual.result c.from_residual.ensures.1 in
    rw (p.1, p.2) (λ k from to h.
    chosen (first (sym c.if-is_number_start.ensures)
    (stops (c.in_err-end.ensures.parses k from to h))))

pub returns-in_err-end-2-clause-parses : goal.returns-in_err-end-2-clause-parses
returns-in_err-end-2-clause-parses c =
    let p = err_from_is_err_and c.from_residual-in_err-end-2.result c.from_residual-in_err-end-2.ensures.1 in
    rw (p.1, p.2) (λ k from to h.
    chosen (second (sym c.if-is_number_start.ensures)
    (stops (c.in_err-end-2.ensures.parses k from to h))))

pub returns-in_ok-end-clause-parses : goal.returns-in_ok-end-clause-parses
returns-in_ok-end-clause-parses c =
    chosen (first (sym c.if-is_number_start.ensures) (goes_on c.in_ok-end.ensures.parses given))

pub returns-in_ok-end-2-clause-parses : goal.returns-in_ok-end-2-clause-parses
returns-in_ok-end-2-clause-parses c =
    chosen (second (sym c.if-is_number_start.ensures) (goes_on c.in_ok-end-2.ensures.parses given))
