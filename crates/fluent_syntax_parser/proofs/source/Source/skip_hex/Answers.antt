use Rattle.std.proofs.Common.{refl, arith}
use Rattle.fluent_syntax_grammar.specs.Strings.{all_there, too_few}
use Rattle.fluent_syntax_parser.proofs.source.Source.skip_hex.Goals as goal

pub returns-then-end-ptr-clause-parses : goal.returns-then-end-ptr-clause-parses
returns-then-end-ptr-clause-parses c =
    λ k from to (a, b, d). rw (a, b, d)
    (too_few c.hex_end-end.ensures.digits (omega (arith, c.hex_end-end.ensures.digits.forward)) refl)

pub returns-else-end-ptr-clause-parses : goal.returns-else-end-ptr-clause-parses
returns-else-end-ptr-clause-parses c =
    all_there c.hex_end-end.ensures.digits
    (omega
    (arith, c.hex_end-end.ensures.digits.forward, c.hex_end-end.ensures.digits.most))
