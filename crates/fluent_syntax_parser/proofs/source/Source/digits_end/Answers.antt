use Rattle.std.proofs.Common.{refl, sym}
use Rattle.fluent_syntax_grammar.specs.Construct.{failed, passed, chosen, first, second}
use Rattle.fluent_syntax_parser.proofs.source.Source.digits_end.Goals as goal

pub returns-then-is_digit_at-clause-parses : goal.returns-then-is_digit_at-clause-parses
returns-then-is_digit_at-clause-parses c =
    chosen (first (sym c.if-is_digit_at.ensures) (passed c.digit_run_end.ensures.digits))

pub returns-else-is_digit_at-clause-parses : goal.returns-else-is_digit_at-clause-parses
returns-else-is_digit_at-clause-parses c =
    λ k from to (a, b, d). rw (a, b, d) (chosen (second (sym c.if-is_digit_at.ensures) (failed refl)))
