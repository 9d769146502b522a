use Rattle.std.proofs.Common.{refl, sym}
use Rattle.fluent_syntax_grammar.specs.Construct.{goes_on, given, failed, passed, chosen, first, second, at_place}
use Rattle.fluent_syntax_parser.proofs.source.Source.identifier_end.Goals as goal

pub returns-then-not-is_letter_at-clause-parses : goal.returns-then-not-is_letter_at-clause-parses
returns-then-not-is_letter_at-clause-parses c =
    λ k from to (a, b, d). rw (a, b, d)
    (goes_on at_place
    (goes_on (chosen given)
    (second (sym c.if-not-is_letter_at.ensures)
    (failed refl))))

pub returns-clause-parses : goal.returns-clause-parses
returns-clause-parses c =
    goes_on at_place
    (goes_on (chosen given)
    (first (sym c.if-not-is_letter_at.ensures)
    (goes_on (passed c.name_end.ensures.name)
    (goes_on at_place given))))
