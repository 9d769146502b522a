use Rattle.std.proofs.Common.{refl}
use Rattle.fluent_syntax_grammar.specs.Construct.{Refused, failed, passed, chosen}
use Rattle.fluent_syntax_parser.proofs.source.Source.arrow_line_end.Goals as goal

pub returns-in-Some-clause-parses : goal.returns-in-Some-clause-parses
returns-in-Some-clause-parses c = chosen (rw (← c.in-Some.ensures.eol) (passed (record { there = refl })))

pub returns-in-None-clause-parses : goal.returns-in-None-clause-parses
returns-in-None-clause-parses c =
    λ k from to (a, b, d). chosen {o = Refused k from to} (rw (a, b, d, ← c.in-None.ensures.eol) (failed refl))
