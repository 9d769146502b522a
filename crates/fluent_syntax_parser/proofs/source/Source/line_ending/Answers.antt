use Rattle.std.proofs.Common.{sym}
use Rattle.fluent_syntax_parser.specs.OneLine.{with_lf, with_crlf, with_text}
use Rattle.fluent_syntax_parser.proofs.source.Source.line_ending.Goals as goal

pub returns-then-next-to-clause-ending : goal.returns-then-next-to-clause-ending
returns-then-next-to-clause-ending c = with_lf (sym c.in-Some.ensures.eol) c.if-next-to.true

pub returns-else-next-to-clause-ending : goal.returns-else-next-to-clause-ending
returns-else-next-to-clause-ending c = with_crlf (sym c.in-Some.ensures.eol) c.if-next-to.false

pub returns-then-to-self-clause-ending : goal.returns-then-to-self-clause-ending
returns-then-to-self-clause-ending c = with_text (sym c.in-None.ensures.eol) c.if-to-self.true
