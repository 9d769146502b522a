use Rattle.std.proofs.Common.{refl}
use Rattle.fluent_syntax_parser.proofs.reader.Reader.end_line.Goals as goal

pub returns-clause-adds : goal.returns-clause-adds
returns-clause-adds g c = (_, _, c.in_ok-add.ensures.added, refl, c.get_ending-ending.ensures.parses)
