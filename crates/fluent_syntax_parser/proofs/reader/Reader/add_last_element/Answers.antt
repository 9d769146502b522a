use Rattle.std.proofs.Common.{sym}
use Rattle.fluent_syntax_parser.proofs.reader.Reader.add_last_element.Goals as goal

pub returns-in-Run : goal.returns-in-Run
returns-in-Run g c = rw (c.in-Run.is, sym c.trimmed_end-end.ensures) c.add_text.ensures
