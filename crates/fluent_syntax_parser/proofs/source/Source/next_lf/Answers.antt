use Rattle.fluent_syntax_grammar.specs.Bytes.{lf}
use Rattle.memchr.specs.Find.{is_byte}
use Rattle.fluent_syntax_parser.proofs.scanning.Scans.{scan_is_byte_run}
use Rattle.fluent_syntax_parser.proofs.source.Source.next_lf.Goals as goal

pub returns-clause-line : goal.returns-clause-line
returns-clause-line c =
    rw c.unwrap_or.ensures
    (scan_is_byte_run c.args.self.now.bytes.now (is_byte lf) c.args.ptr c.requires c.memchr.result c.memchr.ensures)
