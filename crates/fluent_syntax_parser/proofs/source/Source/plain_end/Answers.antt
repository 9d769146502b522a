use Rattle.fluent_syntax_grammar.specs.Bytes.{backslash, double_quote, lf}
use Rattle.memchr.specs.Find.{is_byte3}
use Rattle.fluent_syntax_parser.proofs.scanning.Scans.{scan_is_byte_run}
use Rattle.fluent_syntax_parser.proofs.source.Source.plain_end.Goals as goal

pub returns-clause-text : goal.returns-clause-text
returns-clause-text c =
    rw c.unwrap_or.ensures
    (scan_is_byte_run c.args.self.now.bytes.now
    (is_byte3 double_quote backslash lf) c.args.ptr c.requires c.memchr3.result
    c.memchr3.ensures)
