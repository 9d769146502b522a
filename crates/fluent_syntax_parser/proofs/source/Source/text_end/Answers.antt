use Rattle.memchr.specs.Find.{is_byte3}
use Rattle.fluent_syntax_grammar.specs.Bytes.{lf, left_brace, right_brace}
use Rattle.fluent_syntax_grammar.specs.Lanes.{is_passed}
use Rattle.fluent_syntax_parser.proofs.scanning.Scans.{passing_prefix_extends_run, scan_is_byte_run}
use Rattle.fluent_syntax_parser.proofs.source.Source.text_end.Goals as goal

pub returns-clause-text : goal.returns-clause-text
returns-clause-text c =
    let t = c.args.self.now.bytes.now in
    let inv = c.loop-looks.invariant in
    passing_prefix_extends_run t is_passed c.args.ptr c.loop-looks.end _ inv.forward inv.each
    (rw c.unwrap_or.ensures
    (scan_is_byte_run t
    (is_byte3 lf left_brace right_brace) c.loop-looks.end inv.within c.memchr3.result c.memchr3.ensures))
