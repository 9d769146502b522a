use Rattle.fluent_syntax_grammar.specs.Construct.{goes_on}
use Rattle.fluent_syntax_parser.proofs.scanning.LineEnds.{rest_of_line_is_read}
use Rattle.fluent_syntax_parser.proofs.source.Source.skip_comment.Goals as goal

pub returns-clause-line : goal.returns-clause-line
returns-clause-line c =
    goes_on (rest_of_line_is_read c.args.self.now.bytes.now _ _ c.line_end.ensures.line) c.skip_eol.ensures.parses
