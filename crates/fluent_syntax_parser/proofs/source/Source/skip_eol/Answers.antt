use Rattle.fluent_syntax_grammar.specs.Construct.{chosen}
use Rattle.fluent_syntax_grammar.specs.Places.{after_eol}
use Rattle.fluent_syntax_parser.proofs.scanning.LineEnds.{past_eol_is_read}
use Rattle.fluent_syntax_parser.proofs.source.Source.skip_eol.Goals as goal

pub returns-clause-parses : goal.returns-clause-parses
returns-clause-parses c =
    rw (c.unwrap_or.ensures, c.eol_end.ensures.eol)
    (chosen (past_eol_is_read (after_eol c.args.self.now.bytes.now c.args.ptr) c.args.ptr))
