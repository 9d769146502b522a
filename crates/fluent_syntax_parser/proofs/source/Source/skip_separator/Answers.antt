use Rattle.fluent_syntax_grammar.specs.Construct.{goes_on, passed}
use Rattle.fluent_syntax_parser.proofs.source.Source.skip_separator.Goals as goal

pub returns-clause-parses : goal.returns-clause-parses
returns-clause-parses c =
    goes_on (passed c.skip_blank-ptr.ensures.blank)
    (goes_on c.take_byte_if-ptr.ensures.parses
    (passed c.skip_blank.ensures.blank))
