use Rattle.std.proofs.Common.{refl}
use Rattle.fluent_syntax_grammar.specs.Construct.{stops, goes_on, passed}
use Rattle.fluent_syntax_grammar.specs.Entries.{no_more}
use Rattle.fluent_syntax_parser.specs.Made.{made}
use Rattle.fluent_syntax_parser.proofs.reader.Reader.get_attributes.Goals as goal

pub returns-in-Ok-clause-parses : goal.returns-in-Ok-clause-parses
returns-in-Ok-clause-parses g c = c.get_listed_attributes.ensures.parses

pub returns-in-Err-clause-parses : goal.returns-in-Err-clause-parses
returns-in-Err-clause-parses g c =
    rw c.new.ensures.items
    (made (no_more (goes_on (passed c.skip_blank_inline-dot.ensures.blank)
    (stops (c.in-Err.ensures.parses _ _ _ (refl, refl, refl))))) refl)
