use Rattle.std.proofs.Common.{ap, ◌∙◌}
use Rattle.fluent_syntax_grammar.specs.Elements.{is_nonblank}
use Rattle.fluent_syntax_parser.proofs.source.Source.is_nonblank.Goals as goal

pub returns : goal.returns
returns c = c.is_nonblank.ensures ∙ ap is_nonblank c.bytes_of.ensures
