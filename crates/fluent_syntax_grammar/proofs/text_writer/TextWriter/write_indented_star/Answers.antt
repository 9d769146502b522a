use Rattle.std.proofs.Common.{rules}
use Rattle.fluent_syntax_grammar.proofs.Bytes.{Appends-append}
use Rattle.fluent_syntax_grammar.proofs.text_writer.TextWriter.write_indented_star.Goals as goal

pub returns : goal.returns
returns g c = search (rules, Appends-append)
