use Rattle.std.proofs.Common.{rules}
use Rattle.fluent_syntax_grammar.proofs.Indents.{star_indent-add}
use Rattle.fluent_syntax_grammar.proofs.Bytes.{Appends-append}
use Rattle.fluent_syntax_grammar.proofs.text_writer.TextWriter.write_star_indent.Goals as goal

pub returns-in-Deeper : goal.returns-in-Deeper
returns-in-Deeper g c = rw (c.in-Deeper.is, star_indent-add) (search (rules, Appends-append))
