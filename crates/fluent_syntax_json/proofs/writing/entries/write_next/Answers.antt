use Rattle.fluent_syntax_grammar.proofs.Bytes.{Appends-append}
use Rattle.fluent_syntax_json.proofs.writing.entries.write_next.Goals as goal

pub returns : goal.returns
returns g c = record { written = Appends-append c.write_comma.ensures.written c.write_entry.ensures.written }
