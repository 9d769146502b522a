use Rattle.fluent_syntax_grammar.proofs.MarksWritten.{Writes-append, Writes-cons}
use Rattle.fluent_syntax_writer.proofs.serializer.entries.serialize_attribute.Goals as goal

pub returns : goal.returns
returns g c =
    let name = Writes-cons c.serialize_text.ensures.written c.serialize_value.ensures.written in
    record { written = Writes-append c.begin_attribute.ensures.written name }
