use Rattle.fluent_syntax_grammar.proofs.MarksWritten.{Writes-append, Writes-cons}
use Rattle.fluent_syntax_writer.proofs.serializer.entries.serialize_message.Goals as goal

pub returns : goal.returns
returns g c =
    let ending = Writes-append c.serialize_attributes.ensures.written c.newline.ensures.written in
    let value = Writes-append c.serialize_message_value.ensures.written ending in
    let name = Writes-cons c.serialize_text.ensures.written value in
    record { written = rw (← c.deref.ensures.value) (Writes-append c.serialize_own_comment.ensures.written name) }
