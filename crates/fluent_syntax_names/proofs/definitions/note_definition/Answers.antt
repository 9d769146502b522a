use Rattle.fluent_syntax_names.proofs.definitions.note_definition.Goals as goal

pub returns-in-Message : goal.returns-in-Message
returns-in-Message c =
    let noted = rw c.message_name.ensures at c.note_message.ensures in
    rw c.in-Message.is noted

pub returns-in-Term : goal.returns-in-Term
returns-in-Term c =
    let noted = rw c.term_name.ensures at c.note_entry.ensures.names in
    rw c.in-Term.is noted
