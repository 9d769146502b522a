use Rattle.fluent_syntax_names.proofs.uses.note_use.Goals as goal

pub returns-in-MessageReference : goal.returns-in-MessageReference
returns-in-MessageReference c =
    let noted = rw c.message_name.ensures at c.note_reference.ensures in
    rw c.in-MessageReference.is noted

pub returns-in-TermReference : goal.returns-in-TermReference
returns-in-TermReference c =
    let noted = rw c.term_name.ensures at c.note_reference-in-TermReference.ensures in
    rw c.in-TermReference.is noted
