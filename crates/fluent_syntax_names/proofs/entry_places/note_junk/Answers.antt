use Rattle.fluent_syntax_names.proofs.entry_places.note_junk.Goals as goal

pub returns-in_ok-note-in-Junk : goal.returns-in_ok-note-in-Junk
returns-in_ok-note-in-Junk c =
    let noted = rw (c.in_ok-name-in-Junk.ensures, c.name_at.ensures) at c.in_ok-note-in-Junk.ensures.noted in
    rw c.in-Junk.is noted
