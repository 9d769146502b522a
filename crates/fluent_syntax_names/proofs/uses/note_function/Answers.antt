use Rattle.fluent_syntax_names.specs.FirstPlaces.{place_of}
use Rattle.fluent_syntax_names.proofs.Gathering.{NotesNames-one}
use Rattle.fluent_syntax_names.proofs.uses.note_function.Goals as goal

pub returns : goal.returns
returns c =
    NotesNames-one (place_of c.args.table.now.table) (place_of c.note.new.self.table)
    c.in_ok-name.name.items _ c.args.function c.in_ok-name.ensures c.in_ok-note.ensures.noted
