use Rattle.std.proofs.Common.{subst}
use Rattle.fluent_syntax_names.specs.FirstPlaces.{Notes, place_of}
use Rattle.fluent_syntax_names.proofs.Gathering.{NotesNames-one}
use Rattle.fluent_syntax_names.proofs.definitions.note_entry.Goals as goal

pub returns-clause-noted : goal.returns-clause-noted
returns-clause-noted c =
    subst (λ noted. Notes (place_of c.args.table.now.table) (place_of c.note.new.self.table) noted c.args.entry.name)
    c.in_ok-name.ensures c.in_ok-note.ensures.noted

pub returns-clause-names : goal.returns-clause-names
returns-clause-names c =
    NotesNames-one (place_of c.args.table.now.table) (place_of c.note.new.self.table)
    c.in_ok-name.name.items _ c.args.entry.name c.in_ok-name.ensures c.in_ok-note.ensures.noted
