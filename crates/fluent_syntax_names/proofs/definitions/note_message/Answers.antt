use Rattle.std.proofs.Common.{Some}
use Rattle.fluent_syntax_names.specs.Findings.{put}
use Rattle.fluent_syntax_names.specs.FirstPlaces.{place_of}
use Rattle.fluent_syntax_names.specs.QualifiedNames.{qualified_name, qualified_value}
use Rattle.fluent_syntax_names.proofs.Gathering.{NotesNames-more}
use Rattle.fluent_syntax_names.proofs.definitions.note_message.Goals as goal

pub returns-then-has_value : goal.returns-then-has_value
returns-then-has_value c =
    let text = c.args.text.now in
    rw c.if-has_value.true
    (NotesNames-more c.note_value.result (place_of c.args.table.now.table) (place_of c.note_entry.new.table.table)
    (place_of c.note_value.new.table.table) (put (Some (qualified_name text c.args.message)))
    (put (Some (qualified_value text c.args.message))) c.in_ok-note_entry.ensures.names c.note_value.ensures)
