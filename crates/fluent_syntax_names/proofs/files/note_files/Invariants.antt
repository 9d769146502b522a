use Rattle.fluent_syntax_names.specs.FirstPlaces.{place_of}
use Rattle.fluent_syntax_names.proofs.Gathering.{left_of_files}
use Rattle.fluent_syntax_names.proofs.files.note_files.Given as goal

abbrev pub invariant-loop-file : goal.invariant-loop-file
invariant-loop-file l =
    let known = place_of l.table.table in
    record { left : left_of_files l.files known known l.file-index known l.file-index }
