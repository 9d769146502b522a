use Rattle.fluent_syntax_names.specs.FirstPlaces.{place_of}
use Rattle.fluent_syntax_names.proofs.Gathering.{no_file_is_gathered_at_start, next_file_is_gathered}
use Rattle.fluent_syntax_names.proofs.Gathering.{gathered_files_define_their_names}
use Rattle.fluent_syntax_names.proofs.files.note_files.Goals as goal

pub loop-file-init : goal.loop-file-init
loop-file-init c = record {
  left = no_file_is_gathered_at_start c.args.files.now (place_of c.args.table.now.table)
      (place_of c.args.table.now.table) 0 c.requires;
}

pub loop-file-preserved : goal.loop-file-preserved
loop-file-preserved c = record {
  left = next_file_is_gathered c.args.files.now (place_of c.loop-file.table.table)
      (place_of c.note_definitions.new.table.table)
      c.loop-file.file-index c.file-item.result c.loop-file-test.true c.file-item.is c.loop-file.invariant.left
      (rw c.deref.ensures.value at c.in_ok-note_definitions.ensures);
}

pub returns : goal.returns
returns c =
    gathered_files_define_their_names c.args.files.now (place_of c.loop-file.table.table)
    (place_of c.loop-file.table.table)
    c.loop-file.file-index c.loop-file-test.false c.loop-file.invariant.left
