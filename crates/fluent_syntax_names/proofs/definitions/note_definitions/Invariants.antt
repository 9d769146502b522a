use Rattle.std.proofs.Common.{drop}
use Rattle.fluent_syntax_names.specs.Findings.{defined_in}
use Rattle.fluent_syntax_names.specs.QualifiedNames.{nameless}
use Rattle.fluent_syntax_names.specs.FirstPlaces.{place_of}
use Rattle.fluent_syntax_names.specs.Tables.{LeavesNames}
use Rattle.fluent_syntax_names.proofs.definitions.note_definitions.Given as goal

abbrev pub invariant-loop-mention : goal.invariant-loop-mention
invariant-loop-mention l = record {
  left : LeavesNames (place_of l.fn.table.table) (place_of l.table.table)
      (defined_in l.text l.owner (drop l.mention-index l.mentions)) (defined_in l.text nameless l.mentions);
}
