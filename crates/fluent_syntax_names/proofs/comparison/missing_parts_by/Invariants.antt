use Rattle.std.proofs.Common.{[], drop}
use Rattle.fluent_syntax_names.specs.QualifiedNames.{nameless}
use Rattle.fluent_syntax_names.specs.MissingParts.{missing_parts_in}
use Rattle.fluent_syntax_names.specs.ComparisonTables.{other_by}
use Rattle.fluent_syntax_names.specs.Growing.{Leaves}
use Rattle.fluent_syntax_names.proofs.comparison.missing_parts_by.Given as goal

abbrev pub invariant-loop-mention : goal.invariant-loop-mention
invariant-loop-mention l =
    let text = l.tables.text.now in
    let D = other_by l.tables in
    record {
      left : Leaves [] l.list.items (missing_parts_in D text l.owner (drop l.mention-index l.mentions))
          (missing_parts_in D text nameless l.mentions);
    }
