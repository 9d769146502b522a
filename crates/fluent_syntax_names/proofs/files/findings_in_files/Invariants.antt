use Rattle.std.proofs.Common.{[], drop}
use Rattle.fluent_syntax_names.specs.PluralCategories.{words_of}
use Rattle.fluent_syntax_names.specs.ReferenceGraphs.{set_by}
use Rattle.fluent_syntax_names.specs.Knowing.{knows}
use Rattle.fluent_syntax_names.specs.Findings.{findings_from}
use Rattle.fluent_syntax_names.specs.Growing.{Leaves}
use Rattle.fluent_syntax_names.proofs.files.findings_in_files.Given as goal

abbrev pub invariant-loop-number : goal.invariant-loop-number
invariant-loop-number l =
    let A = set_by (knows l.known) l.cycles in
    let words = words_of l.categories in
    record {
      left : Leaves [] l.list.items (findings_from A words l.number (drop l.number l.files))
          (findings_from A words 0 l.files);
    }
