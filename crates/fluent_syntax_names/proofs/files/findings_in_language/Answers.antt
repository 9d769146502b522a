use Rattle.std.proofs.Common.{◌||◌, [], ap}
use Rattle.fluent_syntax_names.specs.Cycles.{links}
use Rattle.fluent_syntax_names.specs.ReferenceGraphs.{set_by}
use Rattle.fluent_syntax_names.specs.Findings.{set_with_externals}
use Rattle.fluent_syntax_names.specs.Knowing.{others_define}
use Rattle.fluent_syntax_names.specs.PluralCategories.{words_of}
use Rattle.fluent_syntax_names.specs.FirstPlaces.{place_of}
use Rattle.fluent_syntax_names.specs.QualifiedNames.{Text}
use Rattle.fluent_syntax_names.specs.Tables.{has_name}
use Rattle.fluent_syntax_names.proofs.Growing.{findings_from_files_depend_on_cycles, equal_cycles_are_same_on_links}
use Rattle.fluent_syntax_names.proofs.files.findings_in_language.Goals as goal

pub returns : goal.returns
returns c =
    let files = c.args.files.now in
    let words = words_of c.args.categories in
    let others = others_define c.args.others.now in
    let own = has_name (place_of c.note_files.new.table.table) in
    let A = set_by (λ name. own name || others name) c.in_ok-cycles.cycles in
    let B = set_with_externals files others in
    let defines = λ (name : Text). ap (λ b. b || others name) (c.in_ok-note_files.ensures name) in
    let same = findings_from_files_depend_on_cycles A B defines words 0 files
    (equal_cycles_are_same_on_links A B (links files) c.in_ok-cycles.ensures) [] in
    rw (← same) c.findings_in_files.ensures
