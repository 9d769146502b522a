use Rattle.std.proofs.Common.{◌≡◌, ◌∙◌, [], None, refl, sym}
use Rattle.std.proofs.lemmas.Result.{IfOk-weaker}
use Rattle.fluent_syntax_names.specs.Cycles.{links}
use Rattle.fluent_syntax_names.specs.Findings.{all_findings}
use Rattle.fluent_syntax_names.specs.Knowing.{others_define}
use Rattle.fluent_syntax_names.specs.Findings.{findings_with_externals, is_defined, set_with_externals, set_of}
use Rattle.fluent_syntax_names.specs.QualifiedNames.{Text}
use Rattle.fluent_syntax_names.proofs.Gathering.{bool_equals_itself_or_false}
use Rattle.fluent_syntax_names.proofs.Growing.{findings_from_files_depend_on_cycles, equal_cycles_are_same_on_links}
use Rattle.fluent_syntax_names.proofs.Ways.{reaches_decides_reach}
use Rattle.fluent_syntax_names.proofs.files.findings.Goals as goal

pub returns-clause-findings : goal.returns-clause-findings
returns-clause-findings c =
    let files = c.args.files.now in
    let A = set_with_externals files (others_define []) in
    let B = set_of files in
    let defines = λ (name : Text). sym (bool_equals_itself_or_false (is_defined files name)) in
    let same = findings_from_files_depend_on_cycles A B defines None 0 files
    (equal_cycles_are_same_on_links A B (links files) (λ from to links_to. refl)) [] in
    IfOk-weaker c.findings_with_externals.result (λ list. list.items ≡ findings_with_externals files (others_define []))
    (λ list. list.items ≡ all_findings files) (λ list is. is ∙ same) c.findings_with_externals.ensures

pub returns-clause-reached : goal.returns-clause-reached
returns-clause-reached c = reaches_decides_reach (links c.args.files.now)
