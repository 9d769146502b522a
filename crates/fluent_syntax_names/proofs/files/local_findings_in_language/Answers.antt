use Rattle.std.proofs.Common.{◌≡◌, ◌||◌, List, [], ◌∷◌, ap, subst, ◌∙◌, rules}
use Rattle.std.specs.Prelude.{IfOk}
use Rattle.fluent_syntax_names.specs.declared.name_index.NameIndex.{NameIndex}
use Rattle.fluent_syntax_names.specs.Cycles.{links}
use Rattle.fluent_syntax_names.specs.ReferenceGraphs.{KnowsCycles, set_by}
use Rattle.fluent_syntax_names.specs.Findings.{findings_from, set_of}
use Rattle.fluent_syntax_names.specs.Knowing.{others_define}
use Rattle.fluent_syntax_names.specs.PluralCategories.{words_of}
use Rattle.fluent_syntax_names.specs.FirstPlaces.{place_of}
use Rattle.fluent_syntax_names.specs.Tables.{has_name}
use Rattle.fluent_syntax_names.proofs.LocalFindings.{own, own_findings_depend_on_own_links}
use Rattle.fluent_syntax_names.proofs.Growing.{equal_cycles_are_same_on_links}
use Rattle.fluent_syntax_names.proofs.files.local_findings_in_language.Goals as goal

pub returns : goal.returns
returns c =
    let file = c.args.file.now in
    let words = words_of c.args.categories in
    let cycles = c.in_ok-cycles.cycles in
    let unknown = has_name (place_of c.new-unknown.result.table) in
    let A = set_by (λ name. unknown name || others_define [] name) cycles in
    let B = set_of (file ∷ []) in
    let alone = c.from_ref-files.ensures.value in
    let known = subst (λ (files : List NameIndex). KnowsCycles (links files) cycles) alone c.in_ok-cycles.ensures in
    let all = c.in_ok-all.ensures ∙ ap (λ (files : List NameIndex). findings_from A words 0 files []) alone in
    let has_messages : IfOk c.collect.result (λ list. list.items ≡ own c.in_ok-all.all.items) = search rules in
    let same = ap own all
    ∙ own_findings_depend_on_own_links A B words file (equal_cycles_are_same_on_links A B (links (file ∷ [])) known) in
    rw same at has_messages
