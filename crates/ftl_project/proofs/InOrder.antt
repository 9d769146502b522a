-- What is done with each of a list, one after another.
use Rattle.std.proofs.Common.{◌≡◌, ◌<◌, ◌+◌, ◌++◌, [], ◌∷◌, ℕ, List, length, get_or, take, sym}
use Rattle.std.proofs.lemmas.List.{take_more}
use Rattle.std.specs.Prelude.{Option}
use Rattle.fluent_syntax_names.specs.declared.name_index.NameIndex.{NameIndex}
use Rattle.ftl_project.specs.Comparing.{Compares, ComparesEach, pair_more}
use Rattle.ftl_project.specs.Faults.{Failing}
use Rattle.ftl_project.specs.Linting.{NameIndexesEach, NameIndexesSource, Reads, ReadsSource, name_index_more}
use Rattle.ftl_project.specs.Linting.{read_more}
use Rattle.ftl_project.specs.Diagnostics.{ReportsEach, then_report}
use Rattle.ftl_project.specs.declared.comparing.CompareOptions.{CompareOptions}
use Rattle.ftl_project.specs.declared.comparing.pair.Pair.{Pair}
use Rattle.ftl_project.specs.declared.comparing.share.Share.{Share}
use Rattle.ftl_project.specs.declared.linting.LintFile.{LintFile}
use Rattle.ftl_project.specs.declared.linting.findings.Source.{Source}
use Rattle.ftl_files.specs.declared.options.Reading.{Reading}
use Rattle.ftl_project.specs.declared.tally.Tally.{Tally}

-- What was reported of the first ones, and of one more.
pub ReportsEach-more : {A : Type 0} (Is : A → List ℕ → Type 0) (items : List A) (index : ℕ) (d : A)
    (report_text text all : List ℕ) → index < length items → ReportsEach Is (take index items) report_text →
    Is (get_or items index d) text → all ≡ report_text ++ text → ReportsEach Is (take (index + 1) items) all
ReportsEach-more Is items index d report_text text all below reports that whole =
    rw (take_more items index d below, whole) (then_report (get_or items index d) text reports that)

-- The pairs that were compared first, and one more.
pub ComparesEach-more : (CallFails : Failing) (reading : Reading) (options : CompareOptions)
    (at : List ℕ → Option (List ℕ)) (pairs : List Pair)
    (index : ℕ) (pair : Pair) (old now new : Tally) (had between has : Share)
    (before middle after : Option (List ℕ)) → index < length pairs → pair ≡ get_or pairs index pair →
    ComparesEach CallFails reading options at (take index pairs) old now had between before middle →
    Compares CallFails reading options at pair now new between has middle after →
    ComparesEach CallFails reading options at (take (index + 1) pairs) old new had has before after
ComparesEach-more CallFails reading options at pairs index pair old now new had between has before middle after below is
    each
    that = rw (take_more pairs index pair below, sym is) (pair_more pair each that)

-- The sources that were read first, and one more file.
pub Reads-more : (CallFails : Failing) (at : List ℕ → Option (List ℕ)) (files : List LintFile) (index : ℕ)
    (file : LintFile) (sources all : List Source) (old now new : Tally) → index < length files →
    file ≡ get_or files index file → Reads CallFails at (take index files) sources old now →
    ReadsSource CallFails at file sources all now new → Reads CallFails at (take (index + 1) files) all old new
Reads-more CallFails at files index file sources all old now new below is reads that =
    rw (take_more files index file below, sym is) (read_more file reads that)

-- The name indexes of the first sources, and of one more.
pub NameIndexesEach-more : (reading : Reading) (sources : List Source) (index : ℕ) (source : Source)
    (name_indexes all : List NameIndex) (name_index : NameIndex) (old now new : Tally) → index < length sources →
    source ≡ get_or sources index source → all ≡ name_indexes ++ (name_index ∷ []) →
    NameIndexesEach reading (take index sources) name_indexes old now
    → NameIndexesSource reading source name_index now new →
    NameIndexesEach reading (take (index + 1) sources) all old new
NameIndexesEach-more reading sources index source name_indexes all name_index old now new below is whole each that =
    rw (take_more sources index source below, sym is, whole) (name_index_more source name_index each that)
