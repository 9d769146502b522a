-- How files are searched, and what is counted and reported.
use Rattle.std.specs.Io.KnownBytes.{Appends}
use Rattle.std.specs.Prelude.{◌≡◌, ◌≤◌, ◌⊎◌, ◌+◌, ◌-◌, ◌^◌, ◌++◌, ◌&&◌, ℕ, min, Bool, not, List, [], ◌∷◌, map}
use Rattle.std.specs.Prelude.{false, length, nat_eq}
use Rattle.std.specs.Prelude.{Option, None, Some, IfSome, String, count_by, filter, if◌then◌else◌, option_map}
use Rattle.std.specs.Prelude.{slice_get, string_bytes}
use Rattle.std.specs.Global.{Global}
use Rattle.std.specs.Borrow.{Bor}
use Rattle.std.specs.Option.{option_eq}
use Rattle.fluent_syntax_names.specs.Findings.{findings_in_language}
use Rattle.fluent_syntax_names.specs.Knowing.{others_define}
use Rattle.fluent_syntax_names.specs.PluralCategories.{words_of}
use Rattle.fluent_syntax_names.specs.ShownNames.{shown_name}
use Rattle.fluent_syntax_names.specs.Severities.{name_of}
use Rattle.fluent_syntax_names.specs.declared.finding.Finding.{Finding}
use Rattle.fluent_syntax_names.specs.declared.name_index.NameIndex.{NameIndex}
use Rattle.fluent_syntax_tree.specs.declared.spans.Span.{Span}
use Rattle.ftl_project.specs.Differences.{is_error_kind}
use Rattle.ftl_project.specs.Faults.{Failing, Fails, HasStatus, IsTooDeep, IsUnread}
use Rattle.ftl_project.specs.NameIndexes.{IsNameIndex, SaysNothing}
use Rattle.ftl_project.specs.Diagnostics.{IsDiagnostic, ReportsEach, location_at}
use Rattle.ftl_project.specs.Tally.{counted, failed}
use Rattle.ftl_project.specs.declared.fault.Fault.TheVariants.{TooDeep}
use Rattle.ftl_project.specs.declared.linting.LintFile.{LintFile}
use Rattle.ftl_project.specs.declared.linting.LintOptions.{LintOptions}
use Rattle.ftl_project.specs.declared.linting.findings.Source.{Source}
use Rattle.ftl_files.specs.CommentRules.{is_left_out}
use Rattle.ftl_files.specs.IgnoreRules.{is_ignored}
use Rattle.ftl_files.specs.declared.comment_rules.CommentRules.{CommentRules}
use Rattle.ftl_files.specs.declared.levels.Levels.{Levels}
use Rattle.ftl_files.specs.declared.ignore_rules.IgnoreRule.{IgnoreRule}
use Rattle.ftl_files.specs.declared.kinds.ReportedKind.{ReportedKind}
use Rattle.ftl_files.specs.declared.kinds.ReportedKind.TheVariants as kinds
use Rattle.ftl_files.specs.declared.options.Form.{Form}
use Rattle.ftl_files.specs.declared.options.Reading.{Reading}
use Rattle.ftl_project.specs.declared.reporting.diagnostics.SourceLocation.{SourceLocation}
use Rattle.ftl_project.specs.declared.tally.Tally.{Tally}

-- ---- what was read

-- The source is the path and the bytes of the file, asked for or not as that is, with its rules.
pub record IsSource (at : List ℕ → Option (List ℕ)) (file : LintFile) (source : Source) : Type 0 where
  pub path_is : string_bytes source.path ≡ string_bytes file.path
  pub text_is : IfSome (at (string_bytes file.path)) (λ bytes. string_bytes source.text ≡ bytes)
  pub asked_is : source.is_asked ≡ file.is_asked
  pub ignored_is : source.ignored ≡ file.ignored

module _ (CallFails : Failing) (at : List ℕ → Option (List ℕ)) where
  -- A file was read; or it was not, and its fault was counted.
  abbrev pub ReadsSource : LintFile → (before after : List Source) → (old new : Tally) → Type 0
  ReadsSource file before after old new =
      ((source : Source) × IsSource at file source × (after ≡ before ++ (source ∷ [])) × (new ≡ old))
      ⊎ ((status : ℕ) × Fails (IsUnread CallFails (at (string_bytes file.path))) status × (after ≡ before)
      × (new ≡ counted old (failed status)))

  -- So were all of the files, in order.
  pub data Reads : List LintFile → List Source → (old new : Tally) → Type 0 where
    no_files : {tally : Tally} → Reads [] [] tally tally
    read_more : {files : List LintFile} {sources all : List Source} {old now new : Tally} →
        (file : LintFile) → Reads files sources old now → ReadsSource file sources all now new →
        Reads (files ++ (file ∷ [])) all old new

-- ---- what the files say

-- What a text says of names; or it nests deeper than it may and says nothing, and that was counted as its fault.
abbrev pub NameIndexesSource : Reading → Source → NameIndex → (old new : Tally) → Type 0
NameIndexesSource reading source name_index old new =
    (IsNameIndex reading.edition (string_bytes source.text) name_index × (new ≡ old))
    ⊎ ((status : ℕ) × HasStatus TooDeep status × IsTooDeep reading (string_bytes source.text) × SaysNothing name_index
    × (new ≡ counted old (failed status)))

-- So of all the texts, in order.
pub data NameIndexesEach (reading : Reading) : List Source → List NameIndex → (old new : Tally) → Type 0 where
  no_sources : {tally : Tally} → NameIndexesEach reading [] [] tally tally
  name_index_more : {sources : List Source} {name_indexes : List NameIndex} {old now new : Tally} → (source : Source)
      (name_index : NameIndex) → NameIndexesEach reading sources name_indexes old now →
      NameIndexesSource reading source name_index now new →
      NameIndexesEach reading (sources ++ (source ∷ [])) (name_indexes ++ (name_index ∷ [])) old new

-- ---- what is found

-- whether the file is asked for, if there is one
abbrev pub is_asked : Option Source → Bool
is_asked None = false
is_asked (Some source) = source.is_asked

-- what is not reported of the file, if there is one
abbrev pub ignored_in : Option Source → List IgnoreRule
ignored_in None = []
ignored_in (Some source) = source.ignored.now

-- the name as it is shown; nothing where there is no place
abbrev pub found_name : Option NameIndex → Option Span → List ℕ
found_name None place = []
found_name (Some name_index) None = []
found_name (Some name_index) (Some name) = shown_name name_index.text.now name

-- whether the comment of the entry there leaves out what is of the kind and has the name
abbrev pub is_commented : Option NameIndex → Option Span → ReportedKind → (name : List ℕ) → Bool
is_commented None place kind name = false
is_commented (Some name_index) place kind name = is_left_out name_index place kind name

-- whether neither a rule nor the comment there leaves out what has the name
abbrev pub is_named_reported : List IgnoreRule → Option NameIndex → Finding → (name : List ℕ) → Bool
is_named_reported ignored name_index finding name =
    not (is_ignored ignored (kinds.Finding finding.kind) name)
    && not (is_commented name_index finding.place (kinds.Finding finding.kind) name)

-- whether neither a rule of its file leaves it out nor a comment there, and it is in a file that is asked for
abbrev pub is_reported : List Source → List NameIndex → Finding → Bool
is_reported sources name_indexes finding =
    is_named_reported (ignored_in (slice_get sources finding.file)) (slice_get name_indexes finding.file) finding
    (found_name (slice_get name_indexes finding.file) finding.place) && is_asked (slice_get sources finding.file)

-- all that is found in what the files of a language say, and is left out by no rule of its file and no comment, in
-- those that are asked for
abbrev pub reported_findings : LintOptions → List Source → List NameIndex → List Finding
reported_findings options sources name_indexes =
    filter (is_reported sources name_indexes)
    (findings_in_language (words_of options.categories) name_indexes (others_define []))

-- what the files say whose comments these are
abbrev pub name_indexes_of : List CommentRules → List NameIndex
name_indexes_of comments = map (λ rules. rules.name_index.now) comments

abbrev pub name_index_of : Option (Bor CommentRules) → Option NameIndex
name_index_of comments = option_map (λ rules. rules.now.name_index.now) comments

-- ---- what is counted

abbrev pub is_error : Levels → Finding → Bool
is_error levels finding = is_error_kind levels (kinds.Finding finding.kind)

abbrev pub is_warning : Levels → Finding → Bool
is_warning levels finding = not (is_error levels finding)

-- how many files have an error, of findings in the order of their files, besides the last one that was counted
abbrev pub with_problems_after : Levels → (last : Option ℕ) → List Finding → ℕ
with_problems_after levels last [] = 0
with_problems_after levels last (finding ∷ findings) =
    if is_error levels finding && not (option_eq nat_eq last (Some finding.file))
    then with_problems_after levels (Some finding.file) findings + 1
    else with_problems_after levels last findings

-- how many of the files are asked for
abbrev pub asked_count : List Source → ℕ
asked_count sources = count_by (λ source. source.is_asked) sources

-- the tally once so many files and what was found in them are counted in it; a number that has come to the greatest
-- `usize` stays there
abbrev pub searched : Levels → Tally → (files : ℕ) → List Finding → Tally
searched levels tally files findings = record {
  files = min (tally.files + files) (2 ^ 64 - 1);
  with_problems = min (tally.with_problems + with_problems_after levels None findings) (2 ^ 64 - 1);
  errors = min (tally.errors + count_by (is_error levels) findings) (2 ^ 64 - 1);
  warnings = min (tally.warnings + count_by (is_warning levels) findings) (2 ^ 64 - 1);
  fault = tally.fault;
}

-- ---- what is reported

abbrev pub path_of : Option Source → List ℕ
path_of None = []
path_of (Some source) = string_bytes source.path

abbrev pub text_of : Option NameIndex → List ℕ
text_of None = []
text_of (Some name_index) = name_index.text.now

abbrev pub location_in : (text : List ℕ) → Option Span → Option SourceLocation
location_in text None = None
location_in text (Some name) = Some (location_at text name)

-- the name as it is shown
abbrev pub name_in : (text : List ℕ) → Option Span → Option (List ℕ)
name_in text place = option_map (shown_name text) place

-- This is reported of the finding, in its file.
abbrev pub IsFindingReport : Form → List Source → List NameIndex → Finding → (report_text : List ℕ) → Type 0
IsFindingReport form sources name_indexes finding report_text =
    (message : List ℕ) × IsDiagnostic form (path_of (slice_get sources finding.file))
    (location_in (text_of (slice_get name_indexes finding.file)) finding.place)
    (name_of finding.kind) (name_in (text_of (slice_get name_indexes finding.file)) finding.place) message report_text

-- The texts were searched as one set: what is found in those that are asked for was reported, in order, after what was
-- written before, and counted.
pub record Searches (reading : Reading) (options : LintOptions) (sources : List Source) (old new : Tally)
    (before after : Option (List ℕ)) : Type 0 where
  pub name_indexes : List NameIndex
  pub now : Tally
  pub has_name_indexes : NameIndexesEach reading sources name_indexes old now
  pub report_text : List ℕ
  pub reports : ReportsEach (IsFindingReport options.form sources name_indexes)
      (reported_findings options sources name_indexes) report_text
  pub counts : new
      ≡ searched options.levels now (asked_count sources) (reported_findings options sources name_indexes)
  pub appends : Appends before after report_text

-- The files were read, and the texts of those that could be were searched.
pub record SearchesFiles (CallFails : Failing) (reading : Reading) (options : LintOptions)
    (at : List ℕ → Option (List ℕ)) (files : List LintFile) (old new : Tally)
    (before after : Option (List ℕ)) : Type 0 where
  pub sources : List Source
  pub now : Tally
  pub reads : Reads CallFails at files sources old now
  pub searches : Searches reading options sources now new before after
