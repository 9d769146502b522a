-- How a comparison meets each pair.
use Rattle.std.specs.Io.KnownBytes.{Appends}
use Rattle.std.specs.Prelude.{◌≡◌, ◌⊎◌, ◌==◌, ◌+◌, ◌-◌, ◌^◌, ◌++◌, ◌&&◌, ℕ, Bool, true, false, not, List, [], ◌∷◌}
use Rattle.std.specs.Prelude.{Option, None, Some, codes, count_by, if◌then◌else◌, min, option_map, string_bytes}
use Rattle.std.specs.Fmt.{decimal}
use Rattle.fluent_syntax_names.specs.EntryPlaces.{entry_count}
use Rattle.fluent_syntax_names.specs.MissingParts.{all_missing_parts, is_entry_part, is_junk}
use Rattle.fluent_syntax_names.specs.declared.missing_part.MissingPart.{MissingPart}
use Rattle.fluent_syntax_names.specs.declared.name_index.NameIndex.{NameIndex}
use Rattle.fluent_syntax_names.specs.Differences.{difference_name, side_difference}
use Rattle.fluent_syntax_names.specs.Sentences.{part_sentence}
use Rattle.fluent_syntax_names.specs.ShownNames.{shown_name}
use Rattle.ftl_project.specs.Differences.{counts_as_error, counts_as_warning, is_error_kind, is_reported}
use Rattle.ftl_project.specs.Differences.{reported_parts}
use Rattle.ftl_project.specs.Faults.{Failing, Fails, IsFault, IsRead, IsTooDeep, IsUnparsed}
use Rattle.ftl_project.specs.NameIndexes.{IsNameIndex}
use Rattle.ftl_project.specs.Diagnostics.{IsDiagnostic, ReportsEach, location_at}
use Rattle.ftl_project.specs.Tally.{Processed, answered, counted, failed}
use Rattle.ftl_project.specs.declared.comparing.CompareOptions.{CompareOptions}
use Rattle.ftl_project.specs.declared.comparing.pair.Pair.{Pair}
use Rattle.ftl_project.specs.declared.comparing.pair.Presence.{Presence}
use Rattle.ftl_project.specs.declared.comparing.pair.Presence.TheVariants.{Both, ReferenceAlone, OtherAlone}
use Rattle.ftl_project.specs.declared.comparing.share.Share.{Share}
use Rattle.fluent_syntax_names.specs.declared.differences.Difference.{Difference}
use Rattle.fluent_syntax_names.specs.declared.differences.Side.{Side}
use Rattle.fluent_syntax_names.specs.declared.differences.Side.TheVariants.{Reference, Other}
use Rattle.ftl_project.specs.declared.fault.Fault.{Fault}
use Rattle.ftl_project.specs.declared.fault.Fault.TheVariants.{Memory}
use Rattle.ftl_files.specs.declared.ignore_rules.IgnoreRule.{IgnoreRule}
use Rattle.ftl_files.specs.declared.kinds.ReportedKind.{ReportedKind}
use Rattle.ftl_files.specs.declared.kinds.ReportedKind.TheVariants.{MissingFile, ObsoleteFile}
use Rattle.ftl_files.specs.declared.levels.Levels.{Levels}
use Rattle.ftl_files.specs.declared.options.Form.{Form}
use Rattle.ftl_files.specs.declared.options.Reading.{Reading}
use Rattle.ftl_project.specs.declared.reporting.diagnostics.SourceLocation.{SourceLocation}
use Rattle.ftl_project.specs.declared.tally.Tally.{Tally}

-- ---- what is said of a part that one file has and the other one lacks

-- a place in the reference, as it is said
abbrev pub reference_place : Pair → SourceLocation → List ℕ
reference_place pair location =
    string_bytes pair.reference ++ (codes ":" ++ (decimal location.line ++ (codes ":" ++ decimal location.column)))

-- what is said of a part that the text of this side has, with the place in the reference where that has it
abbrev pub part_message : Side → Pair → (text : List ℕ) → MissingPart → Difference → Option SourceLocation → List ℕ
part_message side pair text missing difference reference =
    part_sentence side text missing difference (option_map (reference_place pair) reference)

-- where the other file has the part as junk, of the place at which it has the entry
abbrev pub junk_location : MissingPart → Option SourceLocation → Option SourceLocation
junk_location missing entry = if is_junk missing then entry else None

-- where the other text has the entry, or has it as junk
abbrev pub entry_in : (other : List ℕ) → MissingPart → Option SourceLocation
entry_in other missing = option_map (location_at other) missing.in_other

-- where the other text has the part as junk
abbrev pub junk_in : (other : List ℕ) → MissingPart → Option SourceLocation
junk_in other missing = junk_location missing (entry_in other missing)

-- This is reported of a difference in the file; of no difference nothing is.
abbrev pub IsDifferenceReport : Form → (path : List ℕ) → Option SourceLocation → (name : List ℕ) →
    (message : Difference → List ℕ) → Option Difference → (report_text : List ℕ) → Type 0
IsDifferenceReport form path place name message None report_text = report_text ≡ []
IsDifferenceReport form path place name message (Some difference) report_text =
    IsDiagnostic form path place (difference_name difference) (Some name) (message difference) report_text

-- This is reported of what the reference's text has and the other one lacks: at the entry there, or at the first such
-- junk.
abbrev pub IsMissingReport : Form → Pair → (text other : List ℕ) → MissingPart → (report_text : List ℕ) → Type 0
IsMissingReport form pair text other missing report_text =
    IsDifferenceReport form (string_bytes pair.other) (entry_in other missing) (shown_name text missing.name)
    (λ difference. part_message Reference pair text missing difference (Some (location_at text missing.name)))
    (side_difference Reference missing.part) report_text

-- This is reported of what the text has that is to be the translation, and the reference, the other one, lacks.
abbrev pub IsExtraReport : Form → Pair → (text other : List ℕ) → MissingPart → (report_text : List ℕ) → Type 0
IsExtraReport form pair text other missing report_text =
    IsDifferenceReport form (string_bytes pair.other) (Some (location_at text missing.name))
    (shown_name text missing.name)
    (λ difference. part_message Other pair text missing difference (junk_in other missing))
    (side_difference Other missing.part) report_text

-- This is reported of what the text of a side has and the other one lacks.
abbrev pub IsMissingPartReport : Side → Form → Pair → (text other : List ℕ) → MissingPart → (report_text : List ℕ)
    → Type 0
IsMissingPartReport Reference = IsMissingReport
IsMissingPartReport Other = IsExtraReport

-- ---- how many

-- how many messages and terms the other file lacks
abbrev pub missing_entries : List MissingPart → ℕ
missing_entries missing_parts = count_by (λ (missing : MissingPart). is_entry_part missing.part) missing_parts

-- how many of what this file has and the other one lacks are reported as errors
abbrev pub errors_of : Levels → Side → List MissingPart → ℕ
errors_of levels side missing_parts =
    count_by (λ (missing : MissingPart). counts_as_error levels side missing.part) missing_parts

-- and how many as warnings
abbrev pub warnings_of : Levels → Side → List MissingPart → ℕ
warnings_of levels side missing_parts =
    count_by (λ (missing : MissingPart). counts_as_warning levels side missing.part) missing_parts

-- the sum of what was met before and this part; a number that has come to the greatest `usize` stays there
abbrev pub with_share : Share → Option Share → Share
with_share share None = share
with_share share (Some part) = record {
  wanted = min (share.wanted + part.wanted) (2 ^ 64 - 1);
  missing = min (share.missing + part.missing) (2 ^ 64 - 1);
}

-- ---- a pair

-- This is reported of the translation's file as a whole, if that is reported.
abbrev pub IsFileReport : Form → Pair → (kind message : List ℕ) → (is_reported : Bool) → (report_text : List ℕ) →
    Type 0
IsFileReport form pair kind message false report_text = report_text ≡ []
IsFileReport form pair kind message true report_text =
    IsDiagnostic form (string_bytes pair.other) None kind None message report_text

-- what is said of a file that is not there, and of one that the reference doesn't have
abbrev pub missing_file_message : Pair → List ℕ
missing_file_message pair = codes "there is no such file; the reference has " ++ string_bytes pair.reference

abbrev pub obsolete_file_message : Pair → List ℕ
obsolete_file_message pair = codes "the reference has no file " ++ string_bytes pair.reference

-- whether what this kind says of a file as a whole is reported as an error, and whether as a warning
abbrev pub is_file_error : List IgnoreRule → Levels → ReportedKind → Bool
is_file_error ignored levels kind = is_reported ignored kind [] && is_error_kind levels kind

abbrev pub is_file_warning : List IgnoreRule → Levels → ReportedKind → Bool
is_file_warning ignored levels kind = is_reported ignored kind [] && not (is_error_kind levels kind)

-- The other file is not there: that is all that is reported, if it is, and all of the reference is missing.
pub record IsFileMissing (options : CompareOptions) (pair : Pair) (reference : NameIndex) (errors warnings : ℕ)
    (share : Share) (text : List ℕ) : Type 0 where
  pub report_is : IsFileReport options.form pair (codes "missing-file") (missing_file_message pair)
      (is_reported pair.ignored.now MissingFile []) text
  pub errors_are : errors ≡ (if is_file_error pair.ignored.now options.levels MissingFile then 1 else 0)
  pub warnings_are : warnings ≡ (if is_file_warning pair.ignored.now options.levels MissingFile then 1 else 0)
  pub share_is : share ≡ record { wanted = entry_count reference; missing = entry_count reference }

-- The reference has no such file: that is all that is reported, if it is.
pub record IsFileObsolete (options : CompareOptions) (pair : Pair) (errors warnings : ℕ) (share : Share)
    (text : List ℕ) : Type 0 where
  pub report_is : IsFileReport options.form pair (codes "obsolete-file") (obsolete_file_message pair)
      (is_reported pair.ignored.now ObsoleteFile []) text
  pub errors_are : errors ≡ (if is_file_error pair.ignored.now options.levels ObsoleteFile then 1 else 0)
  pub warnings_are : warnings ≡ (if is_file_warning pair.ignored.now options.levels ObsoleteFile then 1 else 0)
  pub share_is : share ≡ record { wanted = 0; missing = 0 }

-- what is reported of that which the reference has and the other lacks, and the other way round
abbrev pub reported_missing : Pair → (reference other : NameIndex) → List MissingPart
reported_missing pair reference other =
    reported_parts pair.ignored.now Reference reference other (all_missing_parts reference other)

abbrev pub reported_extra : Pair → (reference other : NameIndex) → List MissingPart
reported_extra pair reference other =
    reported_parts pair.ignored.now Other other reference (all_missing_parts other reference)

-- What the reference has and the other lacks is reported, in the order of the reference, and after it what the other
-- and the reference lacks, in the order of the other. All that is missing counts for the share.
pub record IsPairCompared (options : CompareOptions) (pair : Pair) (reference other : NameIndex)
    (errors warnings : ℕ) (share : Share) (text : List ℕ) : Type 0 where
  pub missing : List ℕ
  pub reports_missing : ReportsEach (IsMissingReport options.form pair reference.text.now other.text.now)
      (reported_missing pair reference other) missing
  pub more : List ℕ
  pub reports_extra : ReportsEach (IsExtraReport options.form pair other.text.now reference.text.now)
      (reported_extra pair reference other) more
  pub text_is : text ≡ missing ++ more
  pub errors_are : errors
      ≡ min (errors_of options.levels Reference (reported_missing pair reference other)
      + errors_of options.levels Other (reported_extra pair reference other)) (2 ^ 64 - 1)
  pub warnings_are : warnings
      ≡ min (warnings_of options.levels Reference (reported_missing pair reference other)
      + warnings_of options.levels Other (reported_extra pair reference other)) (2 ^ 64 - 1)
  pub share_is : share
      ≡ record { wanted = entry_count reference; missing = missing_entries (all_missing_parts reference other) }

module _ (CallFails : Failing) (reading : Reading) (options : CompareOptions) (at : List ℕ → Option (List ℕ)) where
  -- The name index is that of what was read of the file.
  abbrev pub IsNameIndexAt : (path : List ℕ) → NameIndex → Type 0
  IsNameIndexAt path name_index = (text : List ℕ) × IsRead (at path) text × IsNameIndex reading.edition text name_index

  -- what comes of a pair, by which of its files are there
  abbrev pub IsComparison : Presence → Pair → (errors warnings : ℕ) → Share → (text : List ℕ) → Type 0
  IsComparison Both pair errors warnings share text = (reference : NameIndex)
      × IsNameIndexAt (string_bytes pair.reference) reference
      × (other : NameIndex) × IsNameIndexAt (string_bytes pair.other) other
      × IsPairCompared options pair reference other errors warnings share text
  IsComparison ReferenceAlone pair errors warnings share text = (reference : NameIndex)
      × IsNameIndexAt (string_bytes pair.reference) reference
      × IsFileMissing options pair reference errors warnings share text
  IsComparison OtherAlone pair errors warnings share text = IsFileObsolete options pair errors warnings share text

  -- Why a pair was not compared: one of its files was not answered, or memory was wanted.
  abbrev pub IsFileFault : (path : List ℕ) → Fault → Type 0
  IsFileFault path = IsFault CallFails (at path) (λ text. IsUnparsed (IsTooDeep reading text))

  abbrev pub IsPairFault : Presence → Pair → Fault → Type 0
  IsPairFault Both pair fault =
      IsFileFault (string_bytes pair.reference) fault ⊎ IsFileFault (string_bytes pair.other) fault
  IsPairFault ReferenceAlone pair fault = IsFileFault (string_bytes pair.reference) fault
  IsPairFault OtherAlone pair fault = fault ≡ Memory

  -- So the file of that side was not.
  abbrev pub IsSideFault : Presence → Pair → Side → Fault → Type 0
  IsSideFault Both pair side fault = ((side ≡ Reference) × IsFileFault (string_bytes pair.reference) fault)
      ⊎ ((side ≡ Other) × IsFileFault (string_bytes pair.other) fault)
  IsSideFault ReferenceAlone pair side fault = (side ≡ Reference) × IsFileFault (string_bytes pair.reference) fault
  IsSideFault OtherAlone pair side fault = fault ≡ Memory

  -- how a pair is met, with how much of it is there, and what is reported of it
  abbrev pub IsCompared : Pair → Processed → Option Share → (text : List ℕ) → Type 0
  IsCompared pair (answered errors warnings has_problems) share text =
      (part : Share) × (share ≡ Some part) × IsComparison pair.presence pair errors warnings part text
      × (has_problems ≡ not (errors == 0))
  IsCompared pair (failed status) share text =
      Fails (IsPairFault pair.presence pair) status × (share ≡ None) × (text ≡ [])

  -- It was counted and its share added, and the text was written after what was written before.
  abbrev pub Compares : Pair → (old new : Tally) → (had has : Share) → (before after : Option (List ℕ)) → Type 0
  Compares pair old new had has before after =
      (processed : Processed) × (part : Option Share) × (text : List ℕ) × IsCompared pair processed part text
      × (new ≡ counted old processed) × (has ≡ with_share had part) × Appends before after text

  -- So was each of the pairs, one after another.
  pub data ComparesEach : List Pair → (old new : Tally) → (had has : Share) → (before after : Option (List ℕ)) →
      Type 0 where
    no_pairs : {tally : Tally} {share : Share} {written : Option (List ℕ)} →
        ComparesEach [] tally tally share share written written
    pair_more : {pairs : List Pair} {old now new : Tally} {had between has : Share}
        {before middle after : Option (List ℕ)} → (pair : Pair) → ComparesEach pairs old now had between before middle →
        Compares pair now new between has middle after →
        ComparesEach (pairs ++ (pair ∷ [])) old new had has before after
