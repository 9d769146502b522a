-- What is reported of differences, and whether it is an error.
use Rattle.std.specs.Prelude.{ℕ, Bool, true, false, not, List, Option, None, Some, filter}
use Rattle.fluent_syntax_names.specs.Differences.{side_difference}
use Rattle.fluent_syntax_names.specs.declared.differences.Difference.{Difference}
use Rattle.fluent_syntax_names.specs.declared.differences.Side.{Side}
use Rattle.fluent_syntax_names.specs.declared.finding.Severity.{Severity}
use Rattle.fluent_syntax_names.specs.declared.finding.Severity.TheVariants.{Error, Warning}
use Rattle.fluent_syntax_names.specs.declared.missing_part.MissingPart.{MissingPart}
use Rattle.fluent_syntax_names.specs.declared.missing_part.Part.{Part}
use Rattle.fluent_syntax_names.specs.declared.name_index.NameIndex.{NameIndex}
use Rattle.ftl_files.specs.IgnoreRules.{is_ignored}
use Rattle.ftl_files.specs.Levels.{severity_of}
use Rattle.ftl_files.specs.Missing.{is_part_reported}
use Rattle.ftl_files.specs.declared.levels.Levels.{Levels}
use Rattle.ftl_files.specs.declared.ignore_rules.IgnoreRule.{IgnoreRule}
use Rattle.ftl_files.specs.declared.kinds.ReportedKind.{ReportedKind}
use Rattle.ftl_files.specs.declared.kinds.ReportedKind.TheVariants as kinds

-- whether it is an error
abbrev pub is_error_severity : Severity → Bool
is_error_severity Error = true
is_error_severity Warning = false

abbrev pub is_error_kind : Levels → ReportedKind → Bool
is_error_kind levels kind = is_error_severity (severity_of levels kind)

abbrev pub is_error_difference : Levels → Option Difference → Bool
is_error_difference levels None = false
is_error_difference levels (Some difference) = is_error_kind levels (kinds.Difference difference)

-- whether a part that this file has and the other one lacks is reported as an error
abbrev pub counts_as_error : Levels → Side → Part → Bool
counts_as_error levels side part = is_error_difference levels (side_difference side part)

-- or as a warning
abbrev pub is_warning_difference : Levels → Option Difference → Bool
is_warning_difference levels None = false
is_warning_difference levels (Some difference) = not (is_error_kind levels (kinds.Difference difference))

abbrev pub counts_as_warning : Levels → Side → Part → Bool
counts_as_warning levels side part = is_warning_difference levels (side_difference side part)

-- whether no rule leaves out what is of the kind and has the name
abbrev pub is_reported : List IgnoreRule → ReportedKind → (name : List ℕ) → Bool
is_reported ignored kind name = not (is_ignored ignored kind name)

-- those of the parts that are reported
abbrev pub reported_parts : List IgnoreRule → Side → (own other : NameIndex) → List MissingPart → List MissingPart
reported_parts ignored side own other missing_parts = filter (is_part_reported ignored side own other) missing_parts
