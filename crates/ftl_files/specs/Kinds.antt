-- What is reported of names: what it is called, and how grave it is.
use Rattle.std.specs.Prelude.{ℕ, List, codes}
use Rattle.fluent_syntax_names.specs.Differences.{difference_name, difference_severity}
use Rattle.fluent_syntax_names.specs.Severities.{name_of, severity_of}
use Rattle.fluent_syntax_names.specs.declared.finding.Severity.{Severity}
use Rattle.fluent_syntax_names.specs.declared.finding.Severity.TheVariants.{Error, Warning}
use Rattle.ftl_files.specs.declared.kinds.ReportedKind.{ReportedKind}
use Rattle.ftl_files.specs.declared.kinds.ReportedKind.TheVariants as kinds

-- as a command line has it
abbrev pub reported_name : ReportedKind → List ℕ
reported_name (kinds.Finding kind) = name_of kind
reported_name (kinds.Difference difference) = difference_name difference
reported_name kinds.MissingFile = codes "missing-file"
reported_name kinds.ObsoleteFile = codes "obsolete-file"

-- where no project says otherwise
abbrev pub reported_severity : ReportedKind → Severity
reported_severity (kinds.Finding kind) = severity_of kind
reported_severity (kinds.Difference difference) = difference_severity difference
reported_severity kinds.MissingFile = Error
reported_severity kinds.ObsoleteFile = Warning
