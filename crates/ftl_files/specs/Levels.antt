-- How grave what is reported is, as a project says it.
use Rattle.std.specs.Prelude.{Bool, List, if◌then◌else◌}
use Rattle.std.specs.List.{list_any}
use Rattle.std.specs.Str.{bytes_eq}
use Rattle.ftl_files.specs.Kinds.{reported_name, reported_severity}
use Rattle.ftl_files.specs.declared.kinds.ReportedKind.{ReportedKind}
use Rattle.ftl_files.specs.declared.levels.Levels.{Levels}
use Rattle.fluent_syntax_names.specs.declared.finding.Severity.{Severity}
use Rattle.fluent_syntax_names.specs.declared.finding.Severity.TheVariants.{Error, Warning}

abbrev pub has_kind : List ReportedKind → ReportedKind → Bool
has_kind kinds kind = list_any (λ other. bytes_eq (reported_name other) (reported_name kind)) kinds

-- whether a kind is one of these and of those
abbrev pub have_common_kind : (warned denied : List ReportedKind) → Bool
have_common_kind warned denied = list_any (has_kind denied) warned

-- as the project says, or else by default
abbrev pub severity_of : Levels → ReportedKind → Severity
severity_of levels kind =
    if has_kind levels.warned.now kind then Warning
    else if has_kind levels.denied.now kind then Error
    else reported_severity kind
