-- Kinds of findings: their numbers, how grave they are, and their names.
use Rattle.std.specs.Prelude.{◌≡◌, ◌≢◌, ℕ, List}
use Rattle.fluent_syntax_names.specs.Differences.{difference_name, difference_severity}
use Rattle.fluent_syntax_names.specs.Severities.{name_of, severity_of}
use Rattle.fluent_syntax_names.specs.declared.finding.Kind.{Kind}
use Rattle.fluent_syntax_names.specs.declared.finding.Kind.TheVariants as kind
use Rattle.fluent_syntax_names.specs.declared.finding.Severity.{Severity}
use Rattle.fluent_syntax_names.specs.declared.finding.Severity.TheVariants.{Error, Warning}
use Rattle.ftl.specs.declared.outcome.Outcome.{Outcome}
use Rattle.ftl.specs.declared.outcome.Outcome.TheVariants.{Clean}
use Rattle.fluent_syntax_names.specs.declared.differences.Difference.{Difference}
use Rattle.fluent_syntax_names.specs.declared.differences.Difference.TheVariants as differs
use Rattle.fluent_syntax_c.specs.declared.finding_kinds.FindingKind.{FindingKind}
use Rattle.fluent_syntax_c.specs.declared.finding_kinds.FindingKind.TheVariants.{Within, Between}

abbrev pub within_number : Kind → ℕ
within_number kind.DefinedTwice = 1
within_number kind.AttributeTwice = 2
within_number kind.UndefinedMessage = 3
within_number kind.UndefinedTerm = 4
within_number kind.UndefinedAttribute = 5
within_number kind.UndefinedValue = 6
within_number kind.CyclicReference = 7
within_number kind.VariantTwice = 8
within_number kind.PluralCategory = 9

abbrev pub between_number : Difference → ℕ
between_number differs.Missing = 101
between_number differs.MissingValue = 102
between_number differs.MissingAttribute = 103
between_number differs.MissingReference = 104
between_number differs.Obsolete = 105
between_number differs.ObsoleteValue = 106
between_number differs.ObsoleteAttribute = 107
between_number differs.UnknownVariable = 108
between_number differs.ObsoleteReference = 109
between_number differs.UnknownFunction = 110

abbrev pub finding_kind_number : FindingKind → ℕ
finding_kind_number (Within k) = within_number k
finding_kind_number (Between d) = between_number d

-- how grave a finding of the kind is
abbrev pub finding_kind_severity : FindingKind → Severity
finding_kind_severity (Within k) = severity_of k
finding_kind_severity (Between d) = difference_severity d

abbrev pub severity_number : Severity → ℕ
severity_number Error = 1
severity_number Warning = 2

-- as a command line has it
abbrev pub finding_kind_name : FindingKind → List ℕ
finding_kind_name (Within k) = name_of k
finding_kind_name (Between d) = difference_name d

-- No kind of findings has the number.
abbrev pub IsNoFindingKind : ℕ → Type 0
IsNoFindingKind number = (kind : FindingKind) → finding_kind_number kind ≢ number

-- The bytes are the name of a kind of findings of the number; there is nothing that could have errors.
abbrev pub IsFindingKindName : (number : ℕ) (name : List ℕ) (outcome : Outcome) → Type 0
IsFindingKindName number name outcome =
    (kind : FindingKind) × (finding_kind_number kind ≡ number) × (name ≡ finding_kind_name kind) × (outcome ≡ Clean)
