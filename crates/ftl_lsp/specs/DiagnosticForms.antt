-- What is reported of a document, as JSON values.
use Rattle.std.specs.Prelude.{◌≡◌, ◌==◌, ◌≤◌, if◌then◌else◌, ℕ, List, [], ◌∷◌, ◌++◌, map, codes, string_bytes, All}
use Rattle.std.specs.Fmt.{decimal}
use Rattle.std.specs.Prelude.{Bool, true, false, Option, Some, None}
use Rattle.std.specs.Global.{Global}
use Rattle.std.specs.declared.string.String.{String}
use Rattle.serde_json.specs.Data.{Data, number, unsigned, string, array, object, member, no_members, put}
use Rattle.serde_json.specs.Data.{item, no_items}
use Rattle.serde_json.specs.View.{items_of}
use Rattle.fluent_syntax_names.specs.Differences.{difference_name}
use Rattle.fluent_syntax_names.specs.Severities as finding
use Rattle.fluent_syntax_names.specs.declared.differences.Difference.TheVariants.{Obsolete, ObsoleteAttribute}
use Rattle.fluent_syntax_names.specs.declared.finding.Severity.{Severity}
use Rattle.fluent_syntax_names.specs.declared.finding.Severity.TheVariants.{Error, Warning}
use Rattle.ftl_files.specs.Levels as level
use Rattle.ftl_files.specs.declared.kinds.ReportedKind.{ReportedKind}
use Rattle.ftl_files.specs.declared.kinds.ReportedKind.TheVariants as kinds
use Rattle.ftl_files.specs.declared.levels.Levels.{Levels}
use Rattle.ftl_lsp.specs.Diagnostics.{DiagnosesText, shown}
use Rattle.ftl_lsp.specs.LeftOut.{left_out_sentence}
use Rattle.ftl_lsp.specs.Locations.{range_form}
use Rattle.ftl_lsp.specs.declared.diagnostics.Diagnostic.{Diagnostic}
use Rattle.ftl_lsp.specs.declared.diagnostics.RelatedNote.{RelatedNote}
use Rattle.ftl_lsp.specs.declared.documents.positions.PositionRange.{PositionRange}
use Rattle.ftl_lsp.specs.declared.diagnostics.diagnostic_forms.LintDiagnosticKind.{LintDiagnosticKind}
use Rattle.ftl_lsp.specs.declared.diagnostics.diagnostic_forms.LintDiagnosticKind.TheVariants.{Difference, Finding}
use Rattle.ftl_lsp.specs.declared.workspace.left_out.LeftOutReason.{LeftOutReason}

abbrev pub severity_number : Severity → ℕ
severity_number Error = 1
severity_number Warning = 2

abbrev pub diagnostic_form : PositionRange → Severity → (code message : List ℕ) → Data
diagnostic_form range severity code message =
    object (member (codes "code") (string code) (member (codes "message") (string message)
    (member (codes "range") (range_form range.start range.end)
    (member (codes "severity") (number (unsigned (severity_number severity)))
    (member (codes "source") (string (codes "ftl")) no_members)))))

-- the same with other places
abbrev pub diagnostic_with_related : PositionRange → Severity → (code message : List ℕ) → (positions : Data) → Data
diagnostic_with_related range severity code message positions =
    object (member (codes "code") (string code) (member (codes "message") (string message)
    (member (codes "range") (range_form range.start range.end) (member (codes "relatedInformation") positions
    (member (codes "severity") (number (unsigned (severity_number severity)))
    (member (codes "source") (string (codes "ftl")) no_members))))))

-- another place in the document with the name, and what is said of it
abbrev pub related_form : (uri : List ℕ) → PositionRange → (message : List ℕ) → Data
related_form uri range message =
    object (member (codes "location")
    (object (member (codes "range") (range_form range.start range.end) (member (codes "uri") (string uri) no_members)))
    (member (codes "message") (string message) no_members))

-- where a text begins
abbrev pub begin : PositionRange
begin = record { start = record { line = 0; character = 0 }; end = record { line = 0; character = 0 } }

-- ---- of errors

abbrev pub note_form : (uri : List ℕ) → RelatedNote → Data
note_form uri note = related_form uri note.range (string_bytes note.message)

-- with the other places, if there are some
abbrev pub error_with : PositionRange → (code message : List ℕ) → (places : List Data) → Data
error_with range code message [] = diagnostic_form range Error code message
error_with range code message (place ∷ places) =
    diagnostic_with_related range Error code message (array (items_of (place ∷ places)))

-- a sentence on a line of its own
abbrev pub further_line : Option (String Global) → List ℕ
further_line None = []
further_line (Some sentence) = codes "\n" ++ string_bytes sentence

-- for an editor that takes no other places
abbrev pub error_alone : PositionRange → Diagnostic → Data
error_alone range d = diagnostic_form range Error d.code.now (string_bytes d.message ++ further_line d.bracket)

abbrev pub range_of : Diagnostic → PositionRange
range_of d = record { start = d.start; end = d.end }

-- of an error of the document with the name, for an editor that takes other places or not
abbrev pub error_form : (uri : List ℕ) → (takes_related : Bool) → Diagnostic → Data
error_form uri true d =
    error_with (range_of d) d.code.now (string_bytes d.message) (map (note_form uri) d.related.items)
error_form uri false d = error_alone (range_of d) d

-- ---- besides the errors

-- as settings name it
abbrev pub reported_kind : LintDiagnosticKind → ReportedKind
reported_kind (Finding kind) = kinds.Finding kind
reported_kind (Difference difference) = kinds.Difference difference

abbrev pub severity_of : Levels → LintDiagnosticKind → Severity
severity_of levels kind = level.severity_of levels (reported_kind kind)

-- its name, as a command line has it: no error has one of these
abbrev pub code_of : LintDiagnosticKind → List ℕ
code_of (Finding kind) = finding.name_of kind
code_of (Difference difference) = difference_name difference

-- whether its range is the name of what is to go
abbrev pub is_faded : LintDiagnosticKind → Bool
is_faded (Difference Obsolete) = true
is_faded (Difference ObsoleteAttribute) = true
is_faded kind = false

-- the protocol's tags of what is unnecessary, which editors fade
abbrev pub unnecessary : Data
unnecessary = array (item (number (unsigned 1)) no_items)

abbrev pub with_tags : Data → Data
with_tags (object members) = object (put (codes "tags") unnecessary members)
with_tags form = form

abbrev pub tagged : LintDiagnosticKind → (form : Data) → Data
tagged kind form = if is_faded kind then with_tags form else form

-- The diagnostic of a finding, or of a difference from the original, as grave as some settings say; or, at the text's
-- begin, that its file is left out where names are looked for.
pub data IsLintDiagnostic : Data → Type 0 where
  alone : (range : PositionRange) (levels : Levels) (kind : LintDiagnosticKind) (message : List ℕ) →
      IsLintDiagnostic (tagged kind (diagnostic_form range (severity_of levels kind) (code_of kind) message))
  without_related : (range : PositionRange) (levels : Levels) (kind : LintDiagnosticKind) (message : List ℕ) →
      IsLintDiagnostic (diagnostic_form range (severity_of levels kind) (code_of kind) message)
  with_related : (range : PositionRange) (levels : Levels) (kind : LintDiagnosticKind) (message : List ℕ)
      (positions : Data) →
      IsLintDiagnostic (diagnostic_with_related range (severity_of levels kind) (code_of kind) message positions)
  left_out : (reason : LeftOutReason) →
      IsLintDiagnostic (diagnostic_form begin Warning (codes "left-out") (left_out_sentence (codes "the file") reason))

-- how many diagnostics are not published, in a sentence
abbrev pub more_sentence : ℕ → List ℕ
more_sentence n = decimal n ++ codes " more are not shown"

-- the diagnostic at the text's begin that says so, if there are some
abbrev pub count_list : ℕ → List Data
count_list n = if n == 0 then [] else diagnostic_form begin Warning (codes "more") (more_sentence n) ∷ []

-- The list has a diagnostic for each of the first errors of the text, in order, and after them those of findings and
-- differences, and of how many there are more of either. The other places of errors are in the document with the name.
pub record PublishesDiagnostics (uri t : List ℕ) (list : List Data) : Type 0 where
  pub takes_related : Bool
  pub errors : List Diagnostic
  pub more_errors : ℕ
  pub diagnoses : ∥ DiagnosesText t (map shown errors) more_errors ∥₁
  pub others : List Data
  pub lint_diagnostics : All IsLintDiagnostic others
  pub more : ℕ
  pub counts_errors : more_errors ≤ more
  pub publishes_each : list ≡ map (error_form uri takes_related) errors ++ (others ++ count_list more)
