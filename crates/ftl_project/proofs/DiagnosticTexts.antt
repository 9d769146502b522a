-- What is reported of diagnostics that are alike.
use Rattle.std.proofs.Common.{◌≡◌, ℕ, List, Option, Result, Ok, Err, string_bytes, subst}
use Rattle.std.specs.Global.{Global}
use Rattle.std.specs.Prelude.{IfOk, String, slice_get}
use Rattle.fluent_syntax_names.specs.Severities.{name_of}
use Rattle.fluent_syntax_names.specs.declared.finding.Finding.{Finding}
use Rattle.fluent_syntax_names.specs.declared.name_index.NameIndex.{NameIndex}
use Rattle.ftl_project.specs.Linting.{IsFindingReport, location_in, name_in, path_of, text_of}
use Rattle.ftl_project.specs.Diagnostics.{IsDiagnostic}
use Rattle.ftl_project.specs.declared.linting.findings.Source.{Source}
use Rattle.ftl_files.specs.declared.options.Form.{Form}
use Rattle.ftl_project.specs.declared.reporting.diagnostics.SourceLocation.{SourceLocation}

pub IsDiagnostic-as : (form : Form) (path own : List ℕ) (place : Option SourceLocation)
    (kind own_kind : List ℕ) (name : Option (List ℕ)) (message words report_text : List ℕ) →
    path ≡ own → kind ≡ own_kind → message ≡ words → IsDiagnostic form path place kind name message report_text →
    IsDiagnostic form own place own_kind name words report_text
IsDiagnostic-as form path own place kind own_kind name message words report_text same_path same_kind same_message
    diagnostic =
    subst (λ p. IsDiagnostic form p place own_kind name words report_text) same_path
    (subst (λ k. IsDiagnostic form path place k name words report_text) same_kind
    (subst (λ m. IsDiagnostic form path place kind name m report_text) same_message diagnostic))

pub report_of_equal_parts_is_report : {E : Type 0} (result : Result (String Global) E) (form : Form) (path own : List ℕ)
    (place : Option SourceLocation) (kind own_kind : List ℕ) (name : Option (List ℕ)) (message words : List ℕ) →
    path ≡ own → kind ≡ own_kind → message ≡ words →
    IfOk result (λ report_text. IsDiagnostic form path place kind name message (string_bytes report_text)) →
    IfOk result (λ report_text. IsDiagnostic form own place own_kind name words (string_bytes report_text))
report_of_equal_parts_is_report (Ok report_text) form path own place kind own_kind name message words same_path
    same_kind same_message
    diagnostic =
    IsDiagnostic-as form path own place kind own_kind name message words
    (string_bytes report_text) same_path same_kind same_message
    diagnostic
report_of_equal_parts_is_report (Err error) form path own place kind own_kind name message words same_path same_kind
    same_message
    diagnostic = tt

-- What is reported of a finding in the file that has it.
pub IsFindingReport-as : (form : Form) (sources : List Source) (name_indexes : List NameIndex) (finding : Finding)
    (path text report_text : List ℕ) → path ≡ path_of (slice_get sources finding.file) →
    text ≡ text_of (slice_get name_indexes finding.file) →
    ((message : List ℕ) × IsDiagnostic form path (location_in text finding.place)
    (name_of finding.kind) (name_in text finding.place) message report_text) →
    IsFindingReport form sources name_indexes finding report_text
IsFindingReport-as form sources name_indexes finding path text report_text same_path same_text that = (
  that.0,
  subst (λ t. IsDiagnostic form (path_of (slice_get sources finding.file)) (location_in t finding.place)
      (name_of finding.kind) (name_in t finding.place) that.0 report_text) same_text
      (subst (λ p. IsDiagnostic form p (location_in text finding.place)
      (name_of finding.kind) (name_in text finding.place) that.0 report_text) same_path
      that.1),
)
