-- What is reported of the errors of a text.
use Rattle.std.specs.Prelude.{ℕ, List}
use Rattle.fluent_syntax_tree.specs.Kind.{kind_name, kind_of}
use Rattle.fluent_syntax_tree.specs.declared.errors.ParserError.{ParserError}
use Rattle.fluent_syntax_tree.specs.declared.spans.Span.{Span}
use Rattle.std.specs.Prelude.{None, Some}
use Rattle.ftl_project.specs.Diagnostics.{IsDiagnostic, ReportsEach, location_at}
use Rattle.ftl_files.specs.declared.options.Form.{Form}

-- where the error is
abbrev pub error_span : ParserError → Span
error_span error = record { start = error.pos.start; end = error.pos.end }

-- This is reported of the error, in the file's text.
abbrev pub IsErrorReport : Form → (path text : List ℕ) → ParserError → (report_text : List ℕ) → Type 0
IsErrorReport form path text error report_text = (message : List ℕ)
    × IsDiagnostic form path (Some (location_at text (error_span error)))
    (kind_name (kind_of error.kind)) None message report_text

-- This is reported of each error, in order.
abbrev pub Reports : Form → (path text : List ℕ) → List ParserError → (report_text : List ℕ) → Type 0
Reports form path text errors report_text = ReportsEach (IsErrorReport form path text) errors report_text
