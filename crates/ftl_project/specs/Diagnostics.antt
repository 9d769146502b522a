-- What is reported of what is found in a file.
use Rattle.std.specs.Prelude.{◌≡◌, ◌++◌, ℕ, List, [], ◌∷◌, Option, None, Some, codes}
use Rattle.std.specs.Prelude.{length, min}
use Rattle.std.specs.Fmt.{decimal}
use Rattle.fluent_syntax.specs.Lines.{column_at, line_at}
use Rattle.fluent_syntax_tree.specs.declared.spans.Span.{Span}
use Rattle.ftl_project.specs.Excerpt.{shown_text}
use Rattle.ftl_files.specs.declared.options.Form.{Form}
use Rattle.ftl_files.specs.declared.options.Form.TheVariants.{Lines}
use Rattle.ftl_project.specs.declared.reporting.diagnostics.SourceLocation.{SourceLocation}

-- where a name is in a text: with its line and its column, or those of the text's end where that comes first
abbrev pub location_at : (text : List ℕ) → Span → SourceLocation
location_at text name = record {
  line = line_at text (min name.start (length text));
  column = column_at text (min name.start (length text));
  start = name.start;
  end = name.end;
}

-- a place in a file: its path as it is shown, its line and its column
abbrev pub place_of : (path : List ℕ) (line column : ℕ) → List ℕ
place_of path line column = shown_text path ++ (codes ":" ++ (decimal line ++ (codes ":" ++ decimal column)))

-- the path as it is shown, with the line and the column where there is a place
abbrev pub place_or_path : (path : List ℕ) → Option SourceLocation → List ℕ
place_or_path path None = shown_text path
place_or_path path (Some location) = place_of path location.line location.column

-- the message, where there is no place
abbrev pub message_part : Option SourceLocation → (message : List ℕ) → List ℕ
message_part None message = codes ": " ++ shown_text message
message_part (Some location) message = []

-- the name that it is about, where there is one
abbrev pub name_part : Option (List ℕ) → List ℕ
name_part None = []
name_part (Some name) = codes " " ++ shown_text name

-- the line of a diagnostic
abbrev pub diagnostic_line : (path : List ℕ) → Option SourceLocation → (kind : List ℕ) → (name : Option (List ℕ)) →
    (message : List ℕ) → List ℕ
diagnostic_line path place kind name message =
    place_or_path path place
    ++ (codes ": " ++ (kind ++ (name_part name ++ (message_part place message ++ codes "\n"))))

-- This is reported of what was found in a file, in the form of lines. The other forms are for people or other tools.
abbrev pub IsDiagnostic : Form → (path : List ℕ) → Option SourceLocation → (kind : List ℕ) → (name : Option (List ℕ)) →
    (message report_text : List ℕ) → Type 0
IsDiagnostic Lines path place kind name message report_text = report_text ≡ diagnostic_line path place kind name message
IsDiagnostic _ path place kind name message report_text = Unit {0}

-- Of each this is reported, one after another.
pub data ReportsEach {A : Type 0} (Is : A → List ℕ → Type 0) : List A → (report_text : List ℕ) → Type 0 where
  nothing : ReportsEach Is [] []
  then_report : {items : List A} {report_text : List ℕ} → (item : A) (text : List ℕ) → ReportsEach Is items report_text
      → Is item text →
      ReportsEach Is (items ++ (item ∷ [])) (report_text ++ text)
