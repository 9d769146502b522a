-- What is found in texts, as rows.
use Rattle.std.specs.Prelude.{◌≡◌, ℕ, List, [], length, map, min, Option, Some, None, slice_get}
use Rattle.fluent_syntax_tree.specs.declared.spans.Span.{Span}
use Rattle.fluent_syntax_names.specs.Findings.{all_findings}
use Rattle.fluent_syntax_names.specs.declared.finding.Finding.{Finding}
use Rattle.fluent_syntax_names.specs.declared.finding.Place.{Place as NamePlace}
use Rattle.fluent_syntax_names.specs.declared.name_index.NameIndex.{NameIndex}
use Rattle.ftl.specs.declared.outcome.Outcome.{Outcome}
use Rattle.fluent_syntax_c.specs.Columns.{position_at}
use Rattle.fluent_syntax_c.specs.FindingKinds.{finding_kind_number, finding_kind_severity, severity_number}
use Rattle.fluent_syntax_c.specs.NameIndexes.{AreNameIndexes}
use Rattle.fluent_syntax_c.specs.declared.findings.FtlFinding.{FtlFinding}
use Rattle.fluent_syntax_c.specs.declared.finding_kinds.FindingKind.{FindingKind}
use Rattle.fluent_syntax_c.specs.declared.finding_kinds.FindingKind.TheVariants.{Within}
use Rattle.fluent_syntax_c.specs.declared.name_indexes.FtlText.{FtlText}

-- no range
abbrev pub nowhere : Span
nowhere = record { start = 0; end = 0 }

abbrev pub span_or_none : Option Span → Span
span_or_none None = nowhere
span_or_none (Some span) = span

abbrev pub place_or_none : Option NamePlace → NamePlace
place_or_none None = record { file = 0; span = nowhere }
place_or_none (Some place) = place

-- the row of what is found at a name of the text, which has this number; its line and its columns are those of the
-- name, or of the text's end where that comes first
abbrev pub finding_row_of : FindingKind → (number : ℕ) → (text : List ℕ) → Span → Option NamePlace → FtlFinding
finding_row_of kind number text name other =
    let place = position_at text (min name.start (length text)) in let first = place_or_none other in record {
      text = number;
      line = place.line;
      column = place.column;
      column_utf16 = place.column_utf16;
      column_characters = place.column_characters;
      start = name.start;
      end = name.end;
      other_text = first.file;
      other_start = first.span.start;
      other_end = first.span.end;
      kind = finding_kind_number kind;
      severity = severity_number (finding_kind_severity kind);
    }

abbrev pub text_or_none : Option NameIndex → List ℕ
text_or_none None = []
text_or_none (Some name_index) = name_index.text.now

-- the text of the number; none where there is no such text
abbrev pub text_at : List NameIndex → ℕ → List ℕ
text_at name_indexes number = text_or_none (slice_get name_indexes number)

abbrev pub finding_row : List NameIndex → Finding → FtlFinding
finding_row name_indexes finding =
    finding_row_of (Within finding.kind) finding.file (text_at name_indexes finding.file) (span_or_none finding.place)
    finding.other

-- The texts are UTF-8, and the rows are those of all that is found in what they say of names, by the edition of the
-- number, with the outcome of all.
pub record AreFindings (number : ℕ) (texts : List FtlText) (rows : List FtlFinding) (outcome : Outcome) : Type 0 where
  pub name_indexes : List NameIndex
  pub are_name_indexes : AreNameIndexes number texts name_indexes outcome
  pub rows_are : rows ≡ map (finding_row name_indexes) (all_findings name_indexes)
