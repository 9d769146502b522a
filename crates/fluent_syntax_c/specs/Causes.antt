-- Causes of errors, as rows and as lines. Which cause an error has is not said.
use Rattle.std.specs.Prelude.{◌≡◌, ◌++◌, ℕ, List, Option, Some, None, codes, length, map, min, string_bytes}
use Rattle.std.specs.List.{flat_map}
use Rattle.fluent_syntax_tree.specs.Kind.{kind_of}
use Rattle.fluent_syntax_tree.specs.declared.edition.Edition.{Edition}
use Rattle.fluent_syntax_tree.specs.declared.errors.ErrorKind.{ErrorKind}
use Rattle.fluent_syntax_grammar.specs.Body.{faults}
use Rattle.fluent_syntax_grammar.specs.Tiling.{Tile}
use Rattle.ftl.specs.declared.causes.Cause.{Cause}
use Rattle.fluent_syntax_c.specs.Columns.{position_at}
use Rattle.fluent_syntax_c.specs.Kinds.{kind_number}
use Rattle.fluent_syntax_c.specs.Messages.{shown}
use Rattle.fluent_syntax_c.specs.declared.causes.FtlCause.{FtlCause}

-- the number of the kind; 0 where there is none
abbrev pub kind_number_or_none : Option ErrorKind → ℕ
kind_number_or_none None = 0
kind_number_or_none (Some kind) = kind_number (kind_of kind)

-- the row of a cause of the source, with the line and the columns of its start, or of the text's end where that comes
-- first; where there is none, all are 0
abbrev pub cause_row : List ℕ → Option Cause → FtlCause
cause_row t None = record {
  line = 0;
  column = 0;
  column_utf16 = 0;
  column_characters = 0;
  start = 0;
  end = 0;
  kind = 0;
}
cause_row t (Some cause) = let place = position_at t (min cause.start (length t)) in record {
  line = place.line;
  column = place.column;
  column_utf16 = place.column_utf16;
  column_characters = place.column_characters;
  start = cause.start;
  end = cause.end;
  kind = kind_number_or_none cause.kind;
}

-- what is said of a cause, on a line of its own, which is empty where there is none
abbrev pub cause_line : Option Cause → List ℕ
cause_line None = codes "\n"
cause_line (Some cause) = shown (string_bytes cause.message) ++ codes "\n"

-- The rows are those of causes, one of each error of the tiles.
pub record AreCauses (edition : Edition) (t : List ℕ) (tiles : List Tile) (rows : List FtlCause) : Type 0 where
  pub causes : List (Option Cause)
  pub as_many : length causes ≡ length (faults tiles)
  pub rows_are : rows ≡ map (cause_row t) causes

-- The lines are those of causes, one of each error of the tiles.
pub record AreCauseMessages (edition : Edition) (t : List ℕ) (tiles : List Tile) (lines : List ℕ) : Type 0 where
  pub causes : List (Option Cause)
  pub as_many : length causes ≡ length (faults tiles)
  pub lines_are : lines ≡ flat_map cause_line causes
