-- Errors as rows.
use Rattle.std.specs.Prelude.{◌≡◌, ℕ, List, map}
use Rattle.fluent_syntax_tree.specs.declared.edition.Edition.{Edition}
use Rattle.fluent_syntax_grammar.specs.Body.{faults}
use Rattle.fluent_syntax_grammar.specs.Tiling.{Fault, Tile}
use Rattle.fluent_syntax_c.specs.Columns.{position_at}
use Rattle.fluent_syntax_c.specs.Kinds.{kind_number}
use Rattle.fluent_syntax_c.specs.declared.columns.Position.{Position}
use Rattle.fluent_syntax_c.specs.declared.errors.FtlError.{FtlError}

-- the row of an error at a place
abbrev pub row_at : Position → Fault → FtlError
row_at position f = record {
  line = position.line;
  column = position.column;
  column_utf16 = position.column_utf16;
  column_characters = position.column_characters;
  start = f.pos.start;
  end = f.pos.end;
  junk_start = f.slice.start;
  junk_end = f.slice.end;
  kind = kind_number f.kind;
}

-- the row of an error of the source
abbrev pub error_row : List ℕ → Fault → FtlError
error_row t f = row_at (position_at t f.pos.start) f

-- The rows are those of the errors of the tiles, in order.
abbrev pub are_errors : Edition → List ℕ → List Tile → List FtlError → Type 0
are_errors edition t tiles rows = rows ≡ map (error_row t) (faults tiles)
