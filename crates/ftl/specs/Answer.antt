-- The text that a command writes of a source, and what was found in it.
use Rattle.std.specs.Prelude.{◌≡◌, ℕ, List, [], ◌∷◌, ◌++◌, codes, false, unwrap_or, Option, Some, None}
use Rattle.std.specs.Fmt.{decimal}
use Rattle.std.specs.List.{flat_map}
use Rattle.std.specs.Str.{IsUtf8}
use Rattle.fluent_syntax_tree.specs.Entry.{body_map}
use Rattle.fluent_syntax_tree.specs.Kind.{kind_name, kind_of}
use Rattle.fluent_syntax_tree.specs.Spans.{bytes_at}
use Rattle.fluent_syntax_tree.specs.declared.edition.Edition.TheVariants.{One, Two}
use Rattle.fluent_syntax_tree.specs.declared.errors.ParserError.{ParserError}
use Rattle.fluent_syntax_tree.specs.declared.spans.Span.{Span}
use Rattle.fluent_syntax_grammar.specs.Body.{faults, body}
use Rattle.fluent_syntax_grammar.specs.Nesting.{NestsDeeper, RuntimeNestsDeeper}
use Rattle.fluent_syntax_grammar.specs.Tiling.{Fault, Tile, Tiling, RuntimeTiling}
use Rattle.fluent_syntax_grammar.specs.Written.{written}
use Rattle.fluent_syntax_json.specs.Form.{body_form}
use Rattle.serde_json.specs.Written.{compact_text}
use Rattle.fluent_syntax.specs.Lines.{line_at, column_at}
use Rattle.ftl.specs.declared.command.Command.{Command}
use Rattle.ftl.specs.declared.command.Command.TheVariants.{Check, Format, Runtime, Json, CheckTwo, FormatTwo}
use Rattle.ftl.specs.declared.outcome.Outcome.{Outcome}
use Rattle.ftl.specs.declared.outcome.Outcome.TheVariants.{Clean, SyntaxErrors}

-- a range in bytes and a space
abbrev pub range_text : Span → List ℕ
range_text s = decimal s.start ++ codes ".." ++ decimal s.end ++ codes " "

-- the line of an error: its line and column, its place and its junk in bytes, and the name of its kind; all numbers
-- decimal
abbrev pub error_text : (line column : ℕ) → Fault → List ℕ
error_text line column f =
    decimal line ++ codes ":" ++ decimal column ++ codes " " ++ range_text f.pos ++ range_text f.slice ++
    kind_name f.kind ++ codes "\n"

-- what an error reports, with its place for the junk where it has none
abbrev pub error_fault : ParserError → Fault
error_fault e = record {
  kind = kind_of e.kind;
  pos = record { start = e.pos.start; end = e.pos.end };
  slice = record { start = (unwrap_or e.slice e.pos).start; end = (unwrap_or e.slice e.pos).end };
}

module _ (t : List ℕ) where
  -- the line of an error of the source
  abbrev pub error_line : Fault → List ℕ
  error_line f = error_text (line_at t f.pos.start) (column_at t f.pos.start) f

  -- a line for each error of the tiles, in order
  abbrev pub error_lines : List Tile → List ℕ
  error_lines tiles = flat_map error_line (faults tiles)

  -- the text of the tree of the tiles, without its junk
  abbrev pub normal_text : List Tile → List ℕ
  normal_text tiles = written false (body_map (bytes_at t) (body tiles))

  -- the compact text of the JSON form of the tree of the tiles, and a line end
  abbrev pub json_text : List Tile → List ℕ
  json_text tiles = compact_text (body_form (body_map (bytes_at t) (body tiles))) ++ codes "\n"

-- whether there are errors
abbrev pub outcome_with : List Fault → Outcome
outcome_with [] = Clean
outcome_with (f ∷ fs) = SyntaxErrors

-- the outcome of what was found so far and of an entry after it, with the entry's error if there is one
abbrev pub outcome_after : Outcome → Option ParserError → Outcome
outcome_after outcome None = outcome
outcome_after outcome (Some error) = SyntaxErrors

-- the outcome of a source with these tiles
abbrev pub outcome_of : List Tile → Outcome
outcome_of tiles = outcome_with (faults tiles)

-- The source has these tiles, read as the command reads it.
abbrev pub HasTiles : Command → List ℕ → List Tile → Type 0
HasTiles Check t tiles = Tiling One t tiles
HasTiles Format t tiles = Tiling One t tiles
HasTiles Runtime t tiles = RuntimeTiling One t tiles
HasTiles Json t tiles = Tiling One t tiles
HasTiles CheckTwo t tiles = Tiling Two t tiles
HasTiles FormatTwo t tiles = Tiling Two t tiles

-- The source nests deeper than n, read as the command reads it.
abbrev pub ReadsDeeper : Command → List ℕ → (n : ℕ) → Type 0
ReadsDeeper Check t n = NestsDeeper One t n
ReadsDeeper Format t n = NestsDeeper One t n
ReadsDeeper Runtime t n = RuntimeNestsDeeper One t n
ReadsDeeper Json t n = NestsDeeper One t n
ReadsDeeper CheckTwo t n = NestsDeeper Two t n
ReadsDeeper FormatTwo t n = NestsDeeper Two t n

-- the command's text of a source with these tiles
abbrev pub text_of : Command → List ℕ → List Tile → List ℕ
text_of Check t tiles = error_lines t tiles
text_of Format t tiles = normal_text t tiles
text_of Runtime t tiles = normal_text t tiles
text_of Json t tiles = json_text t tiles
text_of CheckTwo t tiles = error_lines t tiles
text_of FormatTwo t tiles = normal_text t tiles

-- The source is UTF-8, and the text and the outcome are the command's of it.
pub record IsAnswer (command : Command) (t : List ℕ) (text : List ℕ) (outcome : Outcome) : Type 0 where
  pub is_utf8 : IsUtf8 t
  pub tiles : List Tile
  pub has_tiles : HasTiles command t tiles
  pub text_is : text ≡ text_of command t tiles
  pub outcome_is : outcome ≡ outcome_of tiles
