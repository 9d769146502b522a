-- The names of messages, terms and attributes as rows.
use Rattle.std.specs.Prelude.{◌≡◌, ◌+◌, ◌++◌, ℕ, List, [], ◌∷◌, length, map}
use Rattle.fluent_syntax_tree.specs.Entry.{AttributeTree, EntryTree, message, term, comment, junk}
use Rattle.fluent_syntax_tree.specs.declared.edition.Edition.{Edition}
use Rattle.fluent_syntax_tree.specs.declared.spans.Span.{Span}
use Rattle.fluent_syntax_grammar.specs.Tiling.{Tile, Tiling, dropped, entry, refused}
use Rattle.fluent_syntax_c.specs.Columns.{position_at}
use Rattle.fluent_syntax_c.specs.declared.names.FtlName.{FtlName}
use Rattle.fluent_syntax_c.specs.declared.names.Named.{Named}
use Rattle.fluent_syntax_c.specs.declared.names.Named.TheVariants.{Message, Term, Attribute}

-- the number of what is named
abbrev pub named_number : Named → ℕ
named_number Message = 1
named_number Term = 2
named_number Attribute = 3

module _ (t : List ℕ) where
  -- the row of a name; `owner` is the number of the row of its message or term, from 0, which is at `whole`
  abbrev pub name_row : Named → (owner : ℕ) → (whole : Span) → Span → FtlName
  name_row named owner whole name = let place = position_at t name.start in record {
    line = place.line;
    column = place.column;
    column_utf16 = place.column_utf16;
    column_characters = place.column_characters;
    start = name.start;
    end = name.end;
    owner = owner;
    entry_start = whole.start;
    entry_end = whole.end;
    kind = named_number named;
  }

  -- the row of an attribute
  abbrev pub attribute_row : (owner : ℕ) → (whole : Span) → AttributeTree Span → FtlName
  attribute_row owner whole a = name_row Attribute owner whole a.id

  -- the rows of a message or a term: its own, which has this number, and those of its attributes
  abbrev pub owner_rows : Named → (number : ℕ) → (whole : Span) → Span → List (AttributeTree Span) → List FtlName
  owner_rows named number whole name attributes =
      name_row named number whole name ∷ map (attribute_row number whole) attributes

  -- the rows of an entry that is there, the first of which has this number
  abbrev pub entry_rows : ℕ → (whole : Span) → EntryTree Span → List FtlName
  entry_rows number whole (message m) = owner_rows Message number whole m.id m.attributes
  entry_rows number whole (term m) = owner_rows Term number whole m.id m.attributes
  entry_rows number whole (comment level lines) = []
  entry_rows number whole (junk s) = []

  -- the rows of a tile
  abbrev pub tile_rows : ℕ → Tile → List FtlName
  tile_rows number (entry whole e) = entry_rows number whole e
  tile_rows number (refused f) = []
  tile_rows number dropped = []

  -- the rows of the tiles, in order
  abbrev pub tiles_rows : ℕ → List Tile → List FtlName
  tiles_rows number [] = []
  tiles_rows number (tile ∷ tiles) =
      tile_rows number tile ++ tiles_rows (number + length (tile_rows number tile)) tiles

-- The rows are those of the names of the source's tiling by the edition.
pub record NamesTiles (edition : Edition) (t : List ℕ) (rows : List FtlName) : Type 0 where
  pub tiles : List Tile
  pub has_tiles : Tiling edition t tiles
  pub rows_are : rows ≡ tiles_rows t 0 tiles

-- The rows are those of the names of the tiles, in order.
abbrev pub are_names : Edition → List ℕ → List Tile → List FtlName → Type 0
are_names edition t tiles rows = rows ≡ tiles_rows t 0 tiles
