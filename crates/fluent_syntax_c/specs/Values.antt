-- Where the values of messages, terms and attributes are, as rows.
use Rattle.std.specs.Prelude.{◌≡◌, ◌++◌, ℕ, List, [], ◌∷◌, map, Option, Some, None}
use Rattle.fluent_syntax_tree.specs.Entry.{EntryTree, Level, comment}
use Rattle.fluent_syntax_tree.specs.declared.edition.Edition.{Edition}
use Rattle.fluent_syntax_tree.specs.declared.spans.Span.{Span}
use Rattle.fluent_syntax_grammar.specs.Grammar.{family}
use Rattle.fluent_syntax_grammar.specs.Tiling.{Fault, Tile, Tiling, entry, refused}
use Rattle.fluent_syntax_parser.specs.PartRanges.{HasEntryParts, HasRanges}
use Rattle.fluent_syntax_parser.specs.declared.ranges.EntryRanges.{EntryRanges}
use Rattle.fluent_syntax_c.specs.declared.values.FtlValue.{FtlValue}

-- the row of a value that is there; of none both are 0
abbrev pub value_row : Option Span → FtlValue
value_row None = record { start = 0; end = 0 }
value_row (Some s) = record { start = s.start; end = s.end }

-- the rows of a message or a term with these parts: its own, and those of its attributes
abbrev pub entry_values : EntryRanges → List FtlValue
entry_values x = value_row x.value ∷ map (λ a. value_row (Some a.value)) x.attributes.items

-- the rows of what was found at a place, if it is a message or a term
abbrev pub values_of_entry : Option EntryRanges → List FtlValue
values_of_entry None = []
values_of_entry (Some x) = entry_values x

-- Those of the message or the term that begins at the place, if one does, came after the others.
abbrev pub AddsValues : Edition → List ℕ → (start : ℕ) → (before after : List FtlValue) → Type 0
AddsValues edition t start before after =
    (found : Option EntryRanges) × HasRanges edition t start found × (after ≡ before ++ values_of_entry found)

module _ (edition : Edition) (t : List ℕ) where
  -- The rows are those of the tile: of a message or a term with its parts where they are, and of others none.
  pub data TileValues : Tile → List FtlValue → Type 0 where
    of_entry : {whole : Span} {e : EntryTree Span} {x : EntryRanges} →
        HasEntryParts edition t (family edition t) whole.start x e whole.end →
        TileValues (entry whole e) (entry_values x)
    of_comment : {whole : Span} {level : Level} {content : List Span} →
        TileValues (entry whole (comment level content)) []
    of_junk : {fault : Fault} → TileValues (refused fault) []

  -- The rows are those of the tiles, in order.
  pub data TilesValues : List Tile → List FtlValue → Type 0 where
    no_more : TilesValues [] []
    one_more : {tile : Tile} {tiles : List Tile} {own others : List FtlValue} → TileValues tile own →
        TilesValues tiles others → TilesValues (tile ∷ tiles) (own ++ others)

-- The rows are those of the values of the source's tiling by the edition.
pub record ValuesTiling (edition : Edition) (t : List ℕ) (rows : List FtlValue) : Type 0 where
  pub tiles : List Tile
  pub has_tiles : Tiling edition t tiles
  pub values : TilesValues edition t tiles rows
