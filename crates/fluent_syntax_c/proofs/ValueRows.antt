-- Rows of values.
use Rattle.std.proofs.Common.{◌≡◌, ◌++◌, [], ◌∷◌, ℕ, List, Option, Some, None, length}
use Rattle.std.proofs.Common.{sym, subst, append_assoc, append-nil}
use Rattle.std.specs.Global.{Global}
use Rattle.std.specs.Prelude.{Vec, Result, Ok, Err, IfOk}
use Rattle.fluent_syntax_tree.specs.declared.edition.Edition.{Edition}
use Rattle.fluent_syntax_tree.specs.declared.spans.Span.{Span}
use Rattle.fluent_syntax_grammar.specs.Grammar.{family}
use Rattle.fluent_syntax_grammar.specs.Places.{BlankBlock}
use Rattle.fluent_syntax_grammar.specs.Tiling.{Tile, Tiled, TileAt, Tiling, done, entry, next, reads, refuses}
use Rattle.fluent_syntax_grammar.proofs.FunctionalEntries.{entry_is_functional}
use Rattle.fluent_syntax_grammar.proofs.OneTiling.{tilings_of_text_are_same}
use Rattle.fluent_syntax_parser.specs.PartRanges.{HasEntryParts, HasRanges}
use Rattle.fluent_syntax_parser.specs.Tiles.{TileTo}
use Rattle.fluent_syntax_parser.specs.declared.ranges.EntryRanges.{EntryRanges}
use Rattle.fluent_syntax_parser.specs.declared.tiles.SpannedTile.{SpannedTile}
use Rattle.fluent_syntax_c.specs.Values.{AddsValues, TileValues, TilesValues, ValuesTiling, values_of_entry}
use Rattle.fluent_syntax_c.specs.Values.{no_more, of_comment, of_entry, of_junk, one_more}
use Rattle.fluent_syntax_c.specs.declared.values.FtlValue.{FtlValue}

module _ (edition : Edition) (t : List ℕ) where
  -- one more tile's rows
  values_of_tiles_append : {tiles : List Tile} {rows : List FtlValue} {tile : Tile} {own : List FtlValue} →
      TilesValues edition t tiles rows → TileValues edition t tile own →
      TilesValues edition t (tiles ++ (tile ∷ [])) (rows ++ own)
  values_of_tiles_append {tile = tile} {own = own} no_more last =
      subst (TilesValues edition t (tile ∷ [])) (append-nil own) (one_more last no_more)
  values_of_tiles_append {tile = tile} {own = own}
      (one_more {tile = x} {tiles = xs} {own = first} {others = others} h more) last =
      subst (TilesValues edition t (x ∷ (xs ++ (tile ∷ [])))) (sym (append_assoc first others own))
      (one_more h (values_of_tiles_append more last))

  -- what is found where a tile begins gives the tile's rows
  tile_has_values_of_its_ranges : (s : Span) (tile : Tile) (found : Option EntryRanges) →
      TileAt edition t s.start s.end tile →
      HasRanges edition t s.start found → TileValues edition t tile (values_of_entry found)
  tile_has_values_of_its_ranges s tile None (reads {e = e} r) has =
      let here = has e s.end r in
      subst (λ tree. TileValues edition t (entry s tree) []) (sym here.2) of_comment
  tile_has_values_of_its_ranges s tile None (refuses r end) has = of_junk
  tile_has_values_of_its_ranges s tile (Some x) (reads {e = e} r) has =
      let same = (entry_is_functional edition t).same s.start _ _ has.read r in
      let same_tree : has.tree ≡ e = cc in
      let same_end : has.end ≡ s.end = cc in
      of_entry
      (subst (λ tree. HasEntryParts edition t (family edition t) s.start x tree s.end) same_tree
      (subst (HasEntryParts edition t (family edition t) s.start x has.tree) same_end has.parts))
  tile_has_values_of_its_ranges s tile (Some x) (refuses r end) has =
      let same = (entry_is_functional edition t).same s.start _ _ has.read r in cc

  -- The rows are those of tiles that lead up to the place i.
  pub record HasValueRowsBefore (i : ℕ) (rows : List FtlValue) : Type 0 where
    pub tiles : List Tile
    pub values : TilesValues edition t tiles rows
    pub whole : (more : List Tile) → Tiled t (TileAt edition t) i more → Tiled t (TileAt edition t) 0 (tiles ++ more)

  pub no_value_rows_are_before_start : HasValueRowsBefore 0 []
  no_value_rows_are_before_start = record { tiles = []; values = no_more; whole = λ more tiled. tiled }

  -- the rows of what was found after those before it
  pub value_rows_grow_by_tile_values : (i j : ℕ) (found : SpannedTile) (before after : List FtlValue) →
      HasValueRowsBefore i before →
      TileTo edition t i j found → AddsValues edition t found.span.start before after → HasValueRowsBefore j after
  value_rows_grow_by_tile_values i j found before after values to adds = record {
    tiles = values.tiles ++ (to.tile ∷ []);
    values =
        subst (TilesValues edition t (values.tiles ++ (to.tile ∷ []))) (sym adds.2)
        (values_of_tiles_append values.values
        (tile_has_values_of_its_ranges found.span to.tile adds.0 to.in_place adds.1));
    whole = λ more tiled.
        subst (Tiled t (TileAt edition t) 0) (sym (append_assoc values.tiles (to.tile ∷ []) more))
        (values.whole (to.tile ∷ more)
        (next to.blank to.inside to.in_place (subst (λ k. Tiled t (TileAt edition t) k more) to.ends tiled)));
  }

  -- the rows of the whole text, where nothing but a blank block is left
  pub value_rows_at_end_are_values_of_tiling : (i : ℕ) (rows : List FtlValue) → HasValueRowsBefore i rows →
      BlankBlock t i (length t) → ValuesTiling edition t rows
  value_rows_at_end_are_values_of_tiling i rows values blank = record {
    tiles = values.tiles;
    has_tiles = subst (Tiled t (TileAt edition t) 0) (append-nil values.tiles) (values.whole [] (done blank));
    values = values.values;
  }

-- the rows of a tiling of the text are those of each
pub tiling_has_its_values : {E : Type 0} (edition : Edition) (t : List ℕ) (tiles : List Tile) → Tiling edition t tiles →
    (answer : Result (Vec FtlValue Global) E) → IfOk answer (λ rows. ValuesTiling edition t rows.items) →
    IfOk answer (λ rows. TilesValues edition t tiles rows.items)
tiling_has_its_values edition t tiles tiling (Ok rows) found =
    subst (λ ts. TilesValues edition t ts rows.items)
    (tilings_of_text_are_same edition t found.tiles tiles found.has_tiles tiling) found.values
tiling_has_its_values edition t tiles tiling (Err e) found = found
