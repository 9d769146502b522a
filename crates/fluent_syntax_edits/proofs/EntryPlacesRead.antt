-- The places of what was read up to a place.
use Rattle.std.proofs.Common.{◌≡◌, ℕ, List, [], ◌∷◌, ◌++◌, length, Option, Some, ◌∙◌, ap, subst}
use Rattle.fluent_syntax_tree.specs.Entry.{junk}
use Rattle.fluent_syntax_tree.specs.declared.ast.Entry.{Entry}
use Rattle.fluent_syntax_tree.specs.declared.edition.Edition.{Edition}
use Rattle.fluent_syntax_tree.specs.declared.errors.ParserError.{ParserError}
use Rattle.fluent_syntax_tree.specs.declared.spans.Span.{Span}
use Rattle.fluent_syntax_grammar.specs.Places.{BlankBlock}
use Rattle.fluent_syntax_grammar.specs.Tiling.{Tile, Tiled, TileAt, Tiling, done, next, reads, refuses}
use Rattle.fluent_syntax_parser.specs.Rest.{tree_of}
use Rattle.fluent_syntax_parser.specs.Tiles.{Gives, TileTo}
use Rattle.fluent_syntax_parser.specs.declared.tiles.SpannedTile.{SpannedTile}
use Rattle.fluent_syntax_edits.specs.EntryPlaces.{HasEntryPlaces, entry_place, entry_place_of, entry_places}
use Rattle.fluent_syntax_edits.specs.EntryPlaces.{entry_places_after}
use Rattle.fluent_syntax_edits.specs.declared.entry_places.EntryPlace.{EntryPlace}

module _ (edition : Edition) (t : List ℕ) where
  -- Whatever the tiles from the place on are: these places, the last one, and those of the tiles are the text's.
  pub record HasEntryPlacesBefore (i : ℕ) (ps : List EntryPlace) (last : Option EntryPlace) : Type 0 where
    pub whole : (more : List Tile) → Tiled t (TileAt edition t) i more →
        (tiles : List Tile) × Tiling edition t tiles × (ps ++ entry_places_after last more ≡ entry_places tiles)

  tile_of_entry_has_its_entry_place : (s : Span) (tile : Tile) (e : Entry Span) (error : Option ParserError) →
      TileAt edition t s.start s.end tile → Gives tile e error →
      entry_place_of tile ≡ entry_place s (tree_of e)
  tile_of_entry_has_its_entry_place s tile e error (reads {e = v} r) g =
      let same : v ≡ tree_of e = let given = g.entry in cc in ap (entry_place s) same
  tile_of_entry_has_its_entry_place s tile e error (refuses r j) g =
      let same : junk s ≡ tree_of e = let given = g.entry in cc in ap (entry_place s) same

  -- one tile more
  pub entry_places_grow_by_tile : (i j : ℕ) (ps qs : List EntryPlace) (last : Option EntryPlace) (now : EntryPlace)
      (found : SpannedTile)
      → HasEntryPlacesBefore i ps last → TileTo edition t i j found →
      ((tile : Tile) (more : List Tile) → entry_place_of tile ≡ entry_place found.span (tree_of found.entry) →
      qs ++ entry_places_after (Some now) more ≡ ps ++ entry_places_after last (tile ∷ more)) →
      HasEntryPlacesBefore j qs (Some now)
  entry_places_grow_by_tile i j ps qs last now found read to add = record {
    whole = λ more a.
        let beyond = subst (λ k. Tiled t (TileAt edition t) k more) to.ends a in
        let (tiles, tiling, same) = read.whole (to.tile ∷ more) (next to.blank to.inside to.in_place beyond) in
        let place =
        tile_of_entry_has_its_entry_place found.span to.tile found.entry found.error to.in_place to.yields in
        (tiles, tiling, add to.tile more place ∙ same);
  }

  -- no tile more
  pub places_read_to_end_are_entry_places : (i : ℕ) (ps qs : List EntryPlace) (last : Option EntryPlace)
      → HasEntryPlacesBefore i ps last → BlankBlock t i (length t) →
      qs ≡ ps ++ entry_places_after last [] → HasEntryPlaces edition t qs
  places_read_to_end_are_entry_places i ps qs last read blank e =
      let (tiles, tiling, same) = read.whole [] (done blank) in (tiles, tiling, e ∙ same)
