-- The gaps of what was read up to a place.
use Rattle.std.proofs.Common.{◌≡◌, ℕ, List, [], ◌∷◌, ◌++◌, length, Option, None, refl, sym, ◌∙◌, ap, subst}
use Rattle.std.proofs.lemmas.List.{append-nil}
use Rattle.fluent_syntax_tree.specs.Entry.{EntryTree, junk}
use Rattle.fluent_syntax_tree.specs.declared.ast.Entry.{Entry}
use Rattle.fluent_syntax_tree.specs.declared.edition.Edition.{Edition}
use Rattle.fluent_syntax_tree.specs.declared.errors.ParserError.{ParserError}
use Rattle.fluent_syntax_tree.specs.declared.spans.Span.{Span}
use Rattle.fluent_syntax_grammar.specs.Places.{BlankBlock}
use Rattle.fluent_syntax_grammar.specs.Tiling.{Tile, Tiled, TileAt, Tiling, done, next, reads, refuses}
use Rattle.fluent_syntax_parser.specs.Rest.{tree_of}
use Rattle.fluent_syntax_parser.specs.Tiles.{Gives, TileTo}
use Rattle.fluent_syntax_parser.specs.declared.tiles.SpannedTile.{SpannedTile}
use Rattle.ftl.specs.BlankLines.{HasGaps, gaps, gaps_after, is_field, tile_place_of}
use Rattle.ftl.specs.declared.blank_lines.Gap.{Gap}
use Rattle.ftl.specs.declared.blank_lines.TilePlace.{TilePlace}

module _ (edition : Edition) (t : List ℕ) where
  -- Whatever the tiles from the place on are: these gaps, and those after the last one, are the text's.
  pub record HasGapsBefore (i : ℕ) (found : List Gap) (last : Option Gap) : Type 0 where
    pub whole : (more : List Tile) → Tiled t (TileAt edition t) i more →
        (tiles : List Tile) × Tiling edition t tiles × (found ++ gaps_after t last more ≡ gaps t tiles)

  pub no_gaps_are_before_start : HasGapsBefore 0 [] None
  no_gaps_are_before_start = record { whole = λ more tiled. (more, tiled, refl) }

  -- where an entry is
  abbrev place_at : Span → EntryTree Span → TilePlace
  place_at s e = record { span = s; is_field = is_field e }

  tile_of_entry_has_its_tile_place : (s : Span) (tile : Tile) (e : Entry Span) (error : Option ParserError) →
      TileAt edition t s.start s.end tile → Gives tile e error → tile_place_of tile ≡ place_at s (tree_of e)
  tile_of_entry_has_its_tile_place s tile e error (reads {e = v} r) g =
      let same : v ≡ tree_of e = let given = g.entry in cc in ap (place_at s) same
  tile_of_entry_has_its_tile_place s tile e error (refuses r j) g =
      let same : junk s ≡ tree_of e = let given = g.entry in cc in ap (place_at s) same

  -- one tile more
  pub gaps_grow_by_tile : (i j : ℕ) (before now : List Gap) (last next_last : Option Gap) (found : SpannedTile)
      → HasGapsBefore i before last → TileTo edition t i j found →
      ((tile : Tile) (more : List Tile) → tile_place_of tile ≡ place_at found.span (tree_of found.entry) →
      now ++ gaps_after t next_last more ≡ before ++ gaps_after t last (tile ∷ more)) → HasGapsBefore j now next_last
  gaps_grow_by_tile i j before now last next_last found read to add = record {
    whole = λ more a.
        let beyond = subst (λ k. Tiled t (TileAt edition t) k more) to.ends a in
        let (tiles, tiling, same) = read.whole (to.tile ∷ more) (next to.blank to.inside to.in_place beyond) in
        let given = tile_of_entry_has_its_tile_place found.span to.tile found.entry found.error to.in_place to.yields in
        (tiles, tiling, add to.tile more given ∙ same);
  }

  -- no tile more
  pub gaps_before_end_are_all : (i : ℕ) (found : List Gap) (last : Option Gap) → HasGapsBefore i found last →
      BlankBlock t i (length t) → HasGaps edition t found
  gaps_before_end_are_all i found last read blank =
      let (tiles, tiling, same) = read.whole [] (done blank) in (tiles, tiling, sym (append-nil found) ∙ same)
