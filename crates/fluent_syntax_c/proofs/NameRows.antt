-- Rows of names.
use Rattle.std.proofs.Common.{◌≡◌, ◌<◌, ◌≤◌, ◌+◌, ◌++◌, [], ◌∷◌, ℕ, List, length, get_or, map, arith}
use Rattle.std.proofs.Common.{sym, ap, ◌∙◌, refl, subst, append_assoc, append-nil, length-append}
use Rattle.std.specs.Global.{Global}
use Rattle.std.specs.Prelude.{Vec, Result, Ok, Err, IfOk}
use Rattle.std.specs.Str.{IsCharBoundary, IsUtf8}
use Rattle.std.proofs.lemmas.Str.{IsCharBoundary-start}
use Rattle.fluent_syntax_tree.specs.Entry.{junk}
use Rattle.fluent_syntax_tree.specs.Every.{attribute_every, entry_every, list_every}
use Rattle.fluent_syntax_tree.specs.Spans.{IsTextRange}
use Rattle.fluent_syntax_tree.specs.View.{attribute_view}
use Rattle.fluent_syntax_tree.specs.declared.ast.Attribute.{Attribute}
use Rattle.fluent_syntax_tree.specs.declared.ast.Entry.{Entry}
use Rattle.fluent_syntax_tree.specs.declared.edition.Edition.{Edition}
use Rattle.fluent_syntax_tree.specs.declared.spans.Span.{Span}
use Rattle.fluent_syntax_tree.proofs.Every.{item_of_every_list_has_it}
use Rattle.fluent_syntax_grammar.specs.Body.{alone}
use Rattle.fluent_syntax_grammar.specs.Places.{BlankBlock}
use Rattle.fluent_syntax_grammar.specs.Tiling.{Tile, Tiled, TileAt, Tiling, done, next, reads, refuses}
use Rattle.fluent_syntax_grammar.proofs.Boundaries.{char_boundaries_are_boundaries}
use Rattle.fluent_syntax_grammar.proofs.Cuts.{end_of_block_is_place}
use Rattle.fluent_syntax_grammar.proofs.OneTiling.{tilings_of_text_are_same}
use Rattle.fluent_syntax_grammar.proofs.SoundTiling.{EndedTile, IsTileWellFormed, tile_at_place_is_ended_tile}
use Rattle.fluent_syntax_parser.specs.Rest.{tree_of}
use Rattle.fluent_syntax_parser.specs.Tiles.{TileTo}
use Rattle.fluent_syntax_parser.specs.declared.tiles.SpannedTile.{SpannedTile}
use Rattle.fluent_syntax_c.specs.Names.{NamesTiles, are_names, entry_rows, tile_rows, tiles_rows}
use Rattle.fluent_syntax_c.specs.declared.names.FtlName.{FtlName}

-- the name of an attribute of a tree of the text lies within the text
pub attribute_name_is_in_text : (t s : List ℕ) (attributes items : List (Attribute Span)) (i : ℕ) (a : Attribute Span) →
    list_every (attribute_every (IsTextRange t)) (map (attribute_view (λ s. s)) attributes) → items ≡ attributes →
    i < length items → a ≡ get_or items i a → s ≡ t → a.id.name.start ≤ length s
attribute_name_is_in_text t s attributes items i a all same l is text =
    let h : attribute_every (IsTextRange t) (attribute_view (λ s. s) a) =
    item_of_every_list_has_it (attribute_every (IsTextRange t)) (attribute_view (λ s. s)) attributes items i a all same
    l is in
    subst (λ u. a.id.name.start ≤ length u) (sym text) h.0.1.0

-- one more tile's rows
tiles_rows-append : (t : List ℕ) (n : ℕ) (tiles : List Tile) (tile : Tile) →
    tiles_rows t n (tiles ++ (tile ∷ []))
    ≡ tiles_rows t n tiles ++ tile_rows t (n + length (tiles_rows t n tiles)) tile
tiles_rows-append t n [] tile =
    let same : n ≡ n + 0 = omega arith in
    append-nil (tile_rows t n tile) ∙ ap (λ m. tile_rows t m tile) same
tiles_rows-append t n (x ∷ xs) tile =
    let own = tile_rows t n x in
    let m = n + length own in
    let others = tiles_rows t m xs in
    let counted : m + length others ≡ n + length (own ++ others) = omega (arith, length-append own others) in
    ap (λ rows. own ++ rows) (tiles_rows-append t m xs tile)
    ∙ sym (append_assoc own others (tile_rows t (m + length others) tile))
    ∙ ap (λ k. (own ++ others) ++ tile_rows t k tile) counted

module _ (edition : Edition) (t : List ℕ) where
  -- The rows are those of tiles that lead up to the place i.
  pub record HasNameRowsBefore (i : ℕ) (rows : List FtlName) : Type 0 where
    pub boundary : IsCharBoundary t i
    pub tiles : List Tile
    pub rows_are : rows ≡ tiles_rows t 0 tiles
    pub whole : (more : List Tile) → Tiled t (TileAt edition t) i more → Tiled t (TileAt edition t) 0 (tiles ++ more)

  pub no_name_rows_are_before_start : IsUtf8 t → HasNameRowsBefore 0 []
  no_name_rows_are_before_start utf8 = record {
    boundary = IsCharBoundary-start t utf8;
    tiles = [];
    rows_are = refl;
    whole = λ more tiled. tiled;
  }

  -- a tile gives the rows of its entry
  rows_of_tile_are_entry_rows : (s : Span) (tile : Tile) (e : Entry Span) (n : ℕ) →
      TileAt edition t s.start s.end tile →
      alone tile ≡ tree_of e ∷ [] → tile_rows t n tile ≡ entry_rows t n s (tree_of e)
  rows_of_tile_are_entry_rows s tile e n (reads {e = v} r) given = let same : v ≡ tree_of e = cc in
      ap (entry_rows t n s) same
  rows_of_tile_are_entry_rows s tile e n (refuses r end) given = let same : junk s ≡ tree_of e = cc in
      ap (entry_rows t n s) same

  module _ (utf8 : IsUtf8 t) (i j : ℕ) (found : SpannedTile) (rows : List FtlName) (names : HasNameRowsBefore i rows)
      (to : TileTo edition t i j found) where
    found_tile_ends_at_boundary : EndedTile edition t (IsCharBoundary t)
        (char_boundaries_are_boundaries t utf8) found.span.start found.span.end to.tile
    found_tile_ends_at_boundary =
        let cuts = char_boundaries_are_boundaries t utf8 in
        tile_at_place_is_ended_tile edition t (IsCharBoundary t) cuts found.span.start found.span.end to.tile
        (end_of_block_is_place t (IsCharBoundary t) cuts i found.span.start names.boundary to.blank) to.inside
        to.in_place

    tile_of_entry_has_parts_in_text : (tile : Tile) → TileAt edition t found.span.start found.span.end tile →
        alone tile ≡ tree_of found.entry ∷ [] →
        IsTileWellFormed edition t (IsCharBoundary t) (char_boundaries_are_boundaries t utf8) tile →
        entry_every (IsTextRange t) (tree_of found.entry)
    tile_of_entry_has_parts_in_text tile (reads {e = v} r) given good =
        let same : v ≡ tree_of found.entry = cc in subst (entry_every (IsTextRange t)) same good.2
    tile_of_entry_has_parts_in_text tile (refuses r end) given good =
        let same : junk found.span ≡ tree_of found.entry = cc in subst (entry_every (IsTextRange t)) same good.1

    -- the texts of what was found are parts of the source
    pub found_entry_has_parts_in_text : entry_every (IsTextRange t) (tree_of found.entry)
    found_entry_has_parts_in_text =
        tile_of_entry_has_parts_in_text to.tile to.in_place to.yields.entry found_tile_ends_at_boundary.good

    -- its rows after those before it
    pub name_rows_grow_by_entry_rows : (new : List FtlName) →
        new ≡ rows ++ entry_rows t (length rows) found.span (tree_of found.entry) → HasNameRowsBefore j new
    name_rows_grow_by_entry_rows new added =
        let own =
        rows_of_tile_are_entry_rows found.span to.tile found.entry (length rows) to.in_place to.yields.entry in
        let counted : length rows ≡ 0 + length rows = omega arith in
        record {
          boundary = subst (IsCharBoundary t) (sym to.ends) found_tile_ends_at_boundary.place;
          tiles = names.tiles ++ (to.tile ∷ []);
          rows_are =
              added ∙ ap (λ given. rows ++ given) (sym own)
              ∙ ap (λ n. rows ++ tile_rows t n to.tile) counted
              ∙ ap (λ before. before ++ tile_rows t (0 + length before) to.tile) names.rows_are
              ∙ sym (tiles_rows-append t 0 names.tiles to.tile);
          whole = λ more tiled.
              subst (Tiled t (TileAt edition t) 0) (sym (append_assoc names.tiles (to.tile ∷ []) more))
              (names.whole (to.tile ∷ more)
              (next to.blank to.inside to.in_place (subst (λ k. Tiled t (TileAt edition t) k more) to.ends tiled)));
        }

  -- the rows of the whole text, where nothing but a blank block is left
  pub name_rows_at_end_are_names_of_tiles : (i : ℕ) (rows : List FtlName) → HasNameRowsBefore i rows →
      BlankBlock t i (length t) → NamesTiles edition t rows
  name_rows_at_end_are_names_of_tiles i rows names blank = record {
    tiles = names.tiles;
    has_tiles = subst (Tiled t (TileAt edition t) 0) (append-nil names.tiles) (names.whole [] (done blank));
    rows_are = names.rows_are;
  }

-- the rows of a tiling of the text are those of each
pub tiling_has_its_names : {E : Type 0} (edition : Edition) (t : List ℕ) (tiles : List Tile) → Tiling edition t tiles →
    (answer : Result (Vec FtlName Global) E) → IfOk answer (λ rows. NamesTiles edition t rows.items) →
    IfOk answer (λ rows. are_names edition t tiles rows.items)
tiling_has_its_names edition t tiles tiling (Ok rows) found =
    found.rows_are ∙ ap (tiles_rows t 0) (tilings_of_text_are_same edition t found.tiles tiles found.has_tiles tiling)
tiling_has_its_names edition t tiles tiling (Err e) found = found
