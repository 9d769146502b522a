-- Texts that nest deeper, from tile to tile.
use Rattle.std.proofs.Common.{◌≡◌, ℕ, ◌<◌, List, [], ◌∷◌, length, Option, true, false, refl, subst, arith}
use Rattle.fluent_syntax_tree.specs.Entry.{EntryTree, comment, regular}
use Rattle.fluent_syntax_tree.specs.declared.edition.Edition.{Edition}
use Rattle.fluent_syntax_tree.specs.declared.errors.ParserError.{ParserError}
use Rattle.fluent_syntax_tree.specs.declared.spans.Span.{Span}
use Rattle.fluent_syntax_grammar.specs.Bytes.{hash}
use Rattle.fluent_syntax_grammar.specs.Construct.{Read}
use Rattle.fluent_syntax_grammar.specs.Grammar.{within}
use Rattle.fluent_syntax_grammar.specs.Nesting.{TextDeeper, TooDeep}
use Rattle.fluent_syntax_grammar.specs.Places.{BlankBlock, has_byte}
use Rattle.fluent_syntax_grammar.specs.Tiling as tiling
use Rattle.fluent_syntax_grammar.specs.Tiling.{Tile, Tiled, done, next, drops, entry_in, reads, refuses, keeps_tile}
use Rattle.fluent_syntax_grammar.specs.Tiling.{whole_line}
use Rattle.fluent_syntax_grammar.proofs.Functional.{blank_block_ends_at_one_place}
use Rattle.fluent_syntax_grammar.proofs.Nesting.{within_is_functional}
use Rattle.fluent_syntax_grammar.proofs.OneTiling.{IsOneTile, one_runtime_tile_in, tile_in_functional_family_is_one}
use Rattle.fluent_syntax_parser.specs.Rest.{GivesTile, TiledHere, TileDeeper, TileIn, are_dropped, at_end, at_tile}
use Rattle.fluent_syntax_parser.specs.declared.options.Comments.{Comments}
use Rattle.fluent_syntax_parser.specs.declared.options.Comments.TheVariants.{Kept, Dropped}
use Rattle.fluent_syntax_parser.proofs.tilings.Rests.{tiles_after_block_are_tiled, is_no_bare_comment}

-- ---- tiles of whatever kind

module _ (t : List ℕ) (at : (i j : ℕ) → Tile → Type 0) where
  -- after a blank block the tiles are those from its end on
  tiles_after_block_are_here : (i start : ℕ) (tiles : List Tile) → BlankBlock t i start → Tiled t at i tiles →
      TiledHere t at start tiles
  tiles_after_block_are_here i start tiles block (done all) =
      at_end (blank_block_ends_at_one_place.same i start (length t) block all)
  tiles_after_block_are_here i start tiles block
      (next {start = s} {end = end} {tile = tile} {tiles = more} other l x rest) =
      let same = blank_block_ends_at_one_place.same i s start other block in
      at_tile (subst (λ k. k < length t) same l) (subst (λ k. at k end tile) same x) rest

module _ (edition : Edition) (t : List ℕ) (n : ℕ) where
  tile_within_depth_is_one : (comments : Comments) → IsOneTile (TileIn comments edition t (within edition t n))
  tile_within_depth_is_one Kept =
      tile_in_functional_family_is_one edition t (within edition t n) (within_is_functional edition t n)
  tile_within_depth_is_one Dropped =
      one_runtime_tile_in edition t (within edition t n) (within_is_functional edition t n)

  module _ (comments : Comments) (i j : ℕ) where
    -- a blank block holds no entry
    pub text_is_deeper_by_its_tile : BlankBlock t i j → TileDeeper edition t (TileIn comments edition t) n j →
        TextDeeper edition t (TileIn comments edition t) n i
    text_is_deeper_by_its_tile block d tiles tiled =
        d tiles (tiles_after_block_are_here t (TileIn comments edition t (within edition t n)) i j tiles block tiled)

    pub tile_is_deeper_by_its_text : BlankBlock t i j → TextDeeper edition t (TileIn comments edition t) n i →
        TileDeeper edition t (TileIn comments edition t) n j
    tile_is_deeper_by_its_text block d tiles tiled_here =
        d tiles (tiles_after_block_are_tiled t (TileIn comments edition t (within edition t n)) i j tiles block
        tiled_here)

    module _ (inside : i < length t) (tile : Tile)
        (there : TileIn comments edition t (within edition t n) i j tile) where
      -- after a tile that is there
      pub after_one : TextDeeper edition t (TileIn comments edition t) n j →
          TileDeeper edition t (TileIn comments edition t) n i
      after_one d tiles (at_end e) = omega (arith, e, inside)
      after_one d tiles (at_tile {end = k} {tile = x} {tiles = more} l y rest) =
          let same : k ≡ j = (tile_within_depth_is_one comments).same_end i k j x tile y there in
          d more (subst (λ k. Tiled t (TileIn comments edition t (within edition t n)) k more) same rest)

      pub one_led : TileDeeper edition t (TileIn comments edition t) n i →
          TextDeeper edition t (TileIn comments edition t) n j
      one_led d more rest = d (_ ∷ more) (at_tile inside there rest)

  -- there is no tile where the entry nests too deeply
  pub tile_is_too_deep_where_entry_is : (comments : Comments) (i : ℕ) →
      (are_dropped comments ≡ true → has_byte t hash i ≡ false) →
      i < length t → TooDeep (entry_in edition t (within edition t n)) i →
      TileDeeper edition t (TileIn comments edition t) n i
  tile_is_too_deep_where_entry_is comments i none inside d tiles (at_end e) = omega (arith, e, inside)
  tile_is_too_deep_where_entry_is Kept i none inside d tiles (at_tile l (reads x) rest) = d _ x
  tile_is_too_deep_where_entry_is Kept i none inside d tiles (at_tile l (refuses x end) rest) = d _ x
  tile_is_too_deep_where_entry_is Dropped i none inside d tiles (at_tile l (drops there line) rest) = let f =
      none refl in cc
  tile_is_too_deep_where_entry_is Dropped i none inside d tiles (at_tile l (keeps_tile bare (reads x)) rest) = d _ x
  tile_is_too_deep_where_entry_is Dropped i none inside d tiles (at_tile l (keeps_tile bare (refuses x end)) rest) =
      d _ x

  -- tiles at the text's end: none
  pub no_tile_is_deeper_at_end_of_text : (comments : Comments) (i : ℕ) → i ≡ length t →
      TileDeeper edition t (TileIn comments edition t) n i → ⊥
  no_tile_is_deeper_at_end_of_text comments i end d = d [] (at_end end)

  -- ---- after a line that is dropped

  module _ (i j : ℕ) (inside : i < length t) (comments : Comments) (dropped : are_dropped comments ≡ true)
      (there : has_byte t hash i ≡ true) (line : whole_line t i (Read tt j)) where
    dropped_comment_is_tile : (comments : Comments) → are_dropped comments ≡ true →
        TileIn comments edition t (within edition t n) i j tiling.dropped
    dropped_comment_is_tile Kept no_drop = cc
    dropped_comment_is_tile Dropped drop = drops there line

    pub tile_is_deeper_by_text_after_dropped : TextDeeper edition t (TileIn comments edition t) n j →
        TileDeeper edition t (TileIn comments edition t) n i
    tile_is_deeper_by_text_after_dropped = after_one comments i j inside _ (dropped_comment_is_tile comments dropped)

    pub text_after_dropped_is_deeper_by_tile : TileDeeper edition t (TileIn comments edition t) n i →
        TextDeeper edition t (TileIn comments edition t) n j
    text_after_dropped_is_deeper_by_tile = one_led comments i j inside _ (dropped_comment_is_tile comments dropped)

  -- ---- after a comment of level 1, which is read where comments are kept

  module _ (i j : ℕ) (inside : i < length t) (e : EntryTree Span) (error : Option ParserError)
      (tile : GivesTile edition t n i j e error) (content : List Span)
      (same : e ≡ comment regular content) where
    pub after_comment : (comments : Comments) → (are_dropped comments ≡ true → has_byte t hash i ≡ false) →
        TextDeeper edition t (tiling.TileIn edition t) n j → TileDeeper edition t (TileIn comments edition t) n i
    after_comment Kept none h = after_one Kept i j inside tile.tile tile.in_place h
    after_comment Dropped none h =
        absurd (is_no_bare_comment edition t n i j inside e error tile content same (none refl))

    -- after what it may be attached to
    pub after_attached : (comments : Comments) → (are_dropped comments ≡ true → has_byte t hash i ≡ false) → (k : ℕ) →
        (TextDeeper edition t (tiling.TileIn edition t) n k → TextDeeper edition t (tiling.TileIn edition t) n j) →
        TextDeeper edition t (TileIn comments edition t) n k → TileDeeper edition t (TileIn comments edition t) n i
    after_attached Kept none k through h = after_one Kept i j inside tile.tile tile.in_place (through h)
    after_attached Dropped none k through h =
        absurd (is_no_bare_comment edition t n i j inside e error tile content same (none refl))

    pub attached_led : (comments : Comments) → (are_dropped comments ≡ true → has_byte t hash i ≡ false) → (k : ℕ) →
        (TextDeeper edition t (tiling.TileIn edition t) n j → TextDeeper edition t (tiling.TileIn edition t) n k) →
        TileDeeper edition t (TileIn comments edition t) n i → TextDeeper edition t (TileIn comments edition t) n k
    attached_led Kept none k through h = through (one_led Kept i j inside tile.tile tile.in_place h)
    attached_led Dropped none k through h =
        absurd (is_no_bare_comment edition t n i j inside e error tile content same (none refl))
