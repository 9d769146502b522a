-- What is left of a text, from place to place.
use Rattle.std.proofs.Common.{◌≡◌, ℕ, ◌<◌, true, false, List, [], ◌∷◌, ◌++◌, length, map, Option, Some, None, refl, ◌∙◌}
use Rattle.std.proofs.Common.{ap, subst}
use Rattle.std.proofs.lemmas.List.{append_assoc}
use Rattle.std.proofs.Math.Logic.{∥∥₁_map}
use Rattle.fluent_syntax_tree.specs.Entry.{BodyTree, EntryTree, message, term, comment, junk, regular, group, resource}
use Rattle.fluent_syntax_tree.specs.declared.edition.Edition.{Edition}
use Rattle.fluent_syntax_tree.specs.declared.errors.ParserError.{ParserError}
use Rattle.fluent_syntax_tree.specs.declared.spans.Span.{Span}
use Rattle.fluent_syntax_grammar.specs.Body.{alone, body, faults, attached_entry}
use Rattle.fluent_syntax_grammar.specs.Bytes.{hash}
use Rattle.fluent_syntax_grammar.specs.Construct.{Outcome, Read}
use Rattle.fluent_syntax_grammar.specs.Places.{BlankBlock, has_byte}
use Rattle.fluent_syntax_grammar.specs.Family.{Family}
use Rattle.fluent_syntax_grammar.specs.Grammar.{family, within}
use Rattle.fluent_syntax_grammar.specs.Tiling as tiling
use Rattle.fluent_syntax_grammar.specs.Tiling.{Fault, Tile, entry, refused, dropped, Tiled, done, next, TileAt}
use Rattle.fluent_syntax_grammar.specs.Tiling.{entry_at, entry_in, reads, refuses, drops, keeps_tile, whole_line}
use Rattle.fluent_syntax_grammar.proofs.BareEntries.{tile_off_hash_is_bare}
use Rattle.fluent_syntax_grammar.proofs.Runtime.{IsBareTile}
use Rattle.fluent_syntax_grammar.proofs.IncludedEntries.{entry_is_included, tile_in_family_is_included}
use Rattle.fluent_syntax_grammar.proofs.Nesting.{within_family}
use Rattle.fluent_syntax_parser.specs.Rest.{EntryAt, EntryTo, GivesTile, Attaches, ReadSoFar, Rest, RestAt, TiledHere}
use Rattle.fluent_syntax_parser.specs.Rest.{TileIn, are_dropped, at_end, at_tile, faults_of, may_attach}
use Rattle.fluent_syntax_parser.specs.declared.options.Comments.{Comments}
use Rattle.fluent_syntax_parser.specs.declared.options.Comments.TheVariants.{Kept, Dropped}

-- ---- what a tile gives before others

unattachable_entry_attaches_to_none : (x y : Tile) (e : EntryTree Span) → alone x ≡ e ∷ [] → may_attach e ≡ false →
    attached_entry x y ≡ None
unattachable_entry_attaches_to_none (entry s (comment regular c)) y e same other =
    let is_comment : comment regular c ≡ e = cc in
    let may = ap may_attach is_comment in
    cc
unattachable_entry_attaches_to_none (entry s (comment group c)) y e same other = refl
unattachable_entry_attaches_to_none (entry s (comment resource c)) y e same other = refl
unattachable_entry_attaches_to_none (entry s (message m)) y e same other = refl
unattachable_entry_attaches_to_none (entry s (term m)) y e same other = refl
unattachable_entry_attaches_to_none (entry s (junk x)) y e same other = refl
unattachable_entry_attaches_to_none (refused f) y e same other = refl
unattachable_entry_attaches_to_none dropped y e same other = refl

unattachable_entry_begins_body : (x : Tile) (more : List Tile) (e : EntryTree Span) → alone x ≡ e ∷ [] →
    may_attach e ≡ false → body (x ∷ more) ≡ e ∷ body more
unattachable_entry_begins_body x [] e same other = same
unattachable_entry_begins_body x (y ∷ more) e same other =
    rw (unattachable_entry_attaches_to_none x y e same other, same) refl

body-dropped : (more : List Tile) → body (dropped ∷ more) ≡ body more
body-dropped [] = refl
body-dropped (y ∷ more) = refl

faults-cons : (x : Tile) (more : List Tile) →
    map Some (faults (x ∷ more)) ≡ map Some (faults (x ∷ [])) ++ map Some (faults more)
faults-cons (entry s e) more = refl
faults-cons (refused f) more = refl
faults-cons dropped more = refl

-- ---- the rest from place to place

module _ (t : List ℕ) (at : (i j : ℕ) → Tile → Type 0) where
  pub tiles_after_block_are_tiled : (i j : ℕ) (tiles : List Tile) → BlankBlock t i j → TiledHere t at j tiles →
      Tiled t at i tiles
  tiles_after_block_are_tiled i j tiles block (at_end e) = done (subst (BlankBlock t i) e block)
  tiles_after_block_are_tiled i j tiles block (at_tile l x more) = next block l x more

module _ (comments : Comments) (edition : Edition) (t : List ℕ) where
  pub end_of_text_has_empty_rest : (i : ℕ) → i ≡ length t → RestAt comments edition t i [] []
  end_of_text_has_empty_rest i end = record { tiles = []; tiled_here = at_end end; yields = refl; errors_are = refl }

  pub rest_holds_from_block_before : (i j : ℕ) (entries : BodyTree Span) (errors : List (Option Fault)) →
      BlankBlock t i j → RestAt comments edition t j entries errors → Rest comments edition t i entries errors
  rest_holds_from_block_before i j entries errors block rest = record {
    tiles = rest.tiles;
    tiled = tiles_after_block_are_tiled t (TileIn comments edition t (family edition t)) i j rest.tiles block
        rest.tiled_here;
    yields = rest.yields;
    errors_are = rest.errors_are;
  }

pub mode_has_tile : (comments : Comments) (edition : Edition) (t : List ℕ) (R : Family) (i j : ℕ) (tile : Tile) →
    (are_dropped comments ≡ true → has_byte t hash i ≡ false) → tiling.TileIn edition t R i j tile →
    TileIn comments edition t R i j tile
mode_has_tile Kept edition t R i j tile none x = x
mode_has_tile Dropped edition t R i j tile none x = keeps_tile (none refl) x

-- the tile at whatever depth
pub TileAt-within : (edition : Edition) (t : List ℕ) (n i j : ℕ) (tile : Tile) →
    tiling.TileIn edition t (within edition t n) i j tile → TileAt edition t i j tile
TileAt-within edition t n =
    tile_in_family_is_included edition t (within edition t n) (family edition t) (within_family edition t n)

pub entry_at-within : (edition : Edition) (t : List ℕ) (n i : ℕ) {o : Outcome (EntryTree Span)} →
    entry_in edition t (within edition t n) i o → entry_at edition t i o
entry_at-within edition t n i x =
    (entry_is_included edition t (within edition t n) (family edition t) (within_family edition t n)).part i _ x

module _ (edition : Edition) (t : List ℕ) (i j : ℕ) (inside : i < length t) where
  pub rest_holds_from_dropped_comment : (comments : Comments) → are_dropped comments ≡ true → has_byte t hash i ≡ true →
      whole_line t i (Read tt j) → (entries : BodyTree Span) (errors : List (Option Fault)) →
      Rest comments edition t j entries errors → RestAt comments edition t i entries errors
  rest_holds_from_dropped_comment Kept no_drop there line entries errors rest = cc
  rest_holds_from_dropped_comment Dropped drop there line entries errors rest = record {
    tiles = dropped ∷ rest.tiles;
    tiled_here = at_tile inside (drops there line) rest.tiled;
    yields = body-dropped rest.tiles ∙ rest.yields;
    errors_are = rest.errors_are;
  }

  module _ (comments : Comments) (none : are_dropped comments ≡ true → has_byte t hash i ≡ false) (e : EntryTree Span)
      (error : Option ParserError) (n : ℕ) (tile : GivesTile edition t n i j e error) where
    pub rest_holds_from_unattachable_tile : may_attach e ≡ false →
        (entries : BodyTree Span) (errors : List (Option Fault)) → Rest comments edition t j entries errors →
        RestAt comments edition t i (e ∷ entries) (faults_of error ++ errors)
    rest_holds_from_unattachable_tile other entries errors rest = record {
      tiles = tile.tile ∷ rest.tiles;
      tiled_here = at_tile inside (mode_has_tile comments edition t (family edition t) i j tile.tile none
          (TileAt-within edition t n i j tile.tile tile.in_place)) rest.tiled;
      yields = unattachable_entry_begins_body tile.tile rest.tiles e tile.entry other ∙ ap (λ b. e ∷ b) rest.yields;
      errors_are = rw (faults-cons tile.tile rest.tiles, tile.errors, rest.errors_are) refl;
    }

  module _ (comments : Comments) (none : are_dropped comments ≡ true → has_byte t hash i ≡ false) (e : EntryTree Span)
      (read : entry_at edition t i (Read e j)) where
    -- an entry that is no comment
    pub rest_entry : may_attach e ≡ false → (entries : BodyTree Span) (errors : List (Option Fault)) →
        Rest comments edition t j entries errors → RestAt comments edition t i (e ∷ entries) errors
    rest_entry other entries errors rest =
        let tile = entry (record { start = i; end = j }) e in
        record {
          tiles = tile ∷ rest.tiles;
          tiled_here = at_tile inside
              (mode_has_tile comments edition t (family edition t) i j tile none (reads read)) rest.tiled;
          yields = unattachable_entry_begins_body tile rest.tiles e refl other ∙ ap (λ b. e ∷ b) rest.yields;
          errors_are = rest.errors_are;
        }

-- ---- a comment that may be attached

comment_tile_is_its_entry : (edition : Edition) (t : List ℕ) (i j : ℕ) (tile : Tile) (content : List Span) →
    TileAt edition t i j tile → alone tile ≡ comment regular content ∷ [] →
    tile ≡ entry (record { start = i; end = j }) (comment regular content)
comment_tile_is_its_entry edition t i j tile content (reads {e = e} read) same =
    let is_comment : e ≡ comment regular content = cc in
    ap (λ x. entry (record { start = i; end = j }) x) is_comment
comment_tile_is_its_entry edition t i j tile content (refuses read end) same = cc

module _ (edition : Edition) (t : List ℕ) (n i j : ℕ) (inside : i < length t) (e : EntryTree Span)
    (error : Option ParserError) (tile : GivesTile edition t n i j e error) (content : List Span)
    (same : e ≡ comment regular content) where
  comment_tile_is_there : TileAt edition t i j tile.tile
  comment_tile_is_there = TileAt-within edition t n i j tile.tile tile.in_place

  pub tile_is_regular_comment : tile.tile ≡ entry (record { start = i; end = j }) (comment regular content)
  tile_is_regular_comment = comment_tile_is_its_entry edition t i j tile.tile content comment_tile_is_there
      (tile.entry ∙ ap (λ x. x ∷ []) same)

  -- a comment begins with `#`
  pub is_no_bare_comment : has_byte t hash i ≡ false → ⊥
  is_no_bare_comment none =
      subst IsBareTile tile_is_regular_comment
      (tile_off_hash_is_bare edition t i j tile.tile none comment_tile_is_there)

  pub rest_begins_with_entry_with_comment : (comments : Comments) →
      (are_dropped comments ≡ true → has_byte t hash i ≡ false) →
      (with_comment : EntryTree Span) (k : ℕ) → Attaches edition t content j with_comment k →
      (entries : BodyTree Span) (errors : List (Option Fault)) → Rest comments edition t k entries errors →
      RestAt comments edition t i (with_comment ∷ entries) (faults_of error ++ errors)
  rest_begins_with_entry_with_comment Kept none with_comment k after entries errors rest =
      let beyond = after i entries errors rest in
      record {
        tiles = tile.tile ∷ beyond.0;
        tiled_here = at_tile inside comment_tile_is_there beyond.1;
        yields = ap (λ x. body (x ∷ beyond.0)) tile_is_regular_comment ∙ beyond.2;
        errors_are = rw (faults-cons tile.tile beyond.0, tile.errors, beyond.3) refl;
      }
  rest_begins_with_entry_with_comment Dropped none with_comment k after entries errors rest =
      absurd (is_no_bare_comment (none refl))

-- ---- entries, one after the other

module _ (comments : Comments) (edition : Edition) (t : List ℕ) where
  pub entry_at_leads_to_its_end : (i start j : ℕ) (e : EntryTree Span) (stated : List (Option Fault)) →
      EntryAt comments edition t i start j e stated → EntryTo comments edition t i j e stated
  entry_at_leads_to_its_end i start j e stated there =
      λ entries errors rest. there.before _ _ (there.in_place entries errors rest)

  pub start_of_text_is_read_so_far : ReadSoFar comments edition t 0
  start_of_text_is_read_so_far = record { entries = []; errors = []; rest = λ others more rest. rest }

  end_of_entry_is_read_so_far : (i j : ℕ) (e : EntryTree Span) (stated : List (Option Fault)) →
      EntryTo comments edition t i j e stated → ReadSoFar comments edition t i → ReadSoFar comments edition t j
  end_of_entry_is_read_so_far i j e stated there reached = record {
    entries = reached.entries ++ e ∷ [];
    errors = reached.errors ++ stated;
    rest = λ others more rest. rw (
      append_assoc reached.entries (e ∷ []) others,
      append_assoc reached.errors stated more,
    )
        (reached.rest _ _ (there others more rest));
  }

  pub end_of_entry_past_block_is_read_so_far : (i start j : ℕ) (e : EntryTree Span) (stated : List (Option Fault)) →
      EntryAt comments edition t i start j e stated → ∥ ReadSoFar comments edition t i ∥₁ →
      ∥ ReadSoFar comments edition t j ∥₁
  end_of_entry_past_block_is_read_so_far i start j e stated there reached =
      ∥∥₁_map reached (end_of_entry_is_read_so_far i j e stated (entry_at_leads_to_its_end i start j e stated there))
