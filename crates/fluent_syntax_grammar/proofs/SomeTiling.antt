-- Every text has a tiling and a tiling without comments.
use Rattle.std.proofs.Common.{◌≡◌, ℕ, zero, suc, ◌+◌, ◌<◌, ◌≤◌, List, [], ◌∷◌, length, Option, Some, None, Bool}
use Rattle.std.proofs.Common.{true, false, refl, subst, arith, inl, inr}
use Rattle.fluent_syntax_tree.specs.Entry.{EntryTree}
use Rattle.fluent_syntax_grammar.specs.Grammar.{family}
use Rattle.fluent_syntax_grammar.specs.Places.{LongestRun, has_byte, after_eol, is_line_place, BlankBlock}
use Rattle.fluent_syntax_grammar.specs.Construct.{Outcome, Read, Refused}
use Rattle.fluent_syntax_grammar.specs.Tiling.{Tile, entry, dropped, failing_place, starts_entry, JunkEnd, Tiled, done}
use Rattle.fluent_syntax_grammar.specs.Tiling.{next, entry_at, TileAt, reads, refuses, RuntimeTileAt, drops}
use Rattle.fluent_syntax_grammar.specs.Tiling.{keeps_tile, SomeTiling, SomeRuntimeTiling}
use Rattle.fluent_syntax_tree.specs.declared.edition.Edition.{Edition}
use Rattle.fluent_syntax_tree.specs.declared.spans.Span.{Span}
use Rattle.fluent_syntax_grammar.proofs.Cuts.{block_goes_on, line_place_is_inside_text}
use Rattle.fluent_syntax_grammar.proofs.SoundStrings.{InText}
use Rattle.fluent_syntax_grammar.proofs.SoundTiling.{refused_entry_has_entry_fault, tile_at_place_is_ended_tile}
use Rattle.fluent_syntax_grammar.proofs.Boundaries.{places_in_text_are_boundaries}
use Rattle.fluent_syntax_grammar.proofs.WholeLines.{IsLine, line_reads_as_whole_line, line_ends_in_text}
use Rattle.fluent_syntax_grammar.proofs.WholeLines.{hashes_end_within_line}
use Rattle.fluent_syntax_grammar.proofs.CommentFaults.{hashes_at_hash_are_at_least_one}
use Rattle.fluent_syntax_grammar.proofs.Stretches.{junk_ends_at_entry, junk_ends_with_text, junk_goes_on}
use Rattle.fluent_syntax_grammar.proofs.TotalWords.{longest_run_is_total, blank_block_is_total}
use Rattle.fluent_syntax_grammar.proofs.TotalFamily.{pattern_is_total_onward}
use Rattle.fluent_syntax_grammar.proofs.Facts.{at_most_is_less_or_same}
use Rattle.fluent_syntax_grammar.proofs.Included.{IsIncludedFamily, itself_is_included}
use Rattle.fluent_syntax_grammar.proofs.TotalEntries.{entry_has_outcome}

module _ (t : List ℕ) where
  -- ---- junk and dropped lines

  junk_end_exists_by_entry_test : (k : ℕ) → k ≤ length t → (b : Bool) → starts_entry t k ≡ b →
      (k < length t → (j : ℕ) × JunkEnd t (k + 1) j) → (j : ℕ) × JunkEnd t k j
  junk_end_exists_by_entry_test k l true e more = (k, junk_ends_at_entry t k e)
  junk_end_exists_by_entry_test k l false e more =
      elim (at_most_is_less_or_same k (length t) l)
      [ inl m ↦ (let x = more m in (x.0, junk_goes_on t k x.0 e x.1)) | inr same ↦ (k, junk_ends_with_text t k same) ]

  junk_end_exists : (m k : ℕ) → length t ≤ k + m → k ≤ length t → (j : ℕ) × JunkEnd t k j
  junk_end_exists zero k a l = junk_end_exists_by_entry_test k l (starts_entry t k) refl (λ b. absurd (omega arith))
  junk_end_exists (suc m) k a l = junk_end_exists_by_entry_test k l (starts_entry t k) refl
      (λ b. junk_end_exists m (k + 1) (omega arith) (omega arith))

  line_exists_by_its_eol : (i k : ℕ) → LongestRun (is_line_place t) i k → (o : Option ℕ) → after_eol t k ≡ o →
      (j : ℕ) × IsLine t i j
  line_exists_by_its_eol i k s None e = (k, record { end = k; stretch = s; eol = inr (e, refl) })
  line_exists_by_its_eol i k s (Some j) e = (j, record { end = k; stretch = s; eol = inl e })

  line_from_place_exists : (i : ℕ) → i ≤ length t → (j : ℕ) × IsLine t i j
  line_from_place_exists i l = let w =
      (longest_run_is_total t (is_line_place t) (line_place_is_inside_text t)).exists i l in
      line_exists_by_its_eol i w.0 w.1 (after_eol t w.0) refl

module _ (edition : Edition) (t : List ℕ) where
  family_includes_itself : IsIncludedFamily (family edition t) (family edition t)
  family_includes_itself = record { expression = itself_is_included; argument_list = itself_is_included }

  -- a tile that is at a place, and goes on
  record TileThere (i : ℕ) : Type 0 where
    tile : Tile
    end : ℕ
    tile_there : TileAt edition t i end tile
    on : i < end
    in_text : end ≤ length t

  tile_exists_by_outcome_of_entry : (i : ℕ) → i < length t → (o : Outcome (EntryTree Span)) → entry_at edition t i o →
      TileThere i
  tile_exists_by_outcome_of_entry i l (Read e j) x =
      let q = tile_at_place_is_ended_tile edition t (InText t) (places_in_text_are_boundaries t) i j _ (omega arith) l
      (reads x) in
      record {
        tile = entry (record { start = i; end = j }) e;
        end = j;
        tile_there = reads x;
        on = q.onward;
        in_text = q.place;
      }
  tile_exists_by_outcome_of_entry i l (Refused k from to) x =
      let f = refused_entry_has_entry_fault edition t (InText t) (places_in_text_are_boundaries t) i from to k
      (omega arith) x in
      let e = junk_end_exists t (length t) (failing_place k from to) (omega arith) f.in_text in
      let q = tile_at_place_is_ended_tile edition t (InText t) (places_in_text_are_boundaries t) i e.0 _ (omega arith) l
      (refuses x e.1) in
      record { tile = _; end = e.0; tile_there = refuses x e.1; on = q.onward; in_text = q.place }

  tile_exists : (i : ℕ) → i < length t → TileThere i
  tile_exists i l =
      let x = entry_has_outcome edition t (family edition t) family_includes_itself 0
      (λ s g. pattern_is_total_onward edition t) i (omega arith)
      (omega arith) in
      tile_exists_by_outcome_of_entry i l x.0 x.1

  record RuntimeTileThere (i : ℕ) : Type 0 where
    tile : Tile
    end : ℕ
    tile_there : RuntimeTileAt edition t i end tile
    on : i < end
    in_text : end ≤ length t

  runtime_tile_exists_by_hash_test : (i : ℕ) → i < length t → (hash : Bool) → has_byte t 35 i ≡ hash →
      RuntimeTileThere i
  runtime_tile_exists_by_hash_test i l true h =
      let x = line_from_place_exists t i (omega arith) in
      let one = hashes_at_hash_are_at_least_one t i h in
      let on = hashes_end_within_line t i x.0 x.1 in
      record {
        tile = dropped;
        end = x.0;
        tile_there = drops h (line_reads_as_whole_line t i x.0 x.1);
        on = omega arith;
        in_text = line_ends_in_text t i x.0 (omega arith) x.1;
      }
  runtime_tile_exists_by_hash_test i l false h = let x = tile_exists i l in
      record { tile = x.tile; end = x.end; tile_there = keeps_tile h x.tile_there; on = x.on; in_text = x.in_text }

  tiles_exist_past_blank_block : (i : ℕ) → i ≤ length t → (s : ℕ) → BlankBlock t i s → s ≤ length t →
      ((j : ℕ) → i < j → j ≤ length t → (tiles : List Tile) × Tiled t (TileAt edition t) j tiles) →
      (tiles : List Tile) × Tiled t (TileAt edition t) i tiles
  tiles_exist_past_blank_block i l s b m more = elim (at_most_is_less_or_same s (length t) m) [
    | inl n ↦ (let x = tile_exists s n in let on = x.on in let f = block_goes_on t i s b in
        let r = more x.end (omega arith) x.in_text in (x.tile ∷ r.0, next b n x.tile_there r.1))
    | inr same ↦ ([], done (subst (λ s. BlankBlock t i s) same b))
  ]

  tiles_exist : (m i : ℕ) → length t ≤ i + m → i ≤ length t → (tiles : List Tile) × Tiled t (TileAt edition t) i tiles
  tiles_exist zero i a l = let b = (blank_block_is_total t).exists i l in
      tiles_exist_past_blank_block i l b.0 b.1 ((blank_block_is_total t).in_text i b.0 l b.1)
      (λ j c d. absurd (omega arith))
  tiles_exist (suc m) i a l = let b = (blank_block_is_total t).exists i l in
      tiles_exist_past_blank_block i l b.0 b.1 ((blank_block_is_total t).in_text i b.0 l b.1)
      (λ j c d. tiles_exist m j (omega arith) d)

  runtime_tiles_exist_past_blank_block : (i : ℕ) → i ≤ length t → (s : ℕ) → BlankBlock t i s → s ≤ length t →
      ((j : ℕ) → i < j → j ≤ length t → (tiles : List Tile) × Tiled t (RuntimeTileAt edition t) j tiles) →
      (tiles : List Tile) × Tiled t (RuntimeTileAt edition t) i tiles
  runtime_tiles_exist_past_blank_block i l s b m more = elim (at_most_is_less_or_same s (length t) m) [
    | inl n ↦ (let x = runtime_tile_exists_by_hash_test s n (has_byte t 35 s) refl in let on = x.on in let f =
        block_goes_on t i s b in
        let r = more x.end (omega arith) x.in_text in (x.tile ∷ r.0, next b n x.tile_there r.1))
    | inr same ↦ ([], done (subst (λ s. BlankBlock t i s) same b))
  ]

  runtime_tiles_exist : (m i : ℕ) → length t ≤ i + m → i ≤ length t → (tiles : List Tile) ×
      Tiled t (RuntimeTileAt edition t) i tiles
  runtime_tiles_exist zero i a l = let b = (blank_block_is_total t).exists i l in
      runtime_tiles_exist_past_blank_block i l b.0 b.1 ((blank_block_is_total t).in_text i b.0 l b.1)
      (λ j c d. absurd (omega arith))
  runtime_tiles_exist (suc m) i a l = let b = (blank_block_is_total t).exists i l in
      runtime_tiles_exist_past_blank_block i l b.0 b.1 ((blank_block_is_total t).in_text i b.0 l b.1)
      (λ j c d. runtime_tiles_exist m j (omega arith) d)

  -- from each place of a text on there are tiles
  pub some_tiles_cover_rest_of_text : (i : ℕ) → i ≤ length t → (tiles : List Tile) × Tiled t (TileAt edition t) i tiles
  some_tiles_cover_rest_of_text i inside = tiles_exist (length t) i (omega arith) inside

  -- and tiles without comments
  pub some_runtime_tiles_cover_rest_of_text : (i : ℕ) → i ≤ length t →
      (tiles : List Tile) × Tiled t (RuntimeTileAt edition t) i tiles
  some_runtime_tiles_cover_rest_of_text i inside = runtime_tiles_exist (length t) i (omega arith) inside

  -- every text has a tiling
  pub text_has_tiling : SomeTiling edition t
  text_has_tiling = some_tiles_cover_rest_of_text 0 (omega arith)

  -- every text has a tiling without comments
  pub some_runtime_tiling : SomeRuntimeTiling edition t
  some_runtime_tiling = some_runtime_tiles_cover_rest_of_text 0 (omega arith)
