-- An entry that is read where there is no `#` is no comment, and has none attached.
use Rattle.std.proofs.Common.{◌≡◌, ℕ, List, [], ◌∷◌, Option, Some, None, true, false, refl}
use Rattle.std.specs.Prelude.{slice_get, ◌==◌}
use Rattle.fluent_syntax_tree.specs.Kind.{Kind}
use Rattle.fluent_syntax_tree.specs.Tree.{PatternTree}
use Rattle.fluent_syntax_tree.specs.Entry.{AttributeTree, EntryTree}
use Rattle.fluent_syntax_tree.specs.Every.{list_every}
use Rattle.fluent_syntax_grammar.specs.Grammar.{family}
use Rattle.fluent_syntax_grammar.specs.Places.{holds, has_byte}
use Rattle.fluent_syntax_grammar.specs.Construct.{Read, Construct, chosen, first, second}
use Rattle.fluent_syntax_grammar.specs.Entries.{message_with, term_with, message_entry, term_entry}
use Rattle.fluent_syntax_grammar.specs.Tiling.{Tile, Tiled, done, next, entry_of, TileAt, reads, refuses, RuntimeTileAt}
use Rattle.fluent_syntax_grammar.specs.Tiling.{drops, keeps_tile}
use Rattle.fluent_syntax_tree.specs.declared.edition.Edition.{Edition}
use Rattle.fluent_syntax_tree.specs.declared.spans.Span.{Span}
use Rattle.fluent_syntax_grammar.proofs.HoareTriple.{HoareTriple, holds_bind, yields_meets_triple, holds_fails_from}
use Rattle.fluent_syntax_grammar.proofs.Runtime.{IsBare, IsBareTile}
use Rattle.fluent_syntax_grammar.proofs.Facts.{absurd_test}

abbrev AnyPlace : ℕ → Type 0
AnyPlace i = Unit {0}

abbrev AnyValue : {A : Type 0} → A → ℕ → Type 0
AnyValue a i = Unit {0}

abbrev AnyFault : Kind → ℕ → ℕ → Type 0
AnyFault k from to = Unit {0}

abbrev Bare : EntryTree Span → ℕ → Type 0
Bare e j = IsBare e

any_triple_holds : {A : Type 0} {c : Construct A} → HoareTriple AnyPlace c AnyValue AnyFault
any_triple_holds = record { on_read = λ i j a p x. tt; on_refused = λ i from to k p x. tt }

module _ (edition : Edition) (t : List ℕ) where
  message_of_parts_is_bare : (start : ℕ) (id : Span) (value : Option (PatternTree Span))
      (rest : List (AttributeTree Span)) → HoareTriple AnyPlace (message_with t start id value rest) Bare AnyFault
  message_of_parts_is_bare start id None [] = holds_fails_from (λ i p. tt)
  message_of_parts_is_bare start id None (a ∷ rest) = yields_meets_triple (λ i p. refl)
  message_of_parts_is_bare start id (Some value) rest = yields_meets_triple (λ i p. refl)

  term_of_parts_is_bare : (start : ℕ) (id : Span) (value : Option (PatternTree Span))
      (rest : List (AttributeTree Span)) → HoareTriple AnyPlace (term_with t start id value rest) Bare AnyFault
  term_of_parts_is_bare start id None rest = holds_fails_from (λ i p. tt)
  term_of_parts_is_bare start id (Some value) rest = yields_meets_triple (λ i p. refl)

  pub read_message_is_bare : HoareTriple AnyPlace (message_entry edition t) Bare AnyFault
  read_message_is_bare =
      holds_bind {mid = AnyValue} any_triple_holds
      (λ start. holds_bind {mid = AnyValue} any_triple_holds
      (λ id. holds_bind {mid = AnyValue} any_triple_holds (λ u. holds_bind {mid = AnyValue} any_triple_holds (λ v.
      holds_bind {mid = AnyValue} any_triple_holds
      (λ value. holds_bind {mid = AnyValue} any_triple_holds
      (λ w. holds_bind {mid = AnyValue} any_triple_holds (λ rest. message_of_parts_is_bare start id value rest)))))))

  pub read_term_is_bare : HoareTriple AnyPlace (term_entry edition t) Bare AnyFault
  read_term_is_bare =
      holds_bind {mid = AnyValue} any_triple_holds
      (λ start. holds_bind {mid = AnyValue} any_triple_holds
      (λ z. holds_bind {mid = AnyValue} any_triple_holds
      (λ id. holds_bind {mid = AnyValue} any_triple_holds (λ u. holds_bind {mid = AnyValue} any_triple_holds (λ v.
      holds_bind {mid = AnyValue} any_triple_holds
      (λ value. holds_bind {mid = AnyValue} any_triple_holds
      (λ w. holds_bind {mid = AnyValue} any_triple_holds (λ rest. term_of_parts_is_bare start id value rest))))))))

  byte_equal_to_hash_passes_hash_test : (i b : ℕ) (o : Option ℕ) → o ≡ Some b → (b == 35) ≡ true →
      holds (λ c. c == 35) o ≡ true
  byte_equal_to_hash_passes_hash_test i b o e f = rw e f

  entry_is_bare : (i j : ℕ) (e : EntryTree Span) (o : Option ℕ) → slice_get t i ≡ o → has_byte t 35 i ≡ false →
      entry_of edition t (family edition t) o i (Read e j) → IsBare e
  entry_is_bare i j e None p h x = read_message_is_bare.on_read i j e tt x
  entry_is_bare i j e (Some b) p h (first f x) =
      absurd_test (byte_equal_to_hash_passes_hash_test i b (slice_get t i) p f) h
  entry_is_bare i j e (Some b) p h (second f (first g x)) = read_term_is_bare.on_read i j e tt x
  entry_is_bare i j e (Some b) p h (second f (second g x)) = read_message_is_bare.on_read i j e tt x

  -- where there is no `#` the tile is none of a comment
  pub tile_off_hash_is_bare : (i j : ℕ) (tile : Tile) → has_byte t 35 i ≡ false → TileAt edition t i j tile →
      IsBareTile tile
  tile_off_hash_is_bare i j tile h (reads {e = e} (chosen x)) = entry_is_bare i j e (slice_get t i) refl h x
  tile_off_hash_is_bare i j tile h (refuses x y) = tt

  runtime_tile_is_bare : (i j : ℕ) (tile : Tile) → RuntimeTileAt edition t i j tile → IsBareTile tile
  runtime_tile_is_bare i j tile (drops h x) = tt
  runtime_tile_is_bare i j tile (keeps_tile h x) = tile_off_hash_is_bare i j tile h x

  -- the tiling without comments has none
  pub runtime_tiles_are_bare : (i : ℕ) (tiles : List Tile) → Tiled t (RuntimeTileAt edition t) i tiles →
      list_every IsBareTile tiles
  runtime_tiles_are_bare i tiles (done b) = tt
  runtime_tiles_are_bare i tiles (next {start = s} {end = j} {tile = x} {tiles = more} b l y m) =
      (runtime_tile_is_bare s j x y, runtime_tiles_are_bare j more m)
