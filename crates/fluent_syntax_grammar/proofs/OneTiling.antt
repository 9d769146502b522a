-- A text has at most one tiling and at most one tiling without comments.
use Rattle.std.proofs.Common.{◌≡◌, ℕ, ◌<◌, List, refl, sym, ◌∙◌, subst, arith, inl, inr}
use Rattle.std.proofs.lemmas.Bool.{false≢true}
use Rattle.fluent_syntax_grammar.specs.Family.{Family}
use Rattle.fluent_syntax_grammar.specs.Grammar.{family}
use Rattle.fluent_syntax_grammar.specs.Tiling.{TileIn, RuntimeTileIn}
use Rattle.fluent_syntax_grammar.proofs.FunctionalRules.{IsFunctionalFamily}
use Rattle.fluent_syntax_grammar.proofs.Nesting.{family_is_functional}
use Rattle.fluent_syntax_grammar.specs.Tiling.{Tile, failing_place, JunkEnd, whole_line, Tiled, done, next, TileAt}
use Rattle.fluent_syntax_grammar.specs.Tiling.{reads, refuses, RuntimeTileAt, drops, keeps_tile, Tiling, RuntimeTiling}
use Rattle.fluent_syntax_tree.specs.declared.edition.Edition.{Edition}
use Rattle.fluent_syntax_grammar.specs.UniqueReading.{IsFunctional}
use Rattle.fluent_syntax_grammar.proofs.Functional.{functional, blank_block_ends_at_one_place}
use Rattle.fluent_syntax_grammar.proofs.FunctionalWords.{rest_of_line_is_functional, optional_eol_is_functional}
use Rattle.fluent_syntax_grammar.proofs.FunctionalEntries.{entry_in_is_functional}

module _ (t : List ℕ) where
  junk_ends_not_before_other_end : (place end other : ℕ) → JunkEnd t place end → JunkEnd t place other → end < other → ⊥
  junk_ends_not_before_other_end place end other a b l = let in_text = b.in_text in
      elim a.stop [ inl e ↦ false≢true (sym (b.nearest end a.forward l) ∙ e) | inr e ↦ omega arith ]

  -- junk has one end
  pub junk_end_is_unique : (place end other : ℕ) → JunkEnd t place end → JunkEnd t place other → end ≡ other
  junk_end_is_unique place end other a b = grind
      (arith, junk_ends_not_before_other_end place end other a b, junk_ends_not_before_other_end place other end b a)

  pub whole_line_is_functional : IsFunctional (whole_line t)
  whole_line_is_functional = search (functional, rest_of_line_is_functional, optional_eol_is_functional) depth 30

-- At each place there is at most one tile, with one end.
pub record IsOneTile (at : (i j : ℕ) → Tile → Type 0) : Type 0 where
  pub same_end : (i j k : ℕ) (x y : Tile) → at i j x → at i k y → j ≡ k
  pub same_tile : (i j k : ℕ) (x y : Tile) → at i j x → at i k y → x ≡ y

pub tiled_is_unique : (t : List ℕ) (at : (i j : ℕ) → Tile → Type 0) → IsOneTile at → (i : ℕ) (xs ys : List Tile) →
    Tiled t at i xs → Tiled t at i ys → xs ≡ ys
tiled_is_unique t at one i xs ys (done a) (done b) = refl
tiled_is_unique t at one i xs ys (done a) (next b l c d) = let h = blank_block_ends_at_one_place.same i _ _ a b in
    absurd (omega arith)
tiled_is_unique t at one i xs ys (next a l b c) (done d) = let h = blank_block_ends_at_one_place.same i _ _ a d in
    absurd (omega arith)
tiled_is_unique t at one i xs ys (next {start = start} {end = j} {tile = x} {tiles = more} a l b c)
    (next {start = start'} {end = k} {tile = y} {tiles = others} d m e f) =
    let same_start : start ≡ start' = blank_block_ends_at_one_place.same i _ _ a d in
    let e' = subst (λ s. at s k y) (sym same_start) e in
    let same_end : j ≡ k = one.same_end start j k x y b e' in
    let same_tile : x ≡ y = one.same_tile start j k x y b e' in
    let rest : more ≡ others =
    tiled_is_unique t at one j more others c (subst (λ k. Tiled t at k others) (sym same_end) f) in
    cc

module _ (edition : Edition) (t : List ℕ) (R : Family) (h : IsFunctionalFamily R) where
  tile_end_is_unique : (i j k : ℕ) (x y : Tile) → TileIn edition t R i j x → TileIn edition t R i k y → j ≡ k
  tile_end_is_unique i j k x y (reads a) (reads b) = let g = (entry_in_is_functional edition t R h).same i _ _ a b in cc
  tile_end_is_unique i j k x y (reads a) (refuses b c) =
      let g = (entry_in_is_functional edition t R h).same i _ _ a b in cc
  tile_end_is_unique i j k x y (refuses a b) (reads c) =
      let g = (entry_in_is_functional edition t R h).same i _ _ a c in cc
  tile_end_is_unique i j k x y (refuses {from = from} {to = to} {k = kind} a b)
      (refuses {from = from'} {to = to'} {k = kind'} c d) =
      let g = (entry_in_is_functional edition t R h).same i _ _ a c in
      let same_kind : kind ≡ kind' = cc in
      let same_from : from ≡ from' = cc in
      let same_to : to ≡ to' = cc in
      let place : failing_place kind from to ≡ failing_place kind' from' to' = cc in
      junk_end_is_unique t _ j k b (subst (λ p. JunkEnd t p k) (sym place) d)

  tile_is_unique : (i j k : ℕ) (x y : Tile) → TileIn edition t R i j x → TileIn edition t R i k y → x ≡ y
  tile_is_unique i j k x y (reads a) (reads b) = let g = (entry_in_is_functional edition t R h).same i _ _ a b in cc
  tile_is_unique i j k x y (reads a) (refuses b c) = let g = (entry_in_is_functional edition t R h).same i _ _ a b in cc
  tile_is_unique i j k x y (refuses a b) (reads c) = let g = (entry_in_is_functional edition t R h).same i _ _ a c in cc
  tile_is_unique i j k x y (refuses a b) (refuses c d) =
      let g = (entry_in_is_functional edition t R h).same i _ _ a c in
      let same_end : j ≡ k = tile_end_is_unique i j k _ _ (refuses a b) (refuses c d) in
      cc

  pub tile_in_functional_family_is_one : IsOneTile (TileIn edition t R)
  tile_in_functional_family_is_one = record { same_end = tile_end_is_unique; same_tile = tile_is_unique }

  runtime_tile_end_is_unique : (i j k : ℕ) (x y : Tile) → RuntimeTileIn edition t R i j x →
      RuntimeTileIn edition t R i k y → j ≡ k
  runtime_tile_end_is_unique i j k x y (drops a b) (drops c d) =
      let g = (whole_line_is_functional t).same i _ _ b d in cc
  runtime_tile_end_is_unique i j k x y (drops a b) (keeps_tile c d) = cc
  runtime_tile_end_is_unique i j k x y (keeps_tile a b) (drops c d) = cc
  runtime_tile_end_is_unique i j k x y (keeps_tile a b) (keeps_tile c d) = tile_end_is_unique i j k _ _ b d

  runtime_tile_is_unique : (i j k : ℕ) (x y : Tile) → RuntimeTileIn edition t R i j x →
      RuntimeTileIn edition t R i k y → x ≡ y
  runtime_tile_is_unique i j k x y (drops a b) (drops c d) = refl
  runtime_tile_is_unique i j k x y (drops a b) (keeps_tile c d) = cc
  runtime_tile_is_unique i j k x y (keeps_tile a b) (drops c d) = cc
  runtime_tile_is_unique i j k x y (keeps_tile a b) (keeps_tile c d) = tile_is_unique i j k _ _ b d

  pub one_runtime_tile_in : IsOneTile (RuntimeTileIn edition t R)
  one_runtime_tile_in = record { same_end = runtime_tile_end_is_unique; same_tile = runtime_tile_is_unique }

module _ (edition : Edition) (t : List ℕ) where
  pub tile_of_text_is_one : IsOneTile (TileAt edition t)
  tile_of_text_is_one = tile_in_functional_family_is_one edition t (family edition t) (family_is_functional edition t)

  pub runtime_tile_of_text_is_one : IsOneTile (RuntimeTileAt edition t)
  runtime_tile_of_text_is_one = one_runtime_tile_in edition t (family edition t) (family_is_functional edition t)

  -- a text has at most one tiling
  pub tilings_of_text_are_same : (xs ys : List Tile) → Tiling edition t xs → Tiling edition t ys → xs ≡ ys
  tilings_of_text_are_same xs ys a b = tiled_is_unique t (TileAt edition t) tile_of_text_is_one 0 xs ys a b

  -- a text has at most one tiling without comments
  pub runtime_tilings_of_text_are_equal : (xs ys : List Tile) → RuntimeTiling edition t xs →
      RuntimeTiling edition t ys → xs ≡ ys
  runtime_tilings_of_text_are_equal xs ys a b =
      tiled_is_unique t (RuntimeTileAt edition t) runtime_tile_of_text_is_one 0 xs ys a b
