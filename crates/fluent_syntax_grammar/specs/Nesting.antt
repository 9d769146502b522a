-- How deeply a text nests: how many placeables and argument lists are open at once.
use Rattle.std.specs.Prelude.{ℕ, List}
use Rattle.fluent_syntax_tree.specs.declared.edition.Edition.{Edition}
use Rattle.fluent_syntax_grammar.specs.Construct.{Outcome, Construct}
use Rattle.fluent_syntax_grammar.specs.Family.{Family}
use Rattle.fluent_syntax_grammar.specs.Grammar.{within}
use Rattle.fluent_syntax_grammar.specs.Tiling.{RuntimeTileIn, Tile, Tiled, TileIn}

-- What nests too deeply at the place: the construct has no outcome there. A construct over the family within n has an
-- outcome, namely its own, but where reading it comes to the `{` of a placeable or the `(` of an argument list inside n
-- that are open. What was opened before a refusal counts too.
abbrev pub TooDeep : {A : Type 0} → Construct A → ℕ → Type 0
TooDeep c i = (o : Outcome _) → c i o → ⊥

module _ (edition : Edition) (t : List ℕ) where
  -- From the place on the tiles nest deeper than n: within n there is no tiling from there. `at` says which tiles are
  -- where, over a family.
  abbrev pub TextDeeper : (at : Family → (i j : ℕ) → Tile → Type 0) → (n i : ℕ) → Type 0
  TextDeeper at n i = (tiles : List Tile) → Tiled t (at (within edition t n)) i tiles → ⊥

-- The text nests deeper than n.
abbrev pub NestsDeeper : Edition → List ℕ → (n : ℕ) → Type 0
NestsDeeper edition t n = TextDeeper edition t (TileIn edition t) n 0

-- The same of its tiles without comments.
abbrev pub RuntimeNestsDeeper : Edition → List ℕ → (n : ℕ) → Type 0
RuntimeNestsDeeper edition t n = TextDeeper edition t (RuntimeTileIn edition t) n 0
