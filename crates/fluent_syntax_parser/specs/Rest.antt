-- What is left of a text that is read entry by entry.
use Rattle.std.specs.Prelude.{◌≡◌, ℕ, ◌<◌, ◌≤◌, List, [], ◌∷◌, ◌++◌, length, map, Option, Some, None, Bool, true, false}
use Rattle.std.specs.Prelude.{Result}
use Rattle.fluent_syntax_tree.specs.Entry.{BodyTree, EntryTree, comment, regular}
use Rattle.fluent_syntax_tree.specs.View.{entry_view}
use Rattle.fluent_syntax_tree.specs.declared.ast.Entry.{Entry}
use Rattle.fluent_syntax_tree.specs.declared.ast.Resource.{Resource}
use Rattle.fluent_syntax_tree.specs.declared.edition.Edition.{Edition}
use Rattle.fluent_syntax_tree.specs.declared.errors.ParserError.{ParserError}
use Rattle.fluent_syntax_tree.specs.declared.spans.Span.{Span}
use Rattle.fluent_syntax_grammar.specs.Body.{alone, body, faults}
use Rattle.fluent_syntax_grammar.specs.Bytes.{hash}
use Rattle.fluent_syntax_grammar.specs.Family.{Family}
use Rattle.fluent_syntax_grammar.specs.Grammar.{family, within}
use Rattle.fluent_syntax_grammar.specs.Places.{has_byte}
use Rattle.fluent_syntax_grammar.specs.Tiling as tiling
use Rattle.fluent_syntax_grammar.specs.Tiling.{Fault, Tile, entry, Tiled, TileAt, RuntimeTileIn}
use Rattle.fluent_syntax_parser.specs.Answers.{Answers}
use Rattle.fluent_syntax_parser.specs.Faults.{fault_of}
use Rattle.fluent_syntax_parser.specs.declared.fault.ParseFault.{ParseFault}
use Rattle.fluent_syntax_parser.specs.declared.options.Comments.{Comments}
use Rattle.fluent_syntax_parser.specs.declared.options.Comments.TheVariants.{Kept, Dropped}

-- the tree of an entry
abbrev pub tree_of : Entry Span → EntryTree Span
tree_of e = entry_view (λ s. s) e

-- the faults that an error reports, if there is one
abbrev pub faults_of : Option ParserError → List (Option Fault)
faults_of None = []
faults_of (Some error) = fault_of error ∷ []

-- whether the entry is a comment of level 1
abbrev pub may_attach : {X : Type 0} → EntryTree X → Bool
may_attach (comment regular content) = true
may_attach e = false

-- whether comments are dropped
abbrev pub are_dropped : Comments → Bool
are_dropped Kept = false
are_dropped Dropped = true

-- the tile between two places, with comments or without, over a family
abbrev pub TileIn : Comments → Edition → List ℕ → Family → (i j : ℕ) → Tile → Type 0
TileIn Kept edition t R = tiling.TileIn edition t R
TileIn Dropped edition t R = RuntimeTileIn edition t R

-- A tile that nests no deeper than n is from i to j, and gives that entry and that error, if there is one.
pub record GivesTile (edition : Edition) (t : List ℕ) (n i j : ℕ) (e : EntryTree Span)
    (error : Option ParserError) : Type 0 where
  pub tile : Tile
  pub in_place : tiling.TileIn edition t (within edition t n) i j tile
  pub entry : alone tile ≡ e ∷ []
  pub errors : map Some (faults (tile ∷ [])) ≡ faults_of error

-- From the place on, the tiles of the text have this body and these errors.
pub record Rest (comments : Comments) (edition : Edition) (t : List ℕ) (i : ℕ) (entries : BodyTree Span)
    (errors : List (Option Fault)) : Type 0 where
  pub tiles : List Tile
  pub tiled : Tiled t (TileIn comments edition t (family edition t)) i tiles
  pub yields : body tiles ≡ entries
  pub errors_are : map Some (faults tiles) ≡ errors

-- the tiles from a place on, at which no blank block is left
pub data TiledHere (t : List ℕ) (at : (i j : ℕ) → Tile → Type 0) : ℕ → List Tile → Type 0 where
  at_end : {i : ℕ} → i ≡ length t → TiledHere t at i []
  at_tile : {i end : ℕ} {tile : Tile} {tiles : List Tile} → i < length t → at i end tile → Tiled t at end tiles →
      TiledHere t at i (tile ∷ tiles)

-- From a place on, at which no blank block is left, the tiles nest deeper than n.
abbrev pub TileDeeper : Edition → (t : List ℕ) → (at : Family → (i j : ℕ) → Tile → Type 0) → (n i : ℕ) → Type 0
TileDeeper edition t at n i = (tiles : List Tile) → TiledHere t (at (within edition t n)) i tiles → ⊥

-- The rest from a place on, at which no blank block is left.
pub record RestAt (comments : Comments) (edition : Edition) (t : List ℕ) (i : ℕ) (entries : BodyTree Span)
    (errors : List (Option Fault)) : Type 0 where
  pub tiles : List Tile
  pub tiled_here : TiledHere t (TileIn comments edition t (family edition t)) i tiles
  pub yields : body tiles ≡ entries
  pub errors_are : map Some (faults tiles) ≡ errors

-- After a comment of level 1 that ends at the place there is that entry, with it or it itself, and the rest from the
-- other place on.
abbrev pub Attaches : Edition → List ℕ → List Span → ℕ → EntryTree Span → ℕ → Type 0
Attaches edition t content ptr e j =
    (i : ℕ) (entries : BodyTree Span) (errors : List (Option Fault)) → Rest Kept edition t j entries errors →
    (tiles : List Tile) × Tiled t (TileAt edition t) ptr tiles ×
    (body (entry (record { start = i; end = ptr }) (comment regular content) ∷ tiles) ≡ e ∷ entries) ×
    (map Some (faults tiles) ≡ errors)

-- From the one place to the other there are that entry and those errors, before whatever the rest is.
abbrev pub EntryTo : Comments → Edition → List ℕ → (i j : ℕ) → EntryTree Span → List (Option Fault) → Type 0
EntryTo comments edition t i j e faults =
    (entries : BodyTree Span) (errors : List (Option Fault)) → Rest comments edition t j entries errors →
    Rest comments edition t i (e ∷ entries) (faults ++ errors)

-- The entry begins at the start: from the one place up to it are blank lines, and comments where these are dropped.
pub record EntryAt (comments : Comments) (edition : Edition) (t : List ℕ) (i start j : ℕ) (e : EntryTree Span)
    (faults : List (Option Fault)) : Type 0 where
  pub order : (i ≤ start) × (start < j)
  pub kept : are_dropped comments ≡ true → has_byte t hash start ≡ false
  pub before : (entries : BodyTree Span) (errors : List (Option Fault)) →
      RestAt comments edition t start entries errors → Rest comments edition t i entries errors
  pub in_place : (entries : BodyTree Span) (errors : List (Option Fault)) → Rest comments edition t j entries errors →
      RestAt comments edition t start (e ∷ entries) (faults ++ errors)

-- What is read from the one place to the other, and where it begins: that entry, with its error if there is one, before
-- whatever the rest is from there on; or nothing, and nothing is left.
abbrev pub NextTo : Comments → Edition → List ℕ → (i start j : ℕ) → Option (Entry Span × Option ParserError) → Type 0
NextTo comments edition t i start j None = Rest comments edition t i [] []
NextTo comments edition t i start j (Some read) =
    EntryAt comments edition t i start j (tree_of read.0) (faults_of read.1)

-- The same where only the error is given.
abbrev pub NextError : Comments → Edition → List ℕ → (i start j : ℕ) → Option (Option ParserError) → Type 0
NextError comments edition t i start j None = Rest comments edition t i [] []
NextError comments edition t i start j (Some error) =
    (e : EntryTree Span) × EntryAt comments edition t i start j e (faults_of error)

-- The text up to the place is some entries and errors, before whatever the rest is from there on.
pub record ReadSoFar (comments : Comments) (edition : Edition) (t : List ℕ) (i : ℕ) : Type 0 where
  pub entries : BodyTree Span
  pub errors : List (Option Fault)
  pub rest : (others : BodyTree Span) (more : List (Option Fault)) → Rest comments edition t i others more →
      Rest comments edition t 0 (entries ++ others) (errors ++ more)

-- ---- Answers

-- The answer is that of a tiling of the text, with comments or without.
abbrev pub AnswersIn : {S X : Type 0} → (S → X) → (BodyTree Span → BodyTree X) → Comments → Edition → List ℕ →
    Result (Resource S) (ParseFault S) → Type 0
AnswersIn text whole comments edition t result =
    (tiles : List Tile) × Tiled t (TileIn comments edition t (family edition t)) 0 tiles ×
    Answers text whole tiles result

-- The same with the ranges of the texts as they are.
abbrev pub AnswersSpansIn : Comments → Edition → List ℕ → Result (Resource Span) (ParseFault Span) → Type 0
AnswersSpansIn comments edition t result = AnswersIn (λ s. s) (λ b. b) comments edition t result
