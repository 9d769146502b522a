-- What there is at a place of a text, as it is given.
use Rattle.std.specs.Prelude.{◌≡◌, ℕ, ◌<◌, List, [], ◌∷◌, length, map, Option, Some, None}
use Rattle.fluent_syntax_tree.specs.declared.ast.Entry.{Entry}
use Rattle.fluent_syntax_tree.specs.declared.edition.Edition.{Edition}
use Rattle.fluent_syntax_tree.specs.declared.errors.ParserError.{ParserError}
use Rattle.fluent_syntax_tree.specs.declared.spans.Span.{Span}
use Rattle.fluent_syntax_grammar.specs.Body.{alone, faults}
use Rattle.fluent_syntax_grammar.specs.Places.{BlankBlock}
use Rattle.fluent_syntax_grammar.specs.Tiling.{Tile, TileAt}
use Rattle.fluent_syntax_parser.specs.Rest.{faults_of, tree_of}
use Rattle.fluent_syntax_parser.specs.declared.tiles.SpannedTile.{SpannedTile}

-- The tile gives that entry by itself, and that error, if there is one.
pub record Gives (tile : Tile) (e : Entry Span) (error : Option ParserError) : Type 0 where
  pub entry : alone tile ≡ tree_of e ∷ []
  pub errors : map Some (faults (tile ∷ [])) ≡ faults_of error

-- From the one place to the other there is a blank block, and then what was found.
pub record TileTo (edition : Edition) (t : List ℕ) (i j : ℕ) (found : SpannedTile) : Type 0 where
  pub tile : Tile
  pub blank : BlankBlock t i found.span.start
  pub inside : found.span.start < length t
  pub in_place : TileAt edition t found.span.start found.span.end tile
  pub yields : Gives tile found.entry found.error
  pub ends : j ≡ found.span.end

-- What comes next from the place on: what was found, up to the other place; or nothing but a blank block is left.
abbrev pub NextTile : Edition → List ℕ → (i j : ℕ) → Option SpannedTile → Type 0
NextTile edition t i j None = BlankBlock t i (length t)
NextTile edition t i j (Some found) = TileTo edition t i j found
