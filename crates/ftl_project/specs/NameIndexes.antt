-- What texts say of names.
use Rattle.std.specs.Prelude.{◌≡◌, ◌+◌, ◌<◌, ◌^◌, ℕ, List, [], length}
use Rattle.fluent_syntax_grammar.specs.Body.{body}
use Rattle.fluent_syntax_grammar.specs.Tiling.{Tile, Tiling}
use Rattle.fluent_syntax_names.specs.Mentions.{body_mentions}
use Rattle.fluent_syntax_names.specs.declared.name_index.NameIndex.{NameIndex}
use Rattle.fluent_syntax_tree.specs.declared.edition.Edition.{Edition}

-- The name index is the text and all that the entries of its tiling by the edition say of names.
pub record IsNameIndex (edition : Edition) (t : List ℕ) (name_index : NameIndex) : Type 0 where
  pub tiles : List Tile
  pub has_tiles : Tiling edition t tiles
  pub text_is : name_index.text.now ≡ t
  pub mentions_are : name_index.mentions.items ≡ body_mentions (body tiles) []

-- It is that of no text.
abbrev pub SaysNothing : NameIndex → Type 0
SaysNothing name_index = (name_index.text.now ≡ []) × (name_index.mentions.items ≡ [])

-- One more than its text's length is a number that fits.
abbrev pub IsShort : NameIndex → Type 0
IsShort name_index = length name_index.text.now + 1 < 2 ^ 64
