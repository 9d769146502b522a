-- What is read of an input for rows.
use Rattle.std.specs.Prelude.{◌≡◌, ℕ, List, map, Some}
use Rattle.std.specs.Str.{IsUtf8}
use Rattle.fluent_syntax_tree.specs.View.{resource_view}
use Rattle.fluent_syntax_tree.specs.declared.edition.Edition.{Edition}
use Rattle.fluent_syntax_grammar.specs.Body.{body, faults}
use Rattle.fluent_syntax_grammar.specs.Tiling.{Tile, Tiling}
use Rattle.fluent_syntax_parser.specs.Faults.{fault_of}
use Rattle.fluent_syntax_c.specs.Arguments.{edition_number}
use Rattle.fluent_syntax_c.specs.declared.readings.Reading.{Reading}

-- The source is UTF-8, and it was read: its text, and the tree and the errors of its tiling by the edition.
pub record IsReading (edition : Edition) (t : List ℕ) (reading : Reading) : Type 0 where
  pub is_utf8 : IsUtf8 t
  pub text_is : reading.text.now ≡ t
  pub edition_is : reading.edition ≡ edition
  pub tiles : List Tile
  pub has_tiles : Tiling edition t tiles
  pub tree_is : resource_view (λ s. s) reading.tree ≡ body tiles
  pub errors_are : map fault_of reading.errors.items ≡ map Some (faults tiles)

-- The same by the edition of the number.
abbrev pub IsEditionReading : (number : ℕ) (t : List ℕ) → Reading → Type 0
IsEditionReading number t reading =
    (edition : Edition) × (edition_number edition ≡ number) × IsReading edition t reading
