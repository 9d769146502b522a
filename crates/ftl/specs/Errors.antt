-- The syntax errors of a text.
use Rattle.std.specs.Prelude.{◌≡◌, ◌++◌, ◌∷◌, ℕ, List, [], map, Option, Some, None}
use Rattle.fluent_syntax_grammar.specs.Body.{faults}
use Rattle.fluent_syntax_grammar.specs.Tiling.{Tile, Tiling}
use Rattle.fluent_syntax_parser.specs.Faults.{fault_of}
use Rattle.fluent_syntax_tree.specs.declared.edition.Edition.{Edition}
use Rattle.fluent_syntax_tree.specs.declared.errors.ParserError.{ParserError}

-- The errors are those of the text, in order.
abbrev pub HasErrors : Edition → List ℕ → List ParserError → Type 0
HasErrors edition text errors =
    (tiles : List Tile) × Tiling edition text tiles × (map fault_of errors ≡ map Some (faults tiles))

-- the errors with one more after them, if there is one
abbrev pub with_error : List ParserError → Option ParserError → List ParserError
with_error errors None = errors
with_error errors (Some error) = errors ++ error ∷ []
