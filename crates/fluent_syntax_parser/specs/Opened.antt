-- What a reader has made of the line on which a pattern opens.
use Rattle.std.specs.Prelude.{◌≡◌, ◌≤◌, ℕ, List, [], ◌∷◌, ◌++◌, map, Option, option_map, Result, Ok, Err}
use Rattle.fluent_syntax_tree.specs.Tree.{ElementTree, ExpressionTree}
use Rattle.fluent_syntax_tree.specs.View.{element_view}
use Rattle.fluent_syntax_tree.specs.declared.ast.PatternElement.{PatternElement}
use Rattle.fluent_syntax_tree.specs.declared.spans.Span.{Span}
use Rattle.fluent_syntax_grammar.specs.Construct.{Construct, Read, peek}
use Rattle.fluent_syntax_grammar.specs.Elements.{ItemOf, placeable_item, opening_items, text}
use Rattle.fluent_syntax_grammar.specs.Family.{Family}
use Rattle.fluent_syntax_grammar.specs.Layout as layout
use Rattle.fluent_syntax_grammar.specs.Layout.{Layout, Line, PieceOf, placed, run}
use Rattle.fluent_syntax_grammar.specs.Lines.{more_lines}
use Rattle.fluent_syntax_grammar.specs.Patterns.{layout_at}
use Rattle.fluent_syntax_grammar.specs.Places.{after_eol}
use Rattle.fluent_syntax_parser.specs.Elements.{EndsAt, element_of, rest_items}
use Rattle.fluent_syntax_parser.specs.Layouts.{line_of, piece_of}
use Rattle.fluent_syntax_parser.specs.Lines.{ending_view}
use Rattle.fluent_syntax_parser.specs.Outcomes.{Fails}
use Rattle.fluent_syntax_parser.specs.declared.fault.ReadFault.{ReadFault}
use Rattle.fluent_syntax_parser.specs.declared.pattern.line.OpeningEnd.{OpeningEnd}

module _ {E : Type 0} where
  -- a piece as an item
  abbrev pub as_item : PieceOf E → ItemOf E
  as_item (run from to) = text from to
  as_item (placed e) = placeable_item e

  -- After each run of the pieces comes a placeable, so the elements of these pieces don't depend on what follows.
  pub data Settled : List (PieceOf E) → Type 0 where
    none : Settled []
    by_placeable : {e : E} {ps : List (PieceOf E)} → Settled ps → Settled (placed e ∷ ps)
    by_run : {from to : ℕ} {e : E} {ps : List (PieceOf E)} → Settled (placed e ∷ ps) →
        Settled (run from to ∷ placed e ∷ ps)

-- the element that a piece is which others follow, with f of each text
abbrev pub piece_element : {X : Type 0} → (Span → X) → layout.Piece → ElementTree X
piece_element f p = element_of f (as_item (piece_of f p))

module _ {S X : Type 0} (t : List ℕ) (R : Family) (f : Span → X) (v : S → X) (i : ℕ) where
  -- the layout of a pattern, after the inline blank that opens it
  abbrev pub LayoutAfterBlank : Construct Layout
  LayoutAfterBlank = peek (after_eol t) (layout_at t R)

  -- The elements are those of the pieces of the line on which the layout opens, if it opens on one, up to its last
  -- placeable; its other lines begin at j.
  pub record Opened (elements : List (PatternElement S)) (rest : OpeningEnd) (j : ℕ) : Type 0 where
    pub opening : Option Line
    pub pieces : List (PieceOf (ExpressionTree X))
    pub settled : Settled pieces
    pub made : map (element_view v) elements ≡ map (element_of f) (map as_item pieces)
    pub same : opening_items (option_map (line_of f) opening) ≡ map as_item pieces ++ rest_items rest
    pub read : (ls : List Line) (end : ℕ) → more_lines t R j (Read ls end) →
        LayoutAfterBlank i (Read (record { opening = opening; lines = ls }) end)
    pub fails : (e : ReadFault) → Fails t (more_lines t R) j e → Fails t LayoutAfterBlank i e

  abbrev pub Opens : List (PatternElement S) → Result (OpeningEnd × ℕ) ReadFault → Type 0
  Opens elements (Ok x) = Opened elements x.0 x.1
  Opens elements (Err e) = Fails t LayoutAfterBlank i e

-- The run does not end before it begins, and the ending is that of its line.
abbrev pub IsRest : List ℕ → OpeningEnd → Type 0
IsRest t rest = (rest.run.start ≤ rest.run.end) × EndsAt t rest.run.end (ending_view rest.ending)
