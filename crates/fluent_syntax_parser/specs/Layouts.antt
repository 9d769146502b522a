-- Layouts and items with h of what represents each placeable.
use Rattle.std.specs.Prelude.{map}
use Rattle.fluent_syntax_tree.specs.Tree.{ExpressionTree, expression_map}
use Rattle.fluent_syntax_tree.specs.declared.spans.Span.{Span}
use Rattle.fluent_syntax_grammar.specs.Elements.{Item, ItemOf, text, placeable_item}
use Rattle.fluent_syntax_grammar.specs.Layout.{Line, LineOf, Piece, PieceOf, run, placed}

module _ {E F : Type 0} (h : E → F) where
  abbrev pub piece_map : PieceOf E → PieceOf F
  piece_map (run from to) = run from to
  piece_map (placed e) = placed (h e)

  abbrev pub line_map : LineOf E → LineOf F
  line_map l = record { start = l.start; spaces = l.spaces; pieces = map piece_map l.pieces; ending = l.ending }

  abbrev pub item_map : ItemOf E → ItemOf F
  item_map (text from to) = text from to
  item_map (placeable_item e) = placeable_item (h e)

-- with f of each text in its place
module _ {X : Type 0} (f : Span → X) where
  abbrev pub piece_of : Piece → PieceOf (ExpressionTree X)
  piece_of = piece_map (expression_map f)

  abbrev pub line_of : Line → LineOf (ExpressionTree X)
  line_of = line_map (expression_map f)

  abbrev pub item_of : Item → ItemOf (ExpressionTree X)
  item_of = item_map (expression_map f)
