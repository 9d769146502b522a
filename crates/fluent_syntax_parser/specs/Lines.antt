-- The lines that a reader has found.
use Rattle.std.specs.Prelude.{Box, map}
use Rattle.std.specs.Global.{Global}
use Rattle.fluent_syntax_tree.specs.Tree.{ExpressionTree}
use Rattle.fluent_syntax_tree.specs.declared.ast.Expression.{Expression}
use Rattle.fluent_syntax_grammar.specs.Layout as layout
use Rattle.fluent_syntax_grammar.specs.Layout.{PieceOf, LineOf, run, placed, lf_at, crlf_at, text_end}
use Rattle.fluent_syntax_parser.specs.Boxed.{boxed_expression_view}
use Rattle.fluent_syntax_parser.specs.declared.pattern.line.Ending.{Ending}
use Rattle.fluent_syntax_parser.specs.declared.pattern.line.Ending.TheVariants as ends
use Rattle.fluent_syntax_parser.specs.declared.pattern.line.Line.{Line}
use Rattle.fluent_syntax_parser.specs.declared.pattern.line.Piece.{Piece}
use Rattle.fluent_syntax_parser.specs.declared.pattern.line.Piece.TheVariants as piece

abbrev pub ending_view : Ending → layout.Ending
ending_view (ends.Lf p) = lf_at p
ending_view (ends.Crlf p) = crlf_at p
ending_view ends.TextEnd = text_end

module _ {S X : Type 0} (text : S → X) where
  abbrev pub piece_view : Piece S → PieceOf (ExpressionTree X)
  piece_view (piece.Run from to) = run from to
  piece_view (piece.Placed e) = placed (boxed_expression_view text e)

  abbrev pub line_view : Line S → LineOf (ExpressionTree X)
  line_view l = record {
    start = l.start;
    spaces = l.spaces;
    pieces = map piece_view l.pieces.items;
    ending = ending_view l.ending;
  }

-- ---- with each placeable as it is

module _ {S : Type 0} where
  abbrev pub piece_shape : Piece S → PieceOf (Box (Expression S) Global)
  piece_shape (piece.Run from to) = run from to
  piece_shape (piece.Placed e) = placed e

  abbrev pub line_shape : Line S → LineOf (Box (Expression S) Global)
  line_shape l = record {
    start = l.start;
    spaces = l.spaces;
    pieces = map piece_shape l.pieces.items;
    ending = ending_view l.ending;
  }
