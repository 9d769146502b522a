use Rattle.std.proofs.Common.{◌≡◌, ◌++◌, map}
use Rattle.std.specs.Vec.Iter.{into_iter_items}
use Rattle.fluent_syntax_grammar.specs.Elements.{with_ending}
use Rattle.fluent_syntax_parser.specs.Elements.{item_shape, leading, pending_run}
use Rattle.fluent_syntax_parser.specs.Lines.{ending_view, piece_shape}
use Rattle.fluent_syntax_parser.proofs.pattern.elements.add_pieces.Given as goal

-- what was added, and what is left to add, are together what is to be added
abbrev pub invariant-loop-piece : goal.invariant-loop-piece
invariant-loop-piece g l = record {
  whole :
      map item_shape l.items.items
      ++ with_ending (pending_run l.pending (leading l.led (map piece_shape (into_iter_items l.piece-iterator))))
      (ending_view l.ending)
      ≡ map item_shape l.fn.items.items
      ++ with_ending (leading l.fn.led (map piece_shape l.fn.pieces.items)) (ending_view l.ending);
}
