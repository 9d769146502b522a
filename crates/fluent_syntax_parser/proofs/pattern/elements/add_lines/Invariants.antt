use Rattle.std.proofs.Common.{◌≡◌, ◌++◌, map}
use Rattle.std.specs.List.{flat_map}
use Rattle.std.specs.Vec.Iter.{into_iter_items}
use Rattle.fluent_syntax_grammar.specs.Elements.{line_items}
use Rattle.fluent_syntax_parser.specs.Elements.{item_shape}
use Rattle.fluent_syntax_parser.specs.Lines.{line_shape}
use Rattle.fluent_syntax_parser.proofs.pattern.elements.add_lines.Given as goal

-- what was added, and what is left to add, are together what is to be added
abbrev pub invariant-loop-line : goal.invariant-loop-line
invariant-loop-line g l = record {
  whole :
      map item_shape l.items.items
      ++ flat_map (line_items l.edition l.common) (map line_shape (into_iter_items l.line-iterator))
      ≡ map item_shape l.fn.items.items ++ flat_map (line_items l.edition l.common) (map line_shape l.fn.lines.items);
}
