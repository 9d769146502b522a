use Rattle.std.proofs.Common.{◌≡◌, ◌++◌, map}
use Rattle.std.specs.Vec.Iter.{into_iter_items}
use Rattle.fluent_syntax_tree.specs.View.{element_view}
use Rattle.fluent_syntax_parser.specs.Elements.{element_of, item_view}
use Rattle.fluent_syntax_parser.proofs.reader.Reader.add_elements.Given as goal

-- what was added, and what is left to add, are together what is to be added
abbrev pub invariant-loop-item : goal.invariant-loop-item
invariant-loop-item g l =
    let f = g.M.MakeTexts.source l.self.texts.now in
    let v = g.M.MakeTexts.made in
    record {
      whole :
          map (element_view v) l.elements.items
          ++ map (element_of f) (map (item_view v) (into_iter_items l.item-iterator))
          ≡ map (element_view v) l.fn.elements.items ++ map (element_of f) (map (item_view v) l.fn.items.items);
    }
