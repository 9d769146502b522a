use Rattle.std.proofs.Common.{◌≡◌, length, map}
use Rattle.fluent_syntax_grammar.specs.Elements.{cut}
use Rattle.fluent_syntax_parser.specs.Elements.{item_view}
use Rattle.fluent_syntax_parser.proofs.reader.Reader.pop_last.Given as goal

abbrev pub invariant-loop-last : goal.invariant-loop-last
invariant-loop-last g l = record {
  same :
      cut l.self.source.bytes.now (map (item_view g.M.MakeTexts.made) l.items.items)
      ≡ cut l.self.source.bytes.now (map (item_view g.M.MakeTexts.made) l.fn.items.items);
}

abbrev pub decreases-loop-last : goal.decreases-loop-last
decreases-loop-last g l = length l.items.items
