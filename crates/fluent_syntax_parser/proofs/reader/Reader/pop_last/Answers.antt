use Rattle.std.proofs.Common.{sym}
use Rattle.fluent_syntax_parser.proofs.patterns.Cut.{popped_item_that_stays_ends_cut, popped_item_that_falls_leaves_cut}
use Rattle.fluent_syntax_parser.proofs.reader.Reader.pop_last.Goals as goal

pub returns-then-stays : goal.returns-then-stays
returns-then-stays g c =
    popped_item_that_stays_ends_cut g.M.MakeTexts.made c.args.self.now.source.bytes.now c.args.items.now.items
    c.loop-last.items.items
    c.pop.new.self.items
    c.in-Some.last c.in-Some.ensures.items
    (sym c.if-stays.ensures)
    c.loop-last.invariant.same

pub loop-last-preserved : goal.loop-last-preserved
loop-last-preserved g c = record {
  same =
      popped_item_that_falls_leaves_cut g.M.MakeTexts.made c.args.self.now.source.bytes.now c.args.items.now.items
      c.loop-last.items.items
      c.pop.new.self.items
      c.in-Some.last c.in-Some.ensures.items
      (sym c.if-stays.ensures)
      c.loop-last.invariant.same;
}
