use Rattle.std.proofs.lemmas.List.{drop_all}
use Rattle.fluent_syntax_grammar.proofs.Remaining.{RemainingBytes-more, RemainingBytes-last, drop_gives_item}
use Rattle.fluent_syntax_json.proofs.writing.entries.write_attributes.Goals as goal

pub loop-attribute-preserved : goal.loop-attribute-preserved
loop-attribute-preserved g c =
    let next = drop_gives_item c.args.attributes.now _ _ c.loop-attribute-test.true c.attribute-item.is in
    let item_left = RemainingBytes-more (rw next at c.loop-attribute.invariant.rest) c.write_comma.ensures.written in
    record { rest = RemainingBytes-more item_left c.write_attribute.ensures.written }

pub returns : goal.returns
returns g c =
    let none = drop_all _ c.args.attributes.now c.loop-attribute-test.false in
    record { written = RemainingBytes-last (rw none at c.loop-attribute.invariant.rest) c.write_piece.ensures.written }
