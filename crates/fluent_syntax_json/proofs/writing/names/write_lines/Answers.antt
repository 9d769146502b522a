use Rattle.std.proofs.lemmas.List.{drop_all}
use Rattle.fluent_syntax_grammar.proofs.Remaining.{RemainingBytes-more, RemainingBytes-last, drop_gives_item}
use Rattle.fluent_syntax_json.proofs.writing.names.write_lines.Goals as goal

pub loop-line-preserved : goal.loop-line-preserved
loop-line-preserved g c =
    let next = drop_gives_item c.deref-line-items.result.now _ _ c.loop-line-test.true c.line-item.is in
    let item_left = RemainingBytes-more (rw next at c.loop-line.invariant.rest) c.write_comma.ensures.written in
    record { rest = RemainingBytes-more item_left c.write_text.ensures.written }

pub returns : goal.returns
returns g c =
    let none = drop_all _ c.deref-line-items.result.now c.loop-line-test.false in
    let lines = RemainingBytes-last (rw none at c.loop-line.invariant.rest) c.write_piece.ensures.written in
    record { written = rw (← c.deref-line-items.ensures.value) lines }
