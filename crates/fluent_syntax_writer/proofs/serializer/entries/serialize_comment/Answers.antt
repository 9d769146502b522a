use Rattle.std.proofs.lemmas.List.{drop_all}
use Rattle.fluent_syntax_grammar.proofs.Remaining.{RemainingMarks-more, RemainingMarks-end, drop_gives_item}
use Rattle.fluent_syntax_writer.proofs.serializer.entries.serialize_comment.Goals as goal

pub loop-line-preserved : goal.loop-line-preserved
loop-line-preserved g c =
    let next = drop_gives_item c.deref-line-items.result.now _ _ c.loop-line-test.true c.line-item.is in
    let line = rw c.as_str.ensures at c.serialize_comment_line.ensures.written in
    record { rest = RemainingMarks-more (rw next at c.loop-line.invariant.rest) line }

pub returns : goal.returns
returns g c =
    let none = drop_all _ c.deref-line-items.result.now c.loop-line-test.false in
    let lines = RemainingMarks-end (rw none at c.loop-line.invariant.rest) in
    record { written = rw (← c.deref-line-items.ensures.value) lines }
