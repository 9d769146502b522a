use Rattle.std.proofs.lemmas.List.{drop_all}
use Rattle.fluent_syntax_grammar.proofs.Remaining.{RemainingMarks-more, RemainingMarks-end, drop_gives_item}
use Rattle.fluent_syntax_writer.proofs.serializer.entries.serialize_entries.Goals as goal

pub loop-entry-preserved : goal.loop-entry-preserved
loop-entry-preserved g c =
    let next = drop_gives_item c.args.entries.now _ _ c.loop-entry-test.true c.entry-item.is in
    let after = RemainingMarks-more (rw next at c.loop-entry.invariant.rest) c.serialize_next-follows.ensures.written in
    record { rest = rw c.serialize_next-follows.ensures.follows after }

pub returns-clause-written : goal.returns-clause-written
returns-clause-written g c =
    let none = drop_all _ c.args.entries.now c.loop-entry-test.false in
    RemainingMarks-end (rw none at c.loop-entry.invariant.rest)

pub returns-clause-same_sink : goal.returns-clause-same_sink
returns-clause-same_sink g c = (returns-clause-written g c).text_appended.same_sink
