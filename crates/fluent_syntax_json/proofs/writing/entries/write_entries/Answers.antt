use Rattle.std.proofs.lemmas.List.{drop_all}
use Rattle.fluent_syntax_grammar.proofs.Bytes.{Appends-none}
use Rattle.fluent_syntax_grammar.proofs.Remaining.{RemainingBytes-more, RemainingBytes-last, drop_gives_item}
use Rattle.fluent_syntax_json.proofs.writing.entries.write_entries.Goals as goal

pub loop-entry-preserved : goal.loop-entry-preserved
loop-entry-preserved g c =
    let next = drop_gives_item c.args.entries.now _ _ c.loop-entry-test.true c.entry-item.is in
    record { rest = RemainingBytes-more (rw next at c.loop-entry.invariant.rest) c.write_next.ensures.written }

pub returns : goal.returns
returns g c =
    let none = drop_all _ c.args.entries.now c.loop-entry-test.false in
    record { written = RemainingBytes-last (rw none at c.loop-entry.invariant.rest) (Appends-none _) }
