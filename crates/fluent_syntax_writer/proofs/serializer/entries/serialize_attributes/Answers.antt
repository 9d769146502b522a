use Rattle.std.proofs.lemmas.List.{drop_all}
use Rattle.fluent_syntax_grammar.proofs.Remaining.{RemainingMarks-more, RemainingMarks-end, drop_gives_item}
use Rattle.fluent_syntax_writer.proofs.serializer.entries.serialize_attributes.Goals as goal

pub loop-attribute-preserved : goal.loop-attribute-preserved
loop-attribute-preserved g c =
    let next = drop_gives_item c.args.attributes.now _ _ c.loop-attribute-test.true c.attribute-item.is in
    record {
      rest = RemainingMarks-more (rw next at c.loop-attribute.invariant.rest)
          c.serialize_attribute.ensures.written;
    }

pub returns : goal.returns
returns g c =
    let none = drop_all _ c.args.attributes.now c.loop-attribute-test.false in
    record { written = RemainingMarks-end (rw none at c.loop-attribute.invariant.rest) }
