use Rattle.fluent_syntax_writer.proofs.EntrySteps.{HasWritten-next}
use Rattle.fluent_syntax_writer.proofs.serializer.entry_writer.EntryWriter.write_by.Goals as goal

pub returns-clause-written : goal.returns-clause-written
returns-clause-written g c start body before =
    let resumed = c.from_parts-writer.ensures in
    let next = c.serialize_next-self in
    HasWritten-next _ next.result c.has_refused-self.result before next.ensures.written resumed.sink resumed.last
    resumed.refused c.has_refused-self.ensures next.ensures.follows
