use Rattle.fluent_syntax_writer.proofs.EntrySteps.{HasWritten-none}
use Rattle.fluent_syntax_writer.proofs.serializer.entry_writer.EntryWriter.new.Goals as goal

pub returns-clause-wrote_none : goal.returns-clause-wrote_none
returns-clause-wrote_none g c =
    HasWritten-none g.W.TextSink.text g.W.TextSink.room c.args.sink c.args.options
