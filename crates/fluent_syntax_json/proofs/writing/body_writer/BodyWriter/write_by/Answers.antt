use Rattle.fluent_syntax_json.proofs.Bodies.{HasWritten-entry, HasWritten-silent}
use Rattle.fluent_syntax_json.proofs.writing.body_writer.BodyWriter.write_by.Goals as goal

pub returns-then-self-clause-written : goal.returns-then-self-clause-written
returns-then-self-clause-written g c = λ start body has. HasWritten-silent _ has c.if-self.true

pub returns-clause-written : goal.returns-clause-written
returns-clause-written g c = λ start body has.
    let made = c.new-writer.ensures in
    let refused = c.has_refused-self in
    HasWritten-entry _ refused.result has c.if-self.false c.write_next.ensures.written made.sink made.not_refused
    refused.ensures
