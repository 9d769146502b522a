use Rattle.std.proofs.lemmas.Result.{on_ok_weaker, on_err_weaker}
use Rattle.fluent_syntax_json.proofs.Bodies.{HasWritten-closed, HasWritten-stopped, HasWritten-unclosed}
use Rattle.fluent_syntax_json.proofs.writing.body_writer.BodyWriter.finish.Goals as goal

pub returns-then-refused-clause-refused : goal.returns-then-refused-clause-refused
returns-then-refused-clause-refused g c = λ start body has. HasWritten-stopped has c.if-refused.true

pub returns-clause-taken : goal.returns-clause-taken
returns-clause-taken g c = λ start body has.
    let closing = c.write_str-closed in
    on_ok_weaker closing.result (HasWritten-closed has c.if-refused.false) closing.ensures.taken

pub returns-clause-refused : goal.returns-clause-refused
returns-clause-refused g c = λ start body has.
    let closing = c.write_str-closed in
    on_err_weaker closing.result (HasWritten-unclosed has c.if-refused.false) closing.ensures.refused
