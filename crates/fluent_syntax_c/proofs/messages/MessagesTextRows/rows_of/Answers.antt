use Rattle.fluent_syntax_c.proofs.ErrorRows.{message_lines_of_errors_are_those_of_faults}
use Rattle.fluent_syntax_c.proofs.messages.MessagesTextRows.rows_of.Goals as goal

pub returns : goal.returns
returns c = record {
  rows = λ edition t read.
      message_lines_of_errors_are_those_of_faults t read.tiles c.args.reading.now.errors.items read.errors_are
      c.message_lines.result
      c.message_lines.ensures;
}
