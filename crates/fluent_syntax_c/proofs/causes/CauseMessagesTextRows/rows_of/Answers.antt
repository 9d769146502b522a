use Rattle.fluent_syntax_c.proofs.CauseRows.{lines_of_all_causes_are_cause_messages}
use Rattle.fluent_syntax_c.proofs.causes.CauseMessagesTextRows.rows_of.Goals as goal

pub returns : goal.returns
returns c = record {
  rows = λ edition t read.
      lines_of_all_causes_are_cause_messages edition t read.tiles c.args.reading.now.errors.items read.errors_are
      c.in_ok-causes.causes.items c.in_ok-causes.ensures c.cause_lines.result c.cause_lines.ensures;
}
