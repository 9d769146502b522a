use Rattle.fluent_syntax_c.proofs.ErrorRows.{rows_of_errors_are_rows_of_faults}
use Rattle.fluent_syntax_c.proofs.errors.ErrorsTextRows.rows_of.Goals as goal

pub returns : goal.returns
returns c = record {
  rows = λ edition t read.
      rows_of_errors_are_rows_of_faults t read.tiles c.args.reading.now.errors.items read.errors_are _ read.text_is
      c.error_rows.result
      c.error_rows.ensures;
}
