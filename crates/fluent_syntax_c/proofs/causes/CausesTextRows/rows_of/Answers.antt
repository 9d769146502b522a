use Rattle.fluent_syntax_c.proofs.CauseRows.{rows_of_all_causes_are_causes}
use Rattle.fluent_syntax_c.proofs.causes.CausesTextRows.rows_of.Goals as goal

pub returns : goal.returns
returns c = record {
  rows = λ edition t read.
      rows_of_all_causes_are_causes edition t read.tiles c.args.reading.now.errors.items read.errors_are
      c.in_ok-causes.causes.items c.in_ok-causes.ensures _ read.text_is c.cause_rows.result c.cause_rows.ensures;
}
