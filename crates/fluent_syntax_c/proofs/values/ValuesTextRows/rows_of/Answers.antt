use Rattle.fluent_syntax_c.proofs.ValueRows.{tiling_has_its_values}
use Rattle.fluent_syntax_c.proofs.values.ValuesTextRows.rows_of.Goals as goal

pub returns : goal.returns
returns c = record {
  rows = λ edition t read.
      tiling_has_its_values edition t read.tiles read.has_tiles c.value_rows.result
      (rw (read.text_is, read.edition_is) at c.value_rows.ensures);
}
