use Rattle.fluent_syntax_c.proofs.NameRows.{tiling_has_its_names}
use Rattle.fluent_syntax_c.proofs.names.NamesTextRows.rows_of.Goals as goal

pub returns : goal.returns
returns c = record {
  rows = λ edition t read.
      tiling_has_its_names edition t read.tiles read.has_tiles c.name_rows.result
      (rw (read.text_is, read.edition_is) at c.name_rows.ensures);
}
