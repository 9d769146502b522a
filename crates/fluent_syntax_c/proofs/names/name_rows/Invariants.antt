use Rattle.std.proofs.Common.{◌≡◌, ◌-◌, length}
use Rattle.fluent_syntax_c.proofs.NameRows.{HasNameRowsBefore}
use Rattle.fluent_syntax_c.proofs.names.name_rows.Given as goal

abbrev pub invariant-loop-found : goal.invariant-loop-found
invariant-loop-found l = record {
  text : l.tiles.source.bytes.now ≡ l.text;
  edition : l.tiles.edition ≡ l.fn.edition;
  positions : l.positions ≡ l.text;
  names : HasNameRowsBefore l.fn.edition l.text l.tiles.ptr l.rows.items;
}

abbrev pub decreases-loop-found : goal.decreases-loop-found
decreases-loop-found l = length l.text - l.tiles.ptr
