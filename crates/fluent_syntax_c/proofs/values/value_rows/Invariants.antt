use Rattle.std.proofs.Common.{◌≡◌, ◌-◌, length}
use Rattle.fluent_syntax_c.proofs.ValueRows.{HasValueRowsBefore}
use Rattle.fluent_syntax_c.proofs.values.value_rows.Given as goal

abbrev pub invariant-loop-found : goal.invariant-loop-found
invariant-loop-found l = record {
  text : l.tiles.source.bytes.now ≡ l.text;
  edition : l.tiles.edition ≡ l.fn.edition;
  values : HasValueRowsBefore l.fn.edition l.text l.tiles.ptr l.rows.items;
}

abbrev pub decreases-loop-found : goal.decreases-loop-found
decreases-loop-found l = length l.text - l.tiles.ptr
