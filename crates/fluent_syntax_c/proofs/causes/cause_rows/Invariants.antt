use Rattle.std.proofs.Common.{◌≡◌, map, take}
use Rattle.fluent_syntax_c.specs.Causes.{cause_row}
use Rattle.fluent_syntax_c.proofs.causes.cause_rows.Given as goal

abbrev pub invariant-loop-cause : goal.invariant-loop-cause
invariant-loop-cause l = record {
  in_attributes : l.in_attributes ≡ l.text;
  elsewhere : l.elsewhere ≡ l.text;
  so_far : l.rows.items ≡ map (cause_row l.text) (take l.cause-index l.cause-items);
}
