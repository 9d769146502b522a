use Rattle.std.proofs.Common.{◌≡◌, ◌+◌, take}
use Rattle.std.specs.List.{sum_by}
use Rattle.fluent_syntax_c.specs.Columns.{characters, utf16_units}
use Rattle.fluent_syntax_c.proofs.columns.columns_from.Given as goal

abbrev pub invariant-loop-byte : goal.invariant-loop-byte
invariant-loop-byte l = record {
  units : l.column_utf16 ≡ l.fn.from.column_utf16 + sum_by utf16_units (take l.byte-index l.byte-items);
  characters : l.column_characters ≡ l.fn.from.column_characters + sum_by characters (take l.byte-index l.byte-items);
}
