use Rattle.std.proofs.Common.{◌≡◌, ◌++◌, take}
use Rattle.std.specs.List.{flat_map}
use Rattle.fluent_syntax_c.specs.Comparison.{missing_part_rows}
use Rattle.fluent_syntax_c.proofs.comparison.add_missing_parts.Given as goal

abbrev pub invariant-loop-missing : goal.invariant-loop-missing
invariant-loop-missing l = record {
  text : l.positions ≡ l.text;
  so_far : l.rows.items ≡ l.fn.rows.items ++ flat_map (missing_part_rows l.fn.side l.text)
      (take l.missing-index l.missing_parts);
}
