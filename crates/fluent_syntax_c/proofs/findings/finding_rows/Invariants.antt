use Rattle.std.proofs.Common.{◌≡◌, map, take}
use Rattle.fluent_syntax_c.specs.Findings.{finding_row, text_at}
use Rattle.fluent_syntax_c.proofs.findings.finding_rows.Given as goal

abbrev pub invariant-loop-finding : goal.invariant-loop-finding
invariant-loop-finding l = record {
  positions : l.positions ≡ text_at l.name_indexes l.last;
  so_far : l.rows.items ≡ map (finding_row l.name_indexes) (take l.finding-index l.finding-items);
}
