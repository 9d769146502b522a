use Rattle.std.proofs.Common.{◌≡◌, ◌≤◌, ◌-◌, length}
use Rattle.ftl_lsp.specs.Positions.{character_at, line_at}
use Rattle.ftl_lsp.proofs.documents.offsets.line_start.Given as goal

abbrev pub invariant-loop-line : goal.invariant-loop-line
invariant-loop-line l = record {
  within : l.at ≤ length l.bytes;
  low : l.line ≤ l.number;
  here : l.line ≡ line_at l.bytes l.at;
  begins : l.line ≡ l.number → character_at l.bytes l.at ≡ 0;
}

abbrev pub decreases-loop-line : goal.decreases-loop-line
decreases-loop-line l = length l.bytes - l.at
