use Rattle.std.proofs.Common.{◌≡◌, ◌≤◌, length}
use Rattle.ftl_lsp.specs.Positions.{line_at}
use Rattle.ftl_lsp.proofs.documents.positions.line_start_before.Given as goal

abbrev pub invariant-loop-at : goal.invariant-loop-at
invariant-loop-at l = record {
  within : l.at ≤ length l.text;
  line : l.line ≡ line_at l.text l.at;
}

abbrev pub decreases-loop-at : goal.decreases-loop-at
decreases-loop-at l = l.at
