use Rattle.std.proofs.Common.{◌≡◌}
use Rattle.ftl_lsp.specs.Positions.{position_at}
use Rattle.ftl_lsp.proofs.documents.positions.Positions.position.Given as goal

abbrev pub invariant-loop-at : goal.invariant-loop-at
invariant-loop-at l = l.here ≡ position_at l.self-inside.text.now l.at
