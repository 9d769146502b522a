use Rattle.std.proofs.Common.{◌≡◌}
use Rattle.ftl_lsp.specs.Positions.{position_at}
use Rattle.ftl_lsp.proofs.ByteLemmas.{IsAhead}
use Rattle.ftl_lsp.proofs.documents.offsets.byte_of.Given as goal

abbrev pub invariant-loop-at : goal.invariant-loop-at
invariant-loop-at l = record {
  here : l.here ≡ position_at l.bytes l.at;
  ahead : IsAhead l.bytes l.position l.at;
}
