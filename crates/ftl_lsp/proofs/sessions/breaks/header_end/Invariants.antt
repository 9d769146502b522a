use Rattle.std.proofs.Common.{ℕ, ◌<◌, ◌+◌}
use Rattle.ftl_lsp.specs.HeaderEnds.{IsCrlfAt}
use Rattle.ftl_lsp.proofs.sessions.breaks.header_end.Given as goal

abbrev pub invariant-loop-at : goal.invariant-loop-at
invariant-loop-at l = (k : ℕ) → k < l.at → ¬ (IsCrlfAt l.bytes k × IsCrlfAt l.bytes (k + 2))
