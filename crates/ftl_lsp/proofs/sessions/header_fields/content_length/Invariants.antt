use Rattle.std.proofs.Common.{ℕ, Option, length}
use Rattle.ftl_lsp.specs.Fields.{HasLength}
use Rattle.ftl_lsp.proofs.sessions.header_fields.content_length.Given as goal

abbrev pub invariant-loop-rest : goal.invariant-loop-rest
invariant-loop-rest l = (n : Option ℕ) → HasLength l.rest n → HasLength l.header n

abbrev pub decreases-loop-rest : goal.decreases-loop-rest
decreases-loop-rest l = length l.rest
