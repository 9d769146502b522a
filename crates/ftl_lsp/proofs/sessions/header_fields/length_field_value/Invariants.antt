use Rattle.std.proofs.Common.{◌≡◌, drop, length}
use Rattle.ftl_lsp.specs.Fields.{number_of}
use Rattle.ftl_lsp.proofs.sessions.header_fields.length_field_value.Given as goal

abbrev pub invariant-loop-first : goal.invariant-loop-first
invariant-loop-first l = number_of l.rest ≡ number_of (drop 15 l.line)

abbrev pub decreases-loop-first : goal.decreases-loop-first
decreases-loop-first l = length l.rest
