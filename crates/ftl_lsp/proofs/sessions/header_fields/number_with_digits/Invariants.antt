use Rattle.std.proofs.Common.{◌≡◌, ◌≤◌, length}
use Rattle.ftl_lsp.specs.Fields.{digits_after}
use Rattle.ftl_lsp.proofs.sessions.header_fields.number_with_digits.Given as goal

abbrev pub invariant-loop-first : goal.invariant-loop-first
invariant-loop-first l = record {
  small : l.number ≤ 67108865;
  same : digits_after l.number l.rest ≡ digits_after l.fn.number l.fn.text;
}

abbrev pub decreases-loop-first : goal.decreases-loop-first
decreases-loop-first l = length l.rest
