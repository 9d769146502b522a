use Rattle.std.proofs.Common.{◌≤◌, arith, length, sym}
use Rattle.std.proofs.lemmas.List.{length-take-le, take_all}
use Rattle.std.proofs.lemmas.List.Elements.{All-take}
use Rattle.ftl_lsp.specs.declared.limits.TheConstants.{DIAGNOSTICS_LIMIT}
use Rattle.ftl_lsp.proofs.diagnostics.first_errors.Goals as goal

pub returns-then-errors-le-DIAGNOSTICS_LIMIT-clause-first : goal.returns-then-errors-le-DIAGNOSTICS_LIMIT-clause-first
returns-then-errors-le-DIAGNOSTICS_LIMIT-clause-first c =
    sym (take_all DIAGNOSTICS_LIMIT c.args.errors.now (let few = c.if-errors-le-DIAGNOSTICS_LIMIT.true in omega arith))

pub slice_bounds-result-end : goal.slice_bounds-result-end
slice_bounds-result-end c =
    sym (length-take-le 1000 c.args.errors.now (let many = c.if-errors-le-DIAGNOSTICS_LIMIT.false in omega arith))

pub returns-clause-places : goal.returns-clause-places
returns-clause-places c t h = All-take (λ e. e.pos.start ≤ length t) DIAGNOSTICS_LIMIT c.args.errors.now h
