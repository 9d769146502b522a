use Rattle.std.proofs.Common.{◌≡◌, map, take}
use Rattle.ftl_lsp.specs.Diagnostics.{diagnostic_of, shown}
use Rattle.ftl_lsp.proofs.diagnostics.diagnostics_of.Given as goal

abbrev pub invariant-loop-error : goal.invariant-loop-error
invariant-loop-error l = record {
  text : l.positions ≡ l.text;
  so_far : map shown l.found.items ≡ map (diagnostic_of l.text) (take l.error-index l.errors);
}
