use Rattle.std.proofs.Common.{◌≡◌, map, take}
use Rattle.serde_json.specs.View.{view}
use Rattle.ftl_lsp.specs.DiagnosticForms.{error_form}
use Rattle.ftl_lsp.proofs.diagnostics.diagnostic_forms.error_list.Given as goal

abbrev pub invariant-loop-error : goal.invariant-loop-error
invariant-loop-error l = map view l.list.items ≡ map (error_form l.uri l.takes_related) (take l.error-index l.errors)
