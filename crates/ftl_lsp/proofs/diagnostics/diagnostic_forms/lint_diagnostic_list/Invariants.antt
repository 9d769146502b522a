use Rattle.std.proofs.Common.{map, All}
use Rattle.serde_json.specs.View.{view}
use Rattle.ftl_lsp.specs.DiagnosticForms.{IsLintDiagnostic}
use Rattle.ftl_lsp.proofs.diagnostics.diagnostic_forms.lint_diagnostic_list.Given as goal

abbrev pub invariant-loop-diagnostic : goal.invariant-loop-diagnostic
invariant-loop-diagnostic l = All IsLintDiagnostic (map view l.list.items)
