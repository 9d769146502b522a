use Rattle.std.proofs.Common.{◌∙◌, ap, subst, sym}
use Rattle.std.proofs.lemmas.Result.{IfOk-weaker}
use Rattle.serde_json.specs.View.{view}
use Rattle.ftl_lsp.specs.DiagnosticForms.{IsLintDiagnostic, alone, severity_of, tagged, with_related, without_related}
use Rattle.ftl_lsp.specs.DiagnosticForms.{diagnostic_form, diagnostic_with_related}
use Rattle.ftl_lsp.proofs.diagnostics.diagnostic_forms.lint_diagnostic_form.Goals as goal

pub returns : goal.returns
returns c =
    let diagnostic = c.args.diagnostic.now in
    let message = c.as_str-message.result.now in
    let positions = view c.in_ok-positions.positions in
    let with_severity = ap (λ s. diagnostic_with_related diagnostic.range s c.code-code.result.now message positions)
    c.severity-severity.ensures in
    let with_code = ap (λ code. diagnostic_with_related diagnostic.range
    (severity_of c.args.levels diagnostic.kind) code message positions) c.code-code.ensures in
    IfOk-weaker c.form_with_related.result _ _
    (λ value is. subst IsLintDiagnostic (sym (is ∙ (with_severity ∙ with_code)))
    (with_related diagnostic.range c.args.levels diagnostic.kind message positions))
    c.form_with_related.ensures

pub returns-then-not-takes_related : goal.returns-then-not-takes_related
returns-then-not-takes_related c =
    let diagnostic = c.args.diagnostic.now in
    let message = c.as_str-message.result.now in
    let with_severity =
    ap (λ s. diagnostic_form diagnostic.range s c.code-code.result.now message) c.severity-severity.ensures in
    let with_code = ap (λ code. diagnostic_form diagnostic.range
    (severity_of c.args.levels diagnostic.kind) code message) c.code-code.ensures in
    IfOk-weaker c.diagnostic_form-then-not-takes_related.result _ _
    (λ value is. subst IsLintDiagnostic (sym (is ∙ (with_severity ∙ with_code)))
    (without_related diagnostic.range c.args.levels diagnostic.kind message))
    c.diagnostic_form-then-not-takes_related.ensures

pub returns-then-is_empty : goal.returns-then-is_empty
returns-then-is_empty c =
    let diagnostic = c.args.diagnostic.now in
    let message = c.as_str-message.result.now in
    let with_severity =
    ap (λ s. diagnostic_form diagnostic.range s c.code-code.result.now message) c.severity-severity.ensures in
    let with_code = ap (λ code. diagnostic_form diagnostic.range
    (severity_of c.args.levels diagnostic.kind) code message) c.code-code.ensures in
    IfOk-weaker c.tagged.result _ _
    (λ value is. subst IsLintDiagnostic
    (sym (is ∙ ap (tagged diagnostic.kind) (c.in_ok-alone.ensures ∙ (with_severity ∙ with_code))))
    (alone diagnostic.range c.args.levels diagnostic.kind message))
    c.tagged.ensures
