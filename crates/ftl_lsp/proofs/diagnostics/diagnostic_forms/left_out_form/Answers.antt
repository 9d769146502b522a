use Rattle.std.proofs.Common.{◌∙◌, ap, codes, subst, sym}
use Rattle.std.proofs.lemmas.Result.{IfOk-weaker}
use Rattle.fluent_syntax_names.specs.declared.finding.Severity.TheVariants.{Warning}
use Rattle.ftl_lsp.specs.DiagnosticForms.{IsLintDiagnostic, begin, diagnostic_form, left_out}
use Rattle.ftl_lsp.proofs.diagnostics.diagnostic_forms.left_out_form.Goals as goal

pub returns : goal.returns
returns c =
    let sentence = c.as_str.ensures.value ∙ c.in_ok-message.ensures in
    IfOk-weaker c.warning_at_begin.result _ _
    (λ value is. subst IsLintDiagnostic
    (sym (is ∙ ap (λ message. diagnostic_form begin Warning (codes "left-out") message) sentence))
    (left_out c.args.reason))
    c.warning_at_begin.ensures
