use Rattle.std.proofs.Common.{◌∙◌, ◌++◌, None, ap, arith, string_bytes}
use Rattle.fluent_syntax_names.specs.declared.finding.Finding.{Finding}
use Rattle.fluent_syntax_names.specs.declared.finding.Kind.TheVariants.{DefinedTwice}
use Rattle.std.specs.Prelude.{get_or}
use Rattle.ftl_project.specs.Linting.{IsFindingReport}
use Rattle.ftl_project.specs.Diagnostics.{nothing}
use Rattle.ftl_project.proofs.InOrder.{ReportsEach-more}
use Rattle.ftl_project.proofs.DiagnosticTexts.{IsFindingReport-as}
use Rattle.ftl_project.proofs.linting.findings.report_findings.Goals as goal

pub loop-finding-init : goal.loop-finding-init
loop-finding-init c = record {
  lines = c.new-lines.ensures ∙ c.text_of.ensures.text;
  reports = rw c.new-out.ensures.bytes nothing;
}

pub loop-finding-preserved : goal.loop-finding-preserved
loop-finding-preserved c =
    let before = string_bytes c.loop-finding.out in
    let report_text = string_bytes c.in_ok-report_text.report_text in
    let d : Finding = record { kind = DefinedTwice; file = 0; place = None; other = None } in
    let finding = get_or c.args.findings.now c.loop-finding.finding-index d in
    record {
      lines = c.finding_report.ensures.lines ∙ c.lines_in-lines.ensures;
      reports = ReportsEach-more (IsFindingReport c.args.form c.args.sources.now c.args.name_indexes.now)
          c.args.findings.now
          c.loop-finding.finding-index d before report_text (string_bytes c.push_str.new.self) (omega arith)
          c.loop-finding.invariant.reports
          (IsFindingReport-as c.args.form c.args.sources.now c.args.name_indexes.now finding c.path_of.result.now
          c.text_of-in-loop-finding.result.now report_text c.path_of.ensures c.text_of-in-loop-finding.ensures.text
          c.in_ok-report_text.ensures.report_text)
          (c.in_ok-push_str.ensures.bytes ∙ ap (λ text. before ++ text) c.as_str.ensures.value);
    }
