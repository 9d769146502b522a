use Rattle.std.proofs.Common.{◌++◌, ◌∙◌, ap, arith, get_or, string_bytes, subst}
use Rattle.ftl_project.specs.Diagnostics.{nothing}
use Rattle.ftl_project.specs.Reports.{IsErrorReport}
use Rattle.ftl_project.proofs.InOrder.{ReportsEach-more}
use Rattle.ftl_project.proofs.reporting.report.Goals as goal

pub loop-error-init : goal.loop-error-init
loop-error-init c = record { lines = c.new-lines.ensures; reports = rw c.new-out.ensures.bytes nothing }

pub loop-error-preserved : goal.loop-error-preserved
loop-error-preserved c =
    let form = c.args.form in
    let path = c.args.path.now in
    let text = c.as_str-text.result.now in
    let error = c.error-item.result in
    let report_text = string_bytes c.in_ok-report_text.report_text in
    let before = string_bytes c.loop-error.out in
    let item = c.error-item.is ∙ ap (λ items. get_or items c.loop-error.error-index error)
    c.deref-error-items.ensures.value in
    record {
      lines = c.error_report.ensures.lines ∙ c.loop-error.invariant.lines;
      reports = ReportsEach-more (IsErrorReport form path text) c.args.refused.now.errors.items c.loop-error.error-index
          error
          before report_text (string_bytes c.push_str.new.self) (omega arith) c.loop-error.invariant.reports
          (subst (λ e. IsErrorReport form path text e report_text) item c.in_ok-report_text.ensures.report_text)
          (c.in_ok-push_str.ensures.bytes ∙ ap (λ more. before ++ more) c.as_str.ensures.value);
    }
