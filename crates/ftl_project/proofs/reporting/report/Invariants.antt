use Rattle.std.proofs.Common.{◌≡◌, string_bytes, take}
use Rattle.ftl_project.specs.Diagnostics.{ReportsEach}
use Rattle.ftl_project.specs.Reports.{IsErrorReport}
use Rattle.ftl_project.proofs.reporting.report.Given as goal

abbrev pub invariant-loop-error : goal.invariant-loop-error
invariant-loop-error l = record {
  lines : l.lines ≡ l.text;
  reports : ReportsEach (IsErrorReport l.form l.path l.text) (take l.error-index l.refused.errors.items)
      (string_bytes l.out);
}
