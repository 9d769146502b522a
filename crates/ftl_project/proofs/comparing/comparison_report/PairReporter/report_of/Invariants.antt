use Rattle.std.proofs.Common.{◌≡◌, string_bytes, take}
use Rattle.ftl_project.specs.Comparing.{IsMissingPartReport}
use Rattle.ftl_project.specs.Diagnostics.{ReportsEach}
use Rattle.ftl_project.proofs.comparing.comparison_report.PairReporter.report_of.Given as goal

abbrev pub invariant-loop-missing : goal.invariant-loop-missing
invariant-loop-missing l = record {
  lines : l.lines ≡ l.self.text.now;
  reports : ReportsEach
      (IsMissingPartReport l.self.side l.self.form l.self.pair.now l.self.text.now l.self.other.now)
      (take l.missing-index l.missing_parts) (string_bytes l.out);
}
