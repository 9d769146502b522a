use Rattle.std.proofs.Common.{◌≡◌, string_bytes, take}
use Rattle.std.specs.Prelude.{slice_get}
use Rattle.ftl_project.specs.Linting.{IsFindingReport, text_of}
use Rattle.ftl_project.specs.Diagnostics.{ReportsEach}
use Rattle.ftl_project.proofs.linting.findings.report_findings.Given as goal

abbrev pub invariant-loop-finding : goal.invariant-loop-finding
invariant-loop-finding l = record {
  lines : l.lines ≡ text_of (slice_get l.name_indexes l.file);
  reports : ReportsEach (IsFindingReport l.form l.sources l.name_indexes) (take l.finding-index l.findings)
      (string_bytes l.out);
}
