use Rattle.std.proofs.Common.{◌≡◌, [], None, refl, rules, string_bytes, subst, sym, true}
use Rattle.std.proofs.lemmas.Result.{IfOk-weaker}
use Rattle.ftl_files.specs.Kinds.{reported_name}
use Rattle.ftl_project.specs.Comparing.{IsFileReport}
use Rattle.ftl_project.specs.Differences.{is_reported}
use Rattle.ftl_project.proofs.DiagnosticTexts.{report_of_equal_parts_is_report}
use Rattle.ftl_project.proofs.comparing.Comparing.file_report.Goals as goal

pub returns : goal.returns
returns c =
    let options = c.args.self.now.options in
    let pair = c.args.pair.now in
    let kind = c.args.kind in
    let message = string_bytes c.args.message in
    let stated : is_reported pair.ignored.now kind [] ≡ true = search (rules, c.if-not-is_reported.false) in
    let report =
    report_of_equal_parts_is_report c.diagnostic_text.result options.form c.as_str.result.now
    (string_bytes pair.other) None
    c.name.result.now (reported_name kind) None message message c.as_str.ensures.value c.name.ensures refl
    c.diagnostic_text.ensures in
    IfOk-weaker c.diagnostic_text.result _ _
    (λ text that. subst (λ b. IsFileReport options.form pair (reported_name kind) message b (string_bytes text))
    (sym stated) that) report
