use Rattle.std.proofs.Common.{[], codes, refl, string_bytes, subst}
use Rattle.ftl_project.proofs.Comparisons.{from_bool_is_one_or_zero}
use Rattle.ftl_files.specs.declared.kinds.ReportedKind.TheVariants.{MissingFile}
use Rattle.ftl_project.specs.Comparing.{IsFileReport, missing_file_message}
use Rattle.ftl_project.specs.Differences.{is_reported}
use Rattle.ftl_project.proofs.comparing.Comparing.comparison_of_reference.Goals as goal

pub returns-clause-compared : goal.returns-clause-compared
returns-clause-compared c =
    let options = c.args.self.now.options in
    let pair = c.args.pair.now in (
      c.in_ok-reference.reference,
      c.in_ok-reference.ensures.name_index,
      record {
        report_is = subst (λ message. IsFileReport options.form pair (codes "missing-file") message
            (is_reported pair.ignored.now MissingFile []) (string_bytes c.in_ok-report_text.report_text))
            (simp (c.in_ok-message.ensures.ok, c.as_str.ensures.value)) c.in_ok-report_text.ensures;
        errors_are = rw (c.from.ensures, c.is_file_error-is_error.ensures) (from_bool_is_one_or_zero _);
        warnings_are = rw (c.from-2.ensures, c.is_file_warning-is_warning.ensures) (from_bool_is_one_or_zero _);
        share_is = rw c.in_ok-wanted.ensures refl;
      },
    )
