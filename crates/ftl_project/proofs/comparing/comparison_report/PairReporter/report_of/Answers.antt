use Rattle.std.proofs.Common.{◌∙◌, ◌++◌, ap, arith, None, string_bytes}
use Rattle.fluent_syntax_tree.specs.declared.spans.Span.{Span}
use Rattle.fluent_syntax_names.specs.declared.missing_part.MissingPart.{MissingPart}
use Rattle.fluent_syntax_names.specs.declared.missing_part.Part.TheVariants.{Entry}
use Rattle.ftl_project.specs.Comparing.{IsMissingPartReport}
use Rattle.ftl_project.specs.Diagnostics.{nothing}
use Rattle.ftl_project.proofs.InOrder.{ReportsEach-more}
use Rattle.ftl_project.proofs.comparing.comparison_report.PairReporter.report_of.Goals as goal

pub loop-missing-init : goal.loop-missing-init
loop-missing-init c = record { lines = c.new-lines.ensures; reports = rw c.new-out.ensures.bytes nothing }

pub loop-missing-preserved : goal.loop-missing-preserved
loop-missing-preserved c =
    let self = c.args.self.now in
    let before = string_bytes c.loop-missing.out in
    let nowhere : Span = record { start = 0; end = 0 } in
    let d : MissingPart = record { part = Entry; name = nowhere; entry = nowhere; in_other = None } in
    record {
      lines = c.part_report.ensures.lines ∙ c.loop-missing.invariant.lines;
      reports = ReportsEach-more
          (IsMissingPartReport self.side self.form self.pair.now self.text.now self.other.now)
          c.args.missing_parts.now c.loop-missing.missing-index d before (string_bytes c.in_ok-report_text.report_text)
          (string_bytes c.push_str.new.self)
          (omega arith) c.loop-missing.invariant.reports c.in_ok-report_text.ensures.report_text
          (c.in_ok-push_str.ensures.bytes ∙ ap (λ text. before ++ text) c.as_str.ensures.value);
    }
