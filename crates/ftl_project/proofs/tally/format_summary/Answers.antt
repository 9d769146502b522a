use Rattle.std.proofs.Common.{◌≡◌, ◌==◌, append_assoc, false, rules, tests}
use Rattle.ftl_project.specs.Summaries.{format_summary_of}
use Rattle.ftl_project.proofs.NoteTexts.{line_says_equal_text}
use Rattle.ftl_project.proofs.tally.format_summary.Goals as goal

pub returns : goal.returns
returns c =
    let some : (c.args.tally.now.with_problems == 0) ≡ false = search (rules, tests) in
    line_says_equal_text c.format-2.result _ (format_summary_of c.args.tally.now)
    (simp (append_assoc, c.in_ok-files.ensures, some)) c.format-2.ensures.ok
