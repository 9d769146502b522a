use Rattle.std.proofs.Common.{◌≡◌, ◌==◌, append_assoc, false, rules, tests}
use Rattle.ftl_project.specs.Summaries.{errors_in_files}
use Rattle.ftl_project.proofs.NoteTexts.{line_says_equal_text}
use Rattle.ftl_project.proofs.tally.errors_in_files.Goals as goal

pub returns-then-errors-ne0 : goal.returns-then-errors-ne0
returns-then-errors-ne0 c =
    let some : (c.args.tally.now.errors == 0) ≡ false = search (rules, tests) in
    line_says_equal_text c.format.result _ (errors_in_files c.args.tally.now)
    (simp (append_assoc, c.in_ok-found.ensures, c.in_ok-files.ensures, some)) c.format.ensures.ok
