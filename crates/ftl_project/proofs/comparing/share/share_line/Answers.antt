use Rattle.std.proofs.Common.{append_assoc}
use Rattle.ftl_project.specs.Summaries.{share_line_of}
use Rattle.ftl_project.proofs.NoteTexts.{line_says_equal_text}
use Rattle.ftl_project.proofs.comparing.share.share_line.Goals as goal

pub returns : goal.returns
returns c = line_says_equal_text c.format.result _ (share_line_of c.args.share.now)
    (simp (append_assoc, c.saturating_sub-there.ensures)) c.format.ensures.ok
