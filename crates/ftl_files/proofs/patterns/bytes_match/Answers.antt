use Rattle.std.proofs.Common.{◌∙◌, ap, sym}
use Rattle.ftl_files.proofs.PatternLemmas.{matches_by_meeting, matches_on}
use Rattle.ftl_files.proofs.patterns.bytes_match.Goals as goal

pub returns-in-Same : goal.returns-in-Same
returns-in-Same c =
    sym (matches_by_meeting c.args.pattern.now c.args.name.now ∙ ap matches_on (sym c.in-Same.ensures))

pub returns-in-Differs : goal.returns-in-Differs
returns-in-Differs c =
    sym (matches_by_meeting c.args.pattern.now c.args.name.now ∙ ap matches_on (sym c.in-Differs.ensures))

pub returns-in-Star : goal.returns-in-Star
returns-in-Star c =
    c.matches_some_end.ensures
    ∙ sym (matches_by_meeting c.args.pattern.now c.args.name.now ∙ ap matches_on (sym c.in-Star.ensures))
