use Rattle.std.proofs.Common.{◌∙◌, ◌<◌, ◌≤◌, length, ap, arith, sym}
use Rattle.ftl_files.specs.Patterns.{name_matches}
use Rattle.ftl_files.proofs.PatternLemmas.{first_is_best, some_end_matches_before_last_byte, matches_by_meeting}
use Rattle.ftl_files.proofs.PatternLemmas.{matches_on}
use Rattle.ftl_files.proofs.PatternLemmas.{no_further_end, whole_that_holds_is_some_end, star_is_shorter}
use Rattle.ftl_files.proofs.patterns.matches_some_end.Goals as goal

pub returns-in-Same : goal.returns-in-Same
returns-in-Same c =
    let wanted = c.loop-more.wanted.now in
    let left = c.loop-more.left.now in
    sym (whole_that_holds_is_some_end (name_matches wanted) left
    (matches_by_meeting wanted left ∙ ap matches_on (sym c.in-Same.ensures))) ∙ c.loop-more.invariant.same

pub loop-more-smaller-in-Star : goal.loop-more-smaller-in-Star
loop-more-smaller-in-Star c =
    star_is_shorter c.loop-more.wanted.now c.loop-more.left.now c.in-Star.more.now c.in-Star.rest.now
    (sym c.in-Star.ensures)

pub loop-more-preserved-in-Star : goal.loop-more-preserved-in-Star
loop-more-preserved-in-Star c = record {
  same =
      first_is_best c.loop-more.wanted.now c.loop-more.left.now c.in-Star.more.now c.in-Star.rest.now
      (sym c.in-Star.ensures) ∙ c.loop-more.invariant.same;
}

pub returns-in-empty : goal.returns-in-empty
returns-in-empty c =
    let none : length c.loop-more.left.now < 1 = omega arith in
    sym (no_further_end c.loop-more.wanted.now c.loop-more.left.now (sym c.in-Differs.ensures) none)
    ∙ c.loop-more.invariant.same

pub loop-more-preserved : goal.loop-more-preserved
loop-more-preserved c =
    let some : 1 ≤ length c.loop-more.left.now = omega arith in
    record {
      same = some_end_matches_before_last_byte c.loop-more.wanted.now c.loop-more.left.now (sym c.in-Differs.ensures)
          some
          ∙ c.loop-more.invariant.same;
    }
