use Rattle.std.proofs.Common.{rules}
use Rattle.fluent_syntax_c.specs.Arguments.{edition_number}
use Rattle.fluent_syntax_c.specs.SeveralEdits.{EditAsksForNone, PartReadsDeeper}
use Rattle.fluent_syntax_c.proofs.PartChanges.{Any-at, all_are_asked_for, one_more_is_asked_for}
use Rattle.fluent_syntax_c.proofs.asked_edits.asked_edits.Goals as goal

pub returns-in_err-new-clause-deeper : goal.returns-in_err-new-clause-deeper
returns-in_err-new-clause-deeper c = λ t stated.
    Any-at (PartReadsDeeper c.args.edition t c.args.nesting) c.args.edits.now c.loop-edit.edit-index _
    c.loop-edit-test.true (c.in_err-new.ensures.deeper t (search rules))

pub returns-in-Err-clause-none : goal.returns-in-Err-clause-none
returns-in-Err-clause-none c = λ by t is number.
    Any-at (λ edit. EditAsksForNone (edition_number by) t edit c.in-Err.refusal) c.args.edits.now
    c.loop-edit.edit-index _ c.loop-edit-test.true
    (rw c.in-Err.is at (c.in_ok-new.ensures.none by t is number))

pub loop-edit-preserved : goal.loop-edit-preserved
loop-edit-preserved c = record {
  asked = λ by t is number.
      one_more_is_asked_for (edition_number by) t by is.tiles c.args.edits.now c.loop-edit.edit-index
      c.loop-edit.asked.items _ c.add_edit.new.edits.items c.in-Ok.new c.loop-edit-test.true c.in-Ok-add_edit.ensures
      (rw c.in-Ok.is at (c.in_ok-new.ensures.asked by t is number))
      (c.loop-edit.invariant.asked by t is number);
}

pub loop-edit-init : goal.loop-edit-init
loop-edit-init c = record { asked = λ by t is number cs those. rw c.new-asked.ensures.items those }

pub returns-clause-asked : goal.returns-clause-asked
returns-clause-asked c = λ by t is number.
    all_are_asked_for (edition_number by) t by is.tiles c.args.edits.now c.loop-edit.edit-index
    c.loop-edit.asked.items c.loop-edit-test.false (c.loop-edit.invariant.asked by t is number)
