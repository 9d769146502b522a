use Rattle.std.proofs.Common.{arith}
use Rattle.std.proofs.lemmas.Result.{err_from_is_err_and}
use Rattle.fluent_syntax_edits.specs.Changes.{change_of}
use Rattle.fluent_syntax_edits.specs.Edits.{IsRead, made}
use Rattle.fluent_syntax_edits.proofs.Answered.{error_of_range_is_edit_result, found_range_is_range_of_change}
use Rattle.fluent_syntax_edits.proofs.Answered.{no_attempt_is_read, none_below_next}
use Rattle.fluent_syntax_edits.proofs.edits.edited_text.Goals as goal

pub returns-in_err-replaced : goal.returns-in_err-replaced
returns-in_err-replaced c =
    let p = err_from_is_err_and c.from_residual.result c.from_residual.ensures.1 in
    rw (p.1, p.2)
    (error_of_range_is_edit_result c.args.edition c.args.source.now c.args.index
    (change_of c.args.edit.now) _ c.in_err-replaced.ensures)

pub returns-in-Some : goal.returns-in-Some
returns-in-Some c =
    let s = c.in_ok-replaced.replaced in
    let change = change_of c.args.edit.now in
    let read = rw c.in-Some.is at c.in_ok-found.ensures.some in
    made s c.loop-line_ends.line_ends
    (found_range_is_range_of_change c.args.edition c.args.source.now c.args.index change s c.in_ok-replaced.ensures)
    (omega (arith, c.loop-line_ends-test.true, c.attempts-line_ends-end.ensures)) read.0 read.1
    c.loop-line_ends.invariant.none

pub loop-line_ends-preserved : goal.loop-line_ends-preserved
loop-line_ends-preserved c = record {
  none =
      none_below_next
      (λ k. IsRead c.args.edition c.args.source.now c.args.index (change_of c.args.edit.now) k
      c.in_ok-replaced.replaced)
      c.loop-line_ends.line_ends c.loop-line_ends.invariant.none
      (rw c.in_default.is at c.in_ok-found.ensures.none);
}

pub returns : goal.returns
returns c =
    let s = c.in_ok-replaced.replaced in
    let change = change_of c.args.edit.now in
    no_attempt_is_read c.args.edition c.args.source.now c.args.index change s c.in_ok-refusal.refusal
    (found_range_is_range_of_change c.args.edition c.args.source.now c.args.index change s c.in_ok-replaced.ensures)
    (λ k l. c.loop-line_ends.invariant.none k
    (omega (arith, l, c.loop-line_ends-test.false, c.attempts-line_ends-end.ensures)))
    c.in_ok-refusal.ensures
