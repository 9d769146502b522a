use Rattle.std.proofs.Common.{◌∙◌, arith, sym}
use Rattle.std.specs.Prelude.{option_map}
use Rattle.fluent_syntax_parser.specs.Faults.{fault_of}
use Rattle.fluent_syntax_edits.specs.SeveralEdits.{moved_by}
use Rattle.fluent_syntax_edits.proofs.ErrorMoves.{shifted_error_is_moved}
use Rattle.fluent_syntax_edits.proofs.Numbered.{images_agree_at}
use Rattle.fluent_syntax_edits.proofs.moved_errors.are_moved_by.Goals as goal

pub returns-then-not-is_shifted : goal.returns-then-not-is_shifted
returns-then-not-is_shifted c = (
  (λ so. cc),
  (λ e.
      let rs = c.args.replacements.now in
      let same =
      images_agree_at fault_of (option_map (moved_by 0 0 rs)) c.args.errors.now c.args.others.now c.loop-index.index _ _
      c.loop-index-test.true (omega arith) c.index-errors-index.is c.index-others-index.is e in
      let shifted =
      shifted_error_is_moved rs c.in_ok-passed.passed c.loop-index.passed.end (fault_of c.index-errors-index.result)
      (c.in_ok-passed.ensures.place ∙ c.junk_end.ensures) c.in_ok-passed.ensures.by in
      c.if-not-is_shifted.ensures.1 (same ∙ sym shifted)),
)
