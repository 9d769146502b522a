use Rattle.std.proofs.Common.{arith}
use Rattle.std.specs.Prelude.{option_map}
use Rattle.fluent_syntax_parser.specs.Faults.{fault_of}
use Rattle.fluent_syntax_edits.specs.Errors.{moved_fault}
use Rattle.fluent_syntax_edits.proofs.Numbered.{images_agree_at}
use Rattle.fluent_syntax_edits.proofs.reading.are_moved.Goals as goal

pub returns-then-not-is_moved : goal.returns-then-not-is_moved
returns-then-not-is_moved c = (
  (λ so. cc),
  (λ e.
      let moved = option_map (moved_fault c.args.shift.replaced c.args.shift.to) in
      let same =
      images_agree_at fault_of moved c.args.errors.now c.args.others.now c.loop-index.index _ _ c.loop-index-test.true
      (omega arith) c.index-errors-index.is c.index-others-index.is e in
      c.if-not-is_moved.ensures.1 same),
)
