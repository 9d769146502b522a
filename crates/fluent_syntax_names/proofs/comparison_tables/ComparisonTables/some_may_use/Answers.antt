use Rattle.std.proofs.Common.{true, false, sym, ◌∙◌}
use Rattle.fluent_syntax_names.specs.ComparisonTables.{other_by}
use Rattle.fluent_syntax_names.specs.MissingParts.{one_may_use}
use Rattle.fluent_syntax_names.proofs.MissingParts.{next_or_later_passes}
use Rattle.fluent_syntax_names.proofs.comparison_tables.ComparisonTables.some_may_use.Goals as goal

pub returns-then-branch : goal.returns-then-branch
returns-then-branch c =
    next_or_later_passes (one_may_use (other_by c.args.self.now) c.args.variable.now) c.args.messages.now
    c.loop-message.message-index c.loop-message-test.true true (sym c.in_ok-one_may_use.ensures ∙ c.if-branch.true)
    ∙ c.loop-message.invariant.left

pub loop-message-preserved : goal.loop-message-preserved
loop-message-preserved c = record {
  left = next_or_later_passes (one_may_use (other_by c.args.self.now) c.args.variable.now) c.args.messages.now
      c.loop-message.message-index c.loop-message-test.true false
      (sym c.in_ok-one_may_use.ensures ∙ c.if-branch.false)
      ∙ c.loop-message.invariant.left;
}
