use Rattle.std.proofs.Common.{sym, ◌∙◌}
use Rattle.fluent_syntax_writer.proofs.rules.Named.{values, one_value, no_state, values_are_first_and_rest}
use Rattle.fluent_syntax_writer.proofs.rules.Steps.{rest_decides_after_item_that_passes, item_that_breaks_decides_rest}
use Rattle.fluent_syntax_writer.proofs.canonical.arguments.have_values.Goals as goal

pub returns-then-not-is_argument_value : goal.returns-then-not-is_argument_value
returns-then-not-is_argument_value g c =
    let f = g.T.ReadTexts.text in
    let fails = sym c.is_argument_value.ensures ∙ c.if-not-is_argument_value.true in
    item_that_breaks_decides_rest (values f) (one_value f) (no_state f) (values_are_first_and_rest f) tt
    c.args.named.now _ _ _
    c.loop-argument-test.true c.argument-item.is fails c.loop-argument.invariant.rest

pub loop-argument-preserved : goal.loop-argument-preserved
loop-argument-preserved g c =
    let f = g.T.ReadTexts.text in
    let holds = sym c.is_argument_value.ensures ∙ c.if-not-is_argument_value.false in
    let rest =
    rest_decides_after_item_that_passes (values f) (one_value f) (no_state f) (values_are_first_and_rest f) tt
    c.args.named.now _ _ _
    c.loop-argument-test.true c.argument-item.is holds c.loop-argument.invariant.rest in
    record { rest = rest }
