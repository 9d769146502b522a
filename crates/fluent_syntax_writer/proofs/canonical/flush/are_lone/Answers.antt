use Rattle.std.proofs.Common.{sym, ◌∙◌}
use Rattle.fluent_syntax_tree.specs.View.{element_view}
use Rattle.fluent_syntax_writer.specs.Places.{position_of}
use Rattle.fluent_syntax_writer.proofs.rules.Positions.{lone, one_lone, past, elements_are_lone_by_first_and_rest}
use Rattle.fluent_syntax_writer.proofs.rules.Steps.{rest_decides_after_item_that_passes, item_that_breaks_decides_rest}
use Rattle.fluent_syntax_writer.proofs.canonical.flush.are_lone.Goals as goal

pub returns-then-not-is_lone_lf_at_line_start : goal.returns-then-not-is_lone_lf_at_line_start
returns-then-not-is_lone_lf_at_line_start g c =
    let view = element_view g.T.ReadTexts.text in
    let fails = sym c.is_lone_lf_at_line_start.ensures ∙ c.if-not-is_lone_lf_at_line_start.true in
    item_that_breaks_decides_rest (lone view) (one_lone view) (past view)
    (elements_are_lone_by_first_and_rest view) _ c.args.elements.now _ _ _
    c.loop-element-test.true c.element-item.is fails c.loop-element.invariant.rest

pub loop-element-preserved : goal.loop-element-preserved
loop-element-preserved g c =
    let view = element_view g.T.ReadTexts.text in
    let passes = sym c.is_lone_lf_at_line_start.ensures ∙ c.if-not-is_lone_lf_at_line_start.false in
    let rest =
    rest_decides_after_item_that_passes (lone view) (one_lone view) (past view)
    (elements_are_lone_by_first_and_rest view)
    (position_of c.loop-element.position)
    c.args.elements.now _ _ _ c.loop-element-test.true c.element-item.is passes c.loop-element.invariant.rest in
    record { rest = rw c.position_past-position.ensures rest }
