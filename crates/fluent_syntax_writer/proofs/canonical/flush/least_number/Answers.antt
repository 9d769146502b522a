use Rattle.std.proofs.Common.{List, ◌+◌, drop, sym, ◌∙◌}
use Rattle.fluent_syntax_tree.specs.declared.ast.PatternElement.{PatternElement}
use Rattle.fluent_syntax_tree.specs.View.{element_view}
use Rattle.fluent_syntax_grammar.specs.Canonical.{line_indents}
use Rattle.fluent_syntax_grammar.specs.Layout.{least}
use Rattle.fluent_syntax_writer.specs.Places.{position_of, least_of_two}
use Rattle.fluent_syntax_writer.proofs.rules.Lines.{least-line_indents}
use Rattle.fluent_syntax_writer.proofs.rules.Positions.{tree}
use Rattle.fluent_syntax_writer.proofs.rules.Steps.{drop_is_cons}
use Rattle.fluent_syntax_writer.proofs.canonical.flush.least_number.Goals as goal

pub loop-element-preserved : goal.loop-element-preserved
loop-element-preserved g c =
    let view = element_view g.T.ReadTexts.text in
    let elements = c.args.elements.now in
    let place = c.loop-element.element-index in
    let position = position_of c.loop-element.position in
    let so_far = c.loop-element.least in
    let left = λ (es : List (PatternElement g.row.X.Denot)).
    least_of_two so_far (least (line_indents c.args.edition position (tree view es))) in
    let next = drop_is_cons left elements place _ c.loop-element-test.true c.element-item.is in
    let later = tree view (drop (place + 1) elements) in
    let step = least-line_indents c.args.edition position _ later so_far c.line_number.result c.line_number.ensures in
    let rest = sym (next ∙ step) ∙ c.loop-element.invariant.rest in
    record { rest = rw (c.least_of_two-least.ensures, c.position_past-position.ensures) rest }
