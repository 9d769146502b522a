use Rattle.std.proofs.Common.{◌&&◌, ap, ◌∙◌}
use Rattle.std.proofs.lemmas.List.{take_rest}
use Rattle.fluent_syntax_tree.specs.View.{element_view}
use Rattle.fluent_syntax_writer.specs.Places.{position_of}
use Rattle.fluent_syntax_writer.specs.RuleSets as sets
use Rattle.fluent_syntax_writer.proofs.rules.Positions.{keep, keeps, past, elements_keep_by_first_and_rest}
use Rattle.fluent_syntax_writer.proofs.rules.Steps.{item_joins_what_came_before}
use Rattle.fluent_syntax_writer.proofs.canonical.layout.texts_break.Goals as goal

pub loop-index-preserved : goal.loop-index-preserved
loop-index-preserved g c =
    let view = element_view g.T.ReadTexts.text in
    let edition = c.args.edition in
    let multiline = c.args.multiline in
    let broken = rw take_rest at c.element_breaks.ensures in
    record {
      rest = λ k.
          rw c.position_past-position.ensures
          (item_joins_what_came_before (keep view edition multiline k) (keeps view edition multiline k) (past view)
          (elements_keep_by_first_and_rest view edition multiline k)
          (position_of c.loop-index.position) c.args.elements.now _ _ _ _ _
          c.loop-index-test.true c.index-elements-index.is
          (c.union-broken.ensures k ∙ ap (λ b. sets.keeps c.loop-index.broken k && b) (broken k))
          (c.loop-index.invariant.rest k));
    }
