use Rattle.std.proofs.Common.{◌∙◌, ap}
use Rattle.std.proofs.lemmas.Result.{IfOk-weaker}
use Rattle.fluent_syntax_tree.specs.Tree.{inline_placeable}
use Rattle.fluent_syntax_tree.specs.View.{expression_view}
use Rattle.fluent_syntax_tree.proofs.Views.{view-InlinePlaceable}
use Rattle.fluent_syntax_parser.proofs.expressions.LastPlaced.{pushed_inline_is_added_as_placeable}
use Rattle.fluent_syntax_parser.proofs.reader.Reader.wrap_last.Goals as goal

pub returns : goal.returns
returns g c =
    let v = g.M.MakeTexts.made in
    let expression = c.in_ok-expression.expression in
    IfOk-weaker c.add_inline.result _ _ (λ done pushed old tree added.
    let taken = c.take_expression.ensures old tree added in
    pushed_inline_is_added_as_placeable v _ _ _ (rw taken.0 at pushed)
    (view-InlinePlaceable v expression
    ∙ ap inline_placeable (ap (expression_view v) c.in_ok-expression.ensures.ok ∙ taken.1))) c.add_inline.ensures
