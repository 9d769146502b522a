use Rattle.std.proofs.Common.{refl}
use Rattle.std.proofs.lemmas.Result.{IfOk-weaker}
use Rattle.fluent_syntax_tree.specs.View.{element_view}
use Rattle.fluent_syntax_tree.proofs.Lists.{map-push}
use Rattle.fluent_syntax_tree.proofs.Views.{view-Placeable}
use Rattle.fluent_syntax_parser.proofs.reader.Reader.add_element.Goals as goal

pub returns-in-Run : goal.returns-in-Run
returns-in-Run g c = rw c.in-Run.is c.add_text.ensures

pub returns-in-Placed : goal.returns-in-Placed
returns-in-Placed g c =
    let v = g.M.MakeTexts.made in
    IfOk-weaker c.add.result _ _ (λ done pushed.
    map-push (element_view v) _ _ _ _ pushed
    (rw (view-Placeable v c.into_inner-expression.result, c.into_inner-expression.ensures, c.in-Placed.is) refl))
    c.add.ensures.added
