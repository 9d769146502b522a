use Rattle.std.proofs.Common.{refl}
use Rattle.std.proofs.lemmas.Result.{IfOk-weaker}
use Rattle.fluent_syntax_tree.specs.View.{element_view}
use Rattle.fluent_syntax_tree.proofs.Lists.{map-push}
use Rattle.fluent_syntax_tree.proofs.Views.{view-TextElement}
use Rattle.fluent_syntax_parser.proofs.reader.Reader.add_text.Goals as goal

pub returns : goal.returns
returns g c =
    let v = g.M.MakeTexts.made in
    IfOk-weaker c.add.result _ _ (λ done pushed.
    map-push (element_view v) _ _ _ _ pushed
    (rw (view-TextElement v c.in_ok-value.value, c.in_ok-value.ensures) refl)) c.add.ensures.added
