use Rattle.std.proofs.Common.{◌∙◌, refl}
use Rattle.std.proofs.lemmas.Result.{IfOk-weaker}
use Rattle.fluent_syntax_tree.proofs.Views.{view-TermReference}
use Rattle.fluent_syntax_parser.proofs.expressions.LastPlaced.{pushed_inline_is_added_as_placeable}
use Rattle.fluent_syntax_parser.proofs.reader.Reader.add_term_named.Goals as goal

pub returns : goal.returns
returns g c =
    let v = g.M.MakeTexts.made in
    IfOk-weaker c.add_inline.result _ _ (λ done pushed.
    pushed_inline_is_added_as_placeable v _ _ _ pushed
    (view-TermReference v c.in_ok-id.id c.in_ok-attribute.attribute c.args.arguments
    ∙ rw (c.in_ok-id.ensures, c.in_ok-attribute.ensures) refl)) c.add_inline.ensures
