use Rattle.std.proofs.Common.{◌∙◌, ap}
use Rattle.std.proofs.lemmas.Result.{IfOk-weaker}
use Rattle.fluent_syntax_tree.specs.Tree.{select}
use Rattle.fluent_syntax_tree.proofs.Views.{view-Select}
use Rattle.fluent_syntax_parser.specs.Gathered.{variants_view}
use Rattle.fluent_syntax_parser.proofs.expressions.LastPlaced.{pushed_placeable_is_added}
use Rattle.fluent_syntax_parser.proofs.reader.Reader.add_variants.Goals as goal

pub returns : goal.returns
returns g c =
    let v = g.M.MakeTexts.made in
    IfOk-weaker c.add.result _ _ (λ done pushed old tree added.
    let taken = c.take_inline-selector.ensures old tree added in
    pushed_placeable_is_added v _ _ _ (rw taken.0 at pushed)
    (view-Select v c.take_inline-selector.result c.args.variants
    ∙ ap (λ x. select x (variants_view v c.args.variants.items)) taken.1)) c.add.ensures.added
