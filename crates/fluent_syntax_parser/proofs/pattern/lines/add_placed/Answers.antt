use Rattle.std.proofs.Common.{◌∙◌, ap}
use Rattle.std.proofs.lemmas.Result.{IfOk-weaker}
use Rattle.fluent_syntax_tree.specs.View.{expression_view}
use Rattle.fluent_syntax_grammar.specs.Layout.{placed}
use Rattle.fluent_syntax_parser.proofs.pattern.lines.add_placed.Goals as goal

pub returns : goal.returns
returns g c =
    IfOk-weaker c.add.result _ _ (λ done pushed. (
      _,
      pushed,
      λ old tree added.
          ap placed (ap (expression_view g.M.MakeTexts.made) c.in_ok-expression.ensures.ok
          ∙ (c.take_expression.ensures old tree added).1),
    )) c.add.ensures.added
