use Rattle.std.proofs.Common.{sym, ap, ◌∙◌, rules, tests}
use Rattle.std.proofs.lemmas.Iterator.{YieldsList-from_slice}
use Rattle.std.proofs.lemmas.Iterator.Search.{any_from_yields_List}
use Rattle.fluent_syntax_tree.specs.View.{element_view}
use Rattle.fluent_syntax_tree.proofs.Views.{view-Pattern}
use Rattle.fluent_syntax_grammar.specs.Written.{spans_lines, is_multiline}
use Rattle.fluent_syntax_writer.proofs.rules.Positions.{is_multiline-list}
use Rattle.fluent_syntax_writer.proofs.canonical.patterns.is_multiline.Goals as goal

pub returns : goal.returns
returns g c =
    let view = element_view g.T.ReadTexts.text in
    let elements = c.args.pattern.now.elements.items in
    let yields = YieldsList-from_slice elements (c.iter.ensures.rest ∙ c.deref.ensures.value) in
    let same = ap is_multiline (view-Pattern g.T.ReadTexts.text c.args.pattern.now) ∙ is_multiline-list view elements in
    any_from_yields_List (λ e. spans_lines (view e)) _ _ _ c.any.ensures.ran yields (λ x b q k. search (rules, tests))
    ∙ sym same
