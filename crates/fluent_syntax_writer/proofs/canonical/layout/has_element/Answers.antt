use Rattle.fluent_syntax_tree.specs.View.{element_view}
use Rattle.fluent_syntax_writer.proofs.rules.Positions.{has_element-list}
use Rattle.fluent_syntax_writer.proofs.canonical.layout.has_element.Goals as goal

pub returns : goal.returns
returns g c = has_element-list (element_view g.T.ReadTexts.text) c.args.elements.now _ c.is_empty.ensures
