use Rattle.fluent_syntax_tree.specs.View.{identifier_view}
use Rattle.fluent_syntax_writer.proofs.rules.Nodes.{term_is_attribute}
use Rattle.fluent_syntax_tree.specs.Tree.{no_arguments}
use Rattle.fluent_syntax_tree.proofs.Views.{view-TermReference}
use Rattle.fluent_syntax_writer.proofs.canonical.expressions.is_term_attribute.Goals as goal

pub returns-in-TermReference : goal.returns-in-TermReference
returns-in-TermReference g c =
    let f = g.T.ReadTexts.text in
    rw (c.in-TermReference.is, view-TermReference, c.is_some.ensures)
    (term_is_attribute (identifier_view f) (f c.in-TermReference.id.name) _ no_arguments)
