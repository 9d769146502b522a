use Rattle.fluent_syntax_tree.specs.View.{identifier_view}
use Rattle.fluent_syntax_writer.proofs.rules.Nodes.{term_is_selector, message_is_no_selector}
use Rattle.fluent_syntax_tree.proofs.Views.{view-MessageReference, view-TermReference}
use Rattle.fluent_syntax_writer.proofs.canonical.expressions.is_selector.Goals as goal

pub returns-in-MessageReference : goal.returns-in-MessageReference
returns-in-MessageReference g c =
    rw (c.in-MessageReference.is, view-MessageReference)
    (message_is_no_selector (identifier_view g.T.ReadTexts.text) (g.T.ReadTexts.text c.in-MessageReference.id.name) _)

pub returns-in-TermReference : goal.returns-in-TermReference
returns-in-TermReference g c =
    rw (c.in-TermReference.is, view-TermReference, c.is_some.ensures)
    (term_is_selector (identifier_view g.T.ReadTexts.text) (g.T.ReadTexts.text c.in-TermReference.id.name) _ _)
