use Rattle.std.proofs.Common.{sym, ap, ◌∙◌}
use Rattle.fluent_syntax_tree.specs.View.{expression_view, inline_view}
use Rattle.fluent_syntax_tree.proofs.Views.{view-Select, view-Inline, view-InlinePlaceable}
use Rattle.fluent_syntax_grammar.specs.Written.{is_select, holds_select}
use Rattle.fluent_syntax_writer.proofs.rules.Nodes.{inline_but_placeable_holds_no_select}
use Rattle.fluent_syntax_writer.proofs.canonical.patterns.+selects.Goals as goal

pub is_select-returns-in-Select : goal.is_select-returns-in-Select
is_select-returns-in-Select g t c =
    let f = g.T.ReadTexts.text in
    let select = ap is_select (view-Select f c.in-Select.selector c.in-Select.variants) in
    sym (ap (λ e. is_select (expression_view f e)) c.in-Select.is ∙ select)

pub is_select-returns-in-Inline : goal.is_select-returns-in-Inline
is_select-returns-in-Inline g t c =
    let f = g.T.ReadTexts.text in
    let inline = ap is_select (view-Inline f c.in-Inline.inline) in
    c.holds_select.ensures ∙ sym (ap (λ e. is_select (expression_view f e)) c.in-Inline.is ∙ inline)

pub holds_select-returns-in-Placeable : goal.holds_select-returns-in-Placeable
holds_select-returns-in-Placeable g t c =
    let f = g.T.ReadTexts.text in
    let placeable = ap holds_select (view-InlinePlaceable f c.in-Placeable.expression) in
    let boxed = ap (λ e. is_select (expression_view f e)) (sym c.deref.ensures) in
    c.is_select.ensures ∙ sym (ap (λ e. holds_select (inline_view f e)) c.in-Placeable.is ∙ placeable ∙ boxed)

pub holds_select-returns-in_default : goal.holds_select-returns-in_default
holds_select-returns-in_default g t c =
    inline_but_placeable_holds_no_select g.T.ReadTexts.text c.args.content.now c.in_default.not-Placeable
