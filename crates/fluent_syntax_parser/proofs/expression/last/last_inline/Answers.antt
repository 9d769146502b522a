use Rattle.std.proofs.Common.{◌∙◌, ap, refl, sym}
use Rattle.fluent_syntax_tree.specs.View.{expression_view}
use Rattle.fluent_syntax_tree.proofs.Views.{view-Inline}
use Rattle.fluent_syntax_parser.proofs.expressions.Inlines.{inline_expression_is_seen_as_inline}
use Rattle.fluent_syntax_parser.proofs.expressions.Inlines.{view_of_select_is_no_inline}
use Rattle.fluent_syntax_parser.proofs.expressions.LastPlaced.{last_is_appended_item, element_of_placeable_has_its_tree}
use Rattle.fluent_syntax_parser.proofs.expressions.LastPlaced.{text_element_is_no_placeable}
use Rattle.fluent_syntax_parser.proofs.expression.last.last_inline.Goals as goal

pub unreachable-requires : goal.unreachable-requires
unreachable-requires g c =
    let v = g.M.MakeTexts.made in
    let (old, tree, added) = c.requires in
    let (e, pushed, seen) = added in
    let found = c.in-Some-Placeable in
    let is = last_is_appended_item c.args.elements.now old e found.field-0.now pushed found.ensures.value in
    view_of_select_is_no_inline v c.in-Select.selector c.in-Select.variants c.in-Select.is
    (element_of_placeable_has_its_tree v found.expression (sym found.field-0-is ∙ is) seen)

pub unreachable-requires-in-Some-TextElement : goal.unreachable-requires-in-Some-TextElement
unreachable-requires-in-Some-TextElement g c =
    let (old, tree, added) = c.requires in
    let (e, pushed, seen) = added in
    let found = c.in-Some-TextElement in
    let is = last_is_appended_item c.args.elements.now old e found.field-0.now pushed found.ensures.value in
    text_element_is_no_placeable g.M.MakeTexts.made found.field-0-0 (sym found.field-0-is ∙ is) seen

pub returns : goal.returns
returns g c = λ old tree (e, pushed, seen).
    let v = g.M.MakeTexts.made in
    let found = c.in-Some-Placeable in
    let is = last_is_appended_item c.args.elements.now old e found.field-0.now pushed found.ensures.value in
    inline_expression_is_seen_as_inline v c.in-Inline.inline refl
    (ap (expression_view v) c.in-Inline.is ∙ view-Inline v c.in-Inline.inline)
    (element_of_placeable_has_its_tree v found.expression (sym found.field-0-is ∙ is) seen)
