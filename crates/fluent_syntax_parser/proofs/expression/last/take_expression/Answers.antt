use Rattle.std.proofs.Common.{◌∙◌, sym}
use Rattle.std.proofs.lemmas.List.{same_from_push}
use Rattle.fluent_syntax_parser.proofs.expressions.LastPlaced.{element_of_placeable_has_its_tree}
use Rattle.fluent_syntax_parser.proofs.expressions.LastPlaced.{text_element_is_no_placeable}
use Rattle.fluent_syntax_parser.proofs.expression.last.take_expression.Goals as goal

pub unreachable-requires : goal.unreachable-requires
unreachable-requires g c =
    let (old, tree, added) = c.requires in
    let (e, pushed, seen) = added in
    let found = c.in-Some-TextElement in
    let same = same_from_push _ old _ e (sym found.ensures.items ∙ pushed) in
    text_element_is_no_placeable g.M.MakeTexts.made found.field-0-0 (sym found.field-0-is ∙ same.1) seen

pub returns : goal.returns
returns g c = λ old tree (e, pushed, seen).
    let found = c.in-Some-Placeable in
    let same = same_from_push _ old _ e (sym found.ensures.items ∙ pushed) in
    (same.0, element_of_placeable_has_its_tree g.M.MakeTexts.made found.expression (sym found.field-0-is ∙ same.1) seen)
