use Rattle.std.proofs.Common.{refl}
use Rattle.fluent_syntax_tree.specs.Tree.{inline}
use Rattle.fluent_syntax_tree.proofs.Views.{view-Inline}
use Rattle.fluent_syntax_parser.proofs.expressions.Inlines.{inline_expression_is_seen_as_inline}
use Rattle.fluent_syntax_parser.proofs.expressions.Inlines.{view_of_select_is_no_inline}
use Rattle.fluent_syntax_parser.proofs.expression.last.take_inline.Goals as goal

pub take_expression-requires : goal.take_expression-requires
take_expression-requires g c = (c.requires.0, inline c.requires.1, c.requires.2)

pub unreachable-requires : goal.unreachable-requires
unreachable-requires g c =
    view_of_select_is_no_inline g.M.MakeTexts.made c.in-Select.selector c.in-Select.variants refl
    (c.in-Select.ensures c.requires.0 (inline c.requires.1) c.requires.2).1

pub returns : goal.returns
returns g c = λ old tree added.
    let v = g.M.MakeTexts.made in
    let taken = c.in-Inline.ensures old (inline tree) added in
    (taken.0, inline_expression_is_seen_as_inline v c.in-Inline.inline refl (view-Inline v c.in-Inline.inline) taken.1)
