use Rattle.std.proofs.Common.{codes, string_bytes, sym, rules, arith}
use Rattle.std.proofs.lemmas.Result.{err_from_is_err_and}
use Rattle.serde_json.specs.View.{view}
use Rattle.fluent_syntax_tree.specs.View.{inline_view, element_view, named_view, variant_view}
use Rattle.fluent_syntax_tree.proofs.Views.{view-Select, view-Inline, view-StringLiteral, view-NumberLiteral}
use Rattle.fluent_syntax_tree.proofs.Views.{view-FunctionReference, view-MessageReference, view-TermReference}
use Rattle.fluent_syntax_tree.proofs.Views.{view-VariableReference, view-InlinePlaceable, view-TextElement}
use Rattle.fluent_syntax_tree.proofs.Views.{view-Placeable, view-Pattern, view-Variant, view-NamedArgument}
use Rattle.fluent_syntax_tree.proofs.Views.{view-roll-CallArguments}
use Rattle.fluent_syntax_json.specs.Reading.{inline_in, element_in, named_in, variant_in}
use Rattle.fluent_syntax_json.proofs.Depth.{member_is_less_deep, present_value_is_got, item_at_key_is_less_deep}
use Rattle.fluent_syntax_json.proofs.Items.{handed, pushed, items_read_when_all_are_so_far, item_that_fails_fails_items}
use Rattle.fluent_syntax_json.proofs.Spelled.{pattern-is, element-is, expression-is, inline-is, arguments-is, named-is}
use Rattle.fluent_syntax_json.proofs.Spelled.{variant-is}
use Rattle.fluent_syntax_json.proofs.reading.patterns.+reading.Goals as goal

pub variant-returns-in_err-field : goal.variant-returns-in_err-field
variant-returns-in_err-field t c =
    let p = err_from_is_err_and c.from_residual.result c.from_residual.ensures.1 in
    handed _ _ _ _ _ _ p.1 p.2 (λ q. rw (variant-is (view c.args.v.now), q)) c.in_err-field.ensures

pub variant-returns-in_err-key : goal.variant-returns-in_err-key
variant-returns-in_err-key t c =
    let p = err_from_is_err_and c.from_residual-in_err-key.result c.from_residual-in_err-key.ensures.1 in
    handed _ _ _ _ _ _ p.1 p.2 (λ q. rw (variant-is (view c.args.v.now), c.in_ok-field.ensures, q)) c.in_err-key.ensures

pub variant-returns-in_err-field-2 : goal.variant-returns-in_err-field-2
variant-returns-in_err-field-2 t c =
    let p = err_from_is_err_and c.from_residual-in_err-field-2.result c.from_residual-in_err-field-2.ensures.1 in
    handed _ _ _ _ _ _ p.1 p.2 (λ q. rw (variant-is (view c.args.v.now), c.in_ok-field.ensures, c.in_ok-key.ensures, q))
    c.in_err-field-2.ensures

pub variant-returns-in_err-pattern : goal.variant-returns-in_err-pattern
variant-returns-in_err-pattern t c =
    let p = err_from_is_err_and c.from_residual-in_err-pattern.result c.from_residual-in_err-pattern.ensures.1 in
    handed _ _ _ _ _ _ p.1 p.2
    (λ q. rw (
      variant-is (view c.args.v.now),
      c.in_ok-field.ensures,
      c.in_ok-key.ensures,
      c.in_ok-field-2.ensures,
      q,
    )) c.in_err-pattern.ensures

pub variant-returns-in_err-field-3 : goal.variant-returns-in_err-field-3
variant-returns-in_err-field-3 t c =
    let p = err_from_is_err_and c.from_residual-in_err-field-3.result c.from_residual-in_err-field-3.ensures.1 in
    handed _ _ _ _ _ _ p.1 p.2
    (λ q. rw (
      variant-is (view c.args.v.now),
      c.in_ok-field.ensures,
      c.in_ok-key.ensures,
      c.in_ok-field-2.ensures,
      c.in_ok-pattern.ensures,
      q,
    )) c.in_err-field-3.ensures

pub variant-returns-in_err-truth : goal.variant-returns-in_err-truth
variant-returns-in_err-truth t c =
    let p = err_from_is_err_and c.from_residual-in_err-truth.result c.from_residual-in_err-truth.ensures.1 in
    handed _ _ _ _ _ _ p.1 p.2
    (λ q. rw (
      variant-is (view c.args.v.now),
      c.in_ok-field.ensures,
      c.in_ok-key.ensures,
      c.in_ok-field-2.ensures,
      c.in_ok-pattern.ensures,
      c.in_ok-field-3.ensures,
      q,
    )) c.in_err-truth.ensures

pub variant-returns : goal.variant-returns
variant-returns t c =
    rw (
      variant-is (view c.args.v.now),
      c.in_ok-field.ensures,
      c.in_ok-key.ensures,
      c.in_ok-field-2.ensures,
      c.in_ok-pattern.ensures,
      c.in_ok-field-3.ensures,
      c.in_ok-truth.ensures,
      view-Variant,
    )

pub variant-pattern-requires : goal.variant-pattern-requires
variant-pattern-requires t c =
    let below =
    member_is_less_deep (codes "value") (view c.args.v.now) (view c.in_ok-field-2.field-0.now)
    c.in_ok-field-2.ensures in
    (omega (arith, below), tt)

pub named_argument-returns-in_err-field : goal.named_argument-returns-in_err-field
named_argument-returns-in_err-field t c =
    let p = err_from_is_err_and c.from_residual.result c.from_residual.ensures.1 in
    handed _ _ _ _ _ _ p.1 p.2 (λ q. rw (named-is (view c.args.v.now), q)) c.in_err-field.ensures

pub named_argument-returns-in_err-identifier : goal.named_argument-returns-in_err-identifier
named_argument-returns-in_err-identifier t c =
    let p = err_from_is_err_and c.from_residual-in_err-identifier.result c.from_residual-in_err-identifier.ensures.1 in
    handed _ _ _ _ _ _ p.1 p.2 (λ q. rw (named-is (view c.args.v.now), c.in_ok-field.ensures, q))
    c.in_err-identifier.ensures

pub named_argument-returns-in_err-field-2 : goal.named_argument-returns-in_err-field-2
named_argument-returns-in_err-field-2 t c =
    let p = err_from_is_err_and c.from_residual-in_err-field-2.result c.from_residual-in_err-field-2.ensures.1 in
    handed _ _ _ _ _ _ p.1 p.2
    (λ q. rw (named-is (view c.args.v.now), c.in_ok-field.ensures, c.in_ok-identifier.ensures, q))
    c.in_err-field-2.ensures

pub named_argument-returns-in_err-inline : goal.named_argument-returns-in_err-inline
named_argument-returns-in_err-inline t c =
    let p = err_from_is_err_and c.from_residual-in_err-inline.result c.from_residual-in_err-inline.ensures.1 in
    handed _ _ _ _ _ _ p.1 p.2
    (λ q. rw (
      named-is (view c.args.v.now),
      c.in_ok-field.ensures,
      c.in_ok-identifier.ensures,
      c.in_ok-field-2.ensures,
      q,
    )) c.in_err-inline.ensures

pub named_argument-returns : goal.named_argument-returns
named_argument-returns t c =
    rw (
      named-is (view c.args.v.now),
      c.in_ok-field.ensures,
      c.in_ok-identifier.ensures,
      c.in_ok-field-2.ensures,
      c.in_ok-inline.ensures,
      view-NamedArgument,
    )

pub named_argument-inline-requires : goal.named_argument-inline-requires
named_argument-inline-requires t c =
    let below =
    member_is_less_deep (codes "value") (view c.args.v.now) (view c.in_ok-field-2.field-0.now)
    c.in_ok-field-2.ensures in
    (omega (arith, below), tt)

pub element-returns-in_err-type_name : goal.element-returns-in_err-type_name
element-returns-in_err-type_name t c =
    let p = err_from_is_err_and c.from_residual.result c.from_residual.ensures.1 in
    handed _ _ _ _ _ _ p.1 p.2 (λ q. rw (element-is (view c.args.v.now), q)) c.in_err-type_name.ensures

pub element-returns-in_err-field-in-TextElement : goal.element-returns-in_err-field-in-TextElement
element-returns-in_err-field-in-TextElement t c =
    let p =
    err_from_is_err_and c.from_residual-in_err-field-in-TextElement.result
    c.from_residual-in_err-field-in-TextElement.ensures.1 in
    handed _ _ _ _ _ _ p.1 p.2
    (λ q. rw (element-is (view c.args.v.now), c.in_ok-type_name.ensures, c.in-TextElement.is, q))
    c.in_err-field-in-TextElement.ensures

pub element-returns-in_err-text-in-TextElement : goal.element-returns-in_err-text-in-TextElement
element-returns-in_err-text-in-TextElement t c =
    let p =
    err_from_is_err_and c.from_residual-in_err-text-in-TextElement.result
    c.from_residual-in_err-text-in-TextElement.ensures.1 in
    handed _ _ _ _ _ _ p.1 p.2
    (λ q. rw (
      element-is (view c.args.v.now),
      c.in_ok-type_name.ensures,
      c.in-TextElement.is,
      c.in_ok-field-in-TextElement.ensures,
      q,
    )) c.in_err-text-in-TextElement.ensures

pub element-returns-in_ok-text-in-TextElement : goal.element-returns-in_ok-text-in-TextElement
element-returns-in_ok-text-in-TextElement t c =
    rw (
      element-is (view c.args.v.now),
      c.in_ok-type_name.ensures,
      c.in-TextElement.is,
      c.in_ok-field-in-TextElement.ensures,
      c.in_ok-text-in-TextElement.ensures,
      view-TextElement,
    )

pub element-returns-in_err-field-in-Placeable : goal.element-returns-in_err-field-in-Placeable
element-returns-in_err-field-in-Placeable t c =
    let p =
    err_from_is_err_and c.from_residual-in_err-field-in-Placeable.result
    c.from_residual-in_err-field-in-Placeable.ensures.1 in
    handed _ _ _ _ _ _ p.1 p.2
    (λ q. rw (element-is (view c.args.v.now), c.in_ok-type_name.ensures, c.in-Placeable.is, q))
    c.in_err-field-in-Placeable.ensures

pub element-returns-in_err-expression-in-Placeable : goal.element-returns-in_err-expression-in-Placeable
element-returns-in_err-expression-in-Placeable t c =
    let p =
    err_from_is_err_and c.from_residual-in_err-expression-in-Placeable.result
    c.from_residual-in_err-expression-in-Placeable.ensures.1 in
    handed _ _ _ _ _ _ p.1 p.2
    (λ q. rw (
      element-is (view c.args.v.now),
      c.in_ok-type_name.ensures,
      c.in-Placeable.is,
      c.in_ok-field-in-Placeable.ensures,
      q,
    )) c.in_err-expression-in-Placeable.ensures

pub element-returns-in_ok-expression-in-Placeable : goal.element-returns-in_ok-expression-in-Placeable
element-returns-in_ok-expression-in-Placeable t c =
    rw (
      element-is (view c.args.v.now),
      c.in_ok-type_name.ensures,
      c.in-Placeable.is,
      c.in_ok-field-in-Placeable.ensures,
      c.in_ok-expression-in-Placeable.ensures,
      view-Placeable,
    )

pub element-expression-requires : goal.element-expression-requires
element-expression-requires t c =
    let below =
    member_is_less_deep (codes "expression") (view c.args.v.now) (view c.in_ok-field-in-Placeable.field-0.now)
    c.in_ok-field-in-Placeable.ensures in
    (omega (arith, below), tt)

pub element-returns-in_default : goal.element-returns-in_default
element-returns-in_default t c =
    rw (element-is (view c.args.v.now), c.in_ok-type_name.ensures) (search rules)

pub inline-returns-in_err-type_name : goal.inline-returns-in_err-type_name
inline-returns-in_err-type_name t c =
    let p = err_from_is_err_and c.from_residual.result c.from_residual.ensures.1 in
    handed _ _ _ _ _ _ p.1 p.2 (λ q. rw (inline-is (view c.args.v.now), q)) c.in_err-type_name.ensures

pub inline-returns-in_err-field-in-StringLiteral : goal.inline-returns-in_err-field-in-StringLiteral
inline-returns-in_err-field-in-StringLiteral t c =
    let p =
    err_from_is_err_and c.from_residual-in_err-field-in-StringLiteral.result
    c.from_residual-in_err-field-in-StringLiteral.ensures.1 in
    handed _ _ _ _ _ _ p.1 p.2
    (λ q. rw (inline-is (view c.args.v.now), c.in_ok-type_name.ensures, c.in-StringLiteral.is, q))
    c.in_err-field-in-StringLiteral.ensures

pub inline-returns-in_err-text-in-StringLiteral : goal.inline-returns-in_err-text-in-StringLiteral
inline-returns-in_err-text-in-StringLiteral t c =
    let p =
    err_from_is_err_and c.from_residual-in_err-text-in-StringLiteral.result
    c.from_residual-in_err-text-in-StringLiteral.ensures.1 in
    handed _ _ _ _ _ _ p.1 p.2
    (λ q. rw (
      inline-is (view c.args.v.now),
      c.in_ok-type_name.ensures,
      c.in-StringLiteral.is,
      c.in_ok-field-in-StringLiteral.ensures,
      q,
    )) c.in_err-text-in-StringLiteral.ensures

pub inline-returns-in_ok-text-in-StringLiteral : goal.inline-returns-in_ok-text-in-StringLiteral
inline-returns-in_ok-text-in-StringLiteral t c =
    rw (
      inline-is (view c.args.v.now),
      c.in_ok-type_name.ensures,
      c.in-StringLiteral.is,
      c.in_ok-field-in-StringLiteral.ensures,
      c.in_ok-text-in-StringLiteral.ensures,
      view-StringLiteral,
    )

pub inline-returns-in_err-field-in-NumberLiteral : goal.inline-returns-in_err-field-in-NumberLiteral
inline-returns-in_err-field-in-NumberLiteral t c =
    let p =
    err_from_is_err_and c.from_residual-in_err-field-in-NumberLiteral.result
    c.from_residual-in_err-field-in-NumberLiteral.ensures.1 in
    handed _ _ _ _ _ _ p.1 p.2
    (λ q. rw (inline-is (view c.args.v.now), c.in_ok-type_name.ensures, c.in-NumberLiteral.is, q))
    c.in_err-field-in-NumberLiteral.ensures

pub inline-returns-in_err-text-in-NumberLiteral : goal.inline-returns-in_err-text-in-NumberLiteral
inline-returns-in_err-text-in-NumberLiteral t c =
    let p =
    err_from_is_err_and c.from_residual-in_err-text-in-NumberLiteral.result
    c.from_residual-in_err-text-in-NumberLiteral.ensures.1 in
    handed _ _ _ _ _ _ p.1 p.2
    (λ q. rw (
      inline-is (view c.args.v.now),
      c.in_ok-type_name.ensures,
      c.in-NumberLiteral.is,
      c.in_ok-field-in-NumberLiteral.ensures,
      q,
    )) c.in_err-text-in-NumberLiteral.ensures

pub inline-returns-in_ok-text-in-NumberLiteral : goal.inline-returns-in_ok-text-in-NumberLiteral
inline-returns-in_ok-text-in-NumberLiteral t c =
    rw (
      inline-is (view c.args.v.now),
      c.in_ok-type_name.ensures,
      c.in-NumberLiteral.is,
      c.in_ok-field-in-NumberLiteral.ensures,
      c.in_ok-text-in-NumberLiteral.ensures,
      view-NumberLiteral,
    )

pub inline-returns-in_err-field-in-FunctionReference : goal.inline-returns-in_err-field-in-FunctionReference
inline-returns-in_err-field-in-FunctionReference t c =
    let p =
    err_from_is_err_and c.from_residual-in_err-field-in-FunctionReference.result
    c.from_residual-in_err-field-in-FunctionReference.ensures.1 in
    handed _ _ _ _ _ _ p.1 p.2
    (λ q. rw (inline-is (view c.args.v.now), c.in_ok-type_name.ensures, c.in-FunctionReference.is, q))
    c.in_err-field-in-FunctionReference.ensures

pub inline-returns-in_err-identifier-in-FunctionReference : goal.inline-returns-in_err-identifier-in-FunctionReference
inline-returns-in_err-identifier-in-FunctionReference t c =
    let p =
    err_from_is_err_and c.from_residual-in_err-identifier-in-FunctionReference.result
    c.from_residual-in_err-identifier-in-FunctionReference.ensures.1 in
    handed _ _ _ _ _ _ p.1 p.2
    (λ q. rw (
      inline-is (view c.args.v.now),
      c.in_ok-type_name.ensures,
      c.in-FunctionReference.is,
      c.in_ok-field-in-FunctionReference.ensures,
      q,
    )) c.in_err-identifier-in-FunctionReference.ensures

pub inline-returns-in_err-field-in-FunctionReference-2 : goal.inline-returns-in_err-field-in-FunctionReference-2
inline-returns-in_err-field-in-FunctionReference-2 t c =
    let p =
    err_from_is_err_and c.from_residual-in_err-field-in-FunctionReference-2.result
    c.from_residual-in_err-field-in-FunctionReference-2.ensures.1 in
    handed _ _ _ _ _ _ p.1 p.2
    (λ q. rw (
      inline-is (view c.args.v.now),
      c.in_ok-type_name.ensures,
      c.in-FunctionReference.is,
      c.in_ok-field-in-FunctionReference.ensures,
      c.in_ok-identifier-in-FunctionReference.ensures,
      q,
    ))
    c.in_err-field-in-FunctionReference-2.ensures

pub inline-returns-in_err-arguments-in-FunctionReference : goal.inline-returns-in_err-arguments-in-FunctionReference
inline-returns-in_err-arguments-in-FunctionReference t c =
    let p =
    err_from_is_err_and c.from_residual-in_err-arguments-in-FunctionReference.result
    c.from_residual-in_err-arguments-in-FunctionReference.ensures.1 in
    handed _ _ _ _ _ _ p.1 p.2
    (λ q. rw (
      inline-is (view c.args.v.now),
      c.in_ok-type_name.ensures,
      c.in-FunctionReference.is,
      c.in_ok-field-in-FunctionReference.ensures,
      c.in_ok-identifier-in-FunctionReference.ensures,
      c.in_ok-field-in-FunctionReference-2.ensures,
      q,
    )) c.in_err-arguments-in-FunctionReference.ensures

pub inline-returns-in_ok-arguments-in-FunctionReference : goal.inline-returns-in_ok-arguments-in-FunctionReference
inline-returns-in_ok-arguments-in-FunctionReference t c =
    rw (
      inline-is (view c.args.v.now),
      c.in_ok-type_name.ensures,
      c.in-FunctionReference.is,
      c.in_ok-field-in-FunctionReference.ensures,
      c.in_ok-identifier-in-FunctionReference.ensures,
      c.in_ok-field-in-FunctionReference-2.ensures,
      c.in_ok-arguments-in-FunctionReference.ensures,
      view-FunctionReference,
    )

pub inline-returns-in_err-field-in-MessageReference : goal.inline-returns-in_err-field-in-MessageReference
inline-returns-in_err-field-in-MessageReference t c =
    let p =
    err_from_is_err_and c.from_residual-in_err-field-in-MessageReference.result
    c.from_residual-in_err-field-in-MessageReference.ensures.1 in
    handed _ _ _ _ _ _ p.1 p.2
    (λ q. rw (inline-is (view c.args.v.now), c.in_ok-type_name.ensures, c.in-MessageReference.is, q))
    c.in_err-field-in-MessageReference.ensures

pub inline-returns-in_err-identifier-in-MessageReference : goal.inline-returns-in_err-identifier-in-MessageReference
inline-returns-in_err-identifier-in-MessageReference t c =
    let p =
    err_from_is_err_and c.from_residual-in_err-identifier-in-MessageReference.result
    c.from_residual-in_err-identifier-in-MessageReference.ensures.1 in
    handed _ _ _ _ _ _ p.1 p.2
    (λ q. rw (
      inline-is (view c.args.v.now),
      c.in_ok-type_name.ensures,
      c.in-MessageReference.is,
      c.in_ok-field-in-MessageReference.ensures,
      q,
    )) c.in_err-identifier-in-MessageReference.ensures

pub inline-returns-in_err-attribute_name-in-MessageReference :
    goal.inline-returns-in_err-attribute_name-in-MessageReference
inline-returns-in_err-attribute_name-in-MessageReference t c =
    let p =
    err_from_is_err_and c.from_residual-in_err-attribute_name-in-MessageReference.result
    c.from_residual-in_err-attribute_name-in-MessageReference.ensures.1 in
    handed _ _ _ _ _ _ p.1 p.2
    (λ q. rw (
      inline-is (view c.args.v.now),
      c.in_ok-type_name.ensures,
      c.in-MessageReference.is,
      c.in_ok-field-in-MessageReference.ensures,
      c.in_ok-identifier-in-MessageReference.ensures,
      q,
    ))
    c.in_err-attribute_name-in-MessageReference.ensures

pub inline-returns-in_ok-attribute_name-in-MessageReference :
    goal.inline-returns-in_ok-attribute_name-in-MessageReference
inline-returns-in_ok-attribute_name-in-MessageReference t c =
    rw (
      inline-is (view c.args.v.now),
      c.in_ok-type_name.ensures,
      c.in-MessageReference.is,
      c.in_ok-field-in-MessageReference.ensures,
      c.in_ok-identifier-in-MessageReference.ensures,
      c.in_ok-attribute_name-in-MessageReference.ensures,
      view-MessageReference,
    )

pub inline-returns-in_err-field-in-VariableReference : goal.inline-returns-in_err-field-in-VariableReference
inline-returns-in_err-field-in-VariableReference t c =
    let p =
    err_from_is_err_and c.from_residual-in_err-field-in-VariableReference.result
    c.from_residual-in_err-field-in-VariableReference.ensures.1 in
    handed _ _ _ _ _ _ p.1 p.2
    (λ q. rw (inline-is (view c.args.v.now), c.in_ok-type_name.ensures, c.in-VariableReference.is, q))
    c.in_err-field-in-VariableReference.ensures

pub inline-returns-in_err-identifier-in-VariableReference : goal.inline-returns-in_err-identifier-in-VariableReference
inline-returns-in_err-identifier-in-VariableReference t c =
    let p =
    err_from_is_err_and c.from_residual-in_err-identifier-in-VariableReference.result
    c.from_residual-in_err-identifier-in-VariableReference.ensures.1 in
    handed _ _ _ _ _ _ p.1 p.2
    (λ q. rw (
      inline-is (view c.args.v.now),
      c.in_ok-type_name.ensures,
      c.in-VariableReference.is,
      c.in_ok-field-in-VariableReference.ensures,
      q,
    )) c.in_err-identifier-in-VariableReference.ensures

pub inline-returns-in_ok-identifier-in-VariableReference : goal.inline-returns-in_ok-identifier-in-VariableReference
inline-returns-in_ok-identifier-in-VariableReference t c =
    rw (
      inline-is (view c.args.v.now),
      c.in_ok-type_name.ensures,
      c.in-VariableReference.is,
      c.in_ok-field-in-VariableReference.ensures,
      c.in_ok-identifier-in-VariableReference.ensures,
      view-VariableReference,
    )

pub inline-returns-in_err-field-in-Placeable : goal.inline-returns-in_err-field-in-Placeable
inline-returns-in_err-field-in-Placeable t c =
    let p =
    err_from_is_err_and c.from_residual-in_err-field-in-Placeable.result
    c.from_residual-in_err-field-in-Placeable.ensures.1 in
    handed _ _ _ _ _ _ p.1 p.2
    (λ q. rw (inline-is (view c.args.v.now), c.in_ok-type_name.ensures, c.in-Placeable.is, q))
    c.in_err-field-in-Placeable.ensures

pub inline-returns-in_err-expression-in-Placeable : goal.inline-returns-in_err-expression-in-Placeable
inline-returns-in_err-expression-in-Placeable t c =
    let p =
    err_from_is_err_and c.from_residual-in_err-expression-in-Placeable.result
    c.from_residual-in_err-expression-in-Placeable.ensures.1 in
    handed _ _ _ _ _ _ p.1 p.2
    (λ q. rw (
      inline-is (view c.args.v.now),
      c.in_ok-type_name.ensures,
      c.in-Placeable.is,
      c.in_ok-field-in-Placeable.ensures,
      q,
    )) c.in_err-expression-in-Placeable.ensures

pub inline-returns-in_ok-new-in-Placeable : goal.inline-returns-in_ok-new-in-Placeable
inline-returns-in_ok-new-in-Placeable t c =
    rw (
      inline-is (view c.args.v.now),
      c.in_ok-type_name.ensures,
      c.in-Placeable.is,
      c.in_ok-field-in-Placeable.ensures,
      c.in_ok-expression-in-Placeable.ensures,
      view-InlinePlaceable,
      c.in_ok-new-in-Placeable.ensures.ok,
    )

pub inline-returns-in_err-field-in-TermReference : goal.inline-returns-in_err-field-in-TermReference
inline-returns-in_err-field-in-TermReference t c =
    let p =
    err_from_is_err_and c.from_residual-in_err-field-in-TermReference.result
    c.from_residual-in_err-field-in-TermReference.ensures.1 in
    handed _ _ _ _ _ _ p.1 p.2
    (λ q. rw (inline-is (view c.args.v.now), c.in_ok-type_name.ensures, c.in-TermReference.is, q))
    c.in_err-field-in-TermReference.ensures

pub inline-returns-in_err-id-in-TermReference : goal.inline-returns-in_err-id-in-TermReference
inline-returns-in_err-id-in-TermReference t c =
    let p =
    err_from_is_err_and c.from_residual-in_err-id-in-TermReference.result
    c.from_residual-in_err-id-in-TermReference.ensures.1 in
    handed _ _ _ _ _ _ p.1 p.2
    (λ q. rw (
      inline-is (view c.args.v.now),
      c.in_ok-type_name.ensures,
      c.in-TermReference.is,
      c.in_ok-field-in-TermReference.ensures,
      q,
    )) c.in_err-id-in-TermReference.ensures

pub inline-returns-in_err-attribute-in-TermReference : goal.inline-returns-in_err-attribute-in-TermReference
inline-returns-in_err-attribute-in-TermReference t c =
    let p =
    err_from_is_err_and c.from_residual-in_err-attribute-in-TermReference.result
    c.from_residual-in_err-attribute-in-TermReference.ensures.1 in
    handed _ _ _ _ _ _ p.1 p.2
    (λ q. rw (
      inline-is (view c.args.v.now),
      c.in_ok-type_name.ensures,
      c.in-TermReference.is,
      c.in_ok-field-in-TermReference.ensures,
      c.in_ok-id-in-TermReference.ensures,
      q,
    ))
    c.in_err-attribute-in-TermReference.ensures

pub inline-returns-in-None : goal.inline-returns-in-None
inline-returns-in-None t c =
    rw (
      inline-is (view c.args.v.now),
      c.in_ok-type_name.ensures,
      c.in-TermReference.is,
      c.in_ok-field-in-TermReference.ensures,
      c.in_ok-id-in-TermReference.ensures,
      c.in_ok-attribute-in-TermReference.ensures,
      sym c.in-None.ensures,
      view-TermReference,
    )

pub inline-arguments-requires-in-Some : goal.inline-arguments-requires-in-Some
inline-arguments-requires-in-Some t c =
    let there =
    present_value_is_got (codes "arguments") (view c.args.v.now) (view c.in-Some.given.now) (sym c.in-Some.ensures) in
    let below = member_is_less_deep (codes "arguments") (view c.args.v.now) (view c.in-Some.given.now) there in
    (omega (arith, below), tt)

pub inline-returns-in_err-arguments-in-Some : goal.inline-returns-in_err-arguments-in-Some
inline-returns-in_err-arguments-in-Some t c =
    let p =
    err_from_is_err_and c.from_residual-in_err-arguments-in-Some.result
    c.from_residual-in_err-arguments-in-Some.ensures.1 in
    let there =
    present_value_is_got (codes "arguments") (view c.args.v.now) (view c.in-Some.given.now) (sym c.in-Some.ensures) in
    handed _ _ _ _ _ _ p.1 p.2
    (λ q. rw (
      inline-is (view c.args.v.now),
      c.in_ok-type_name.ensures,
      c.in-TermReference.is,
      c.in_ok-field-in-TermReference.ensures,
      c.in_ok-id-in-TermReference.ensures,
      c.in_ok-attribute-in-TermReference.ensures,
      sym c.in-Some.ensures,
      there,
      q,
    ))
    c.in_err-arguments-in-Some.ensures

pub inline-returns-in_ok-arguments-in-Some : goal.inline-returns-in_ok-arguments-in-Some
inline-returns-in_ok-arguments-in-Some t c =
    let there =
    present_value_is_got (codes "arguments") (view c.args.v.now) (view c.in-Some.given.now) (sym c.in-Some.ensures) in
    rw (
      inline-is (view c.args.v.now),
      c.in_ok-type_name.ensures,
      c.in-TermReference.is,
      c.in_ok-field-in-TermReference.ensures,
      c.in_ok-id-in-TermReference.ensures,
      c.in_ok-attribute-in-TermReference.ensures,
      sym c.in-Some.ensures,
      there,
      c.in_ok-arguments-in-Some.ensures,
      view-TermReference,
    )

pub inline-arguments-requires : goal.inline-arguments-requires
inline-arguments-requires t c =
    let below =
    member_is_less_deep (codes "arguments") (view c.args.v.now) (view c.in_ok-field-in-FunctionReference-2.field-0.now)
    c.in_ok-field-in-FunctionReference-2.ensures in
    (omega (arith, below), tt)

pub inline-expression-requires : goal.inline-expression-requires
inline-expression-requires t c =
    let below =
    member_is_less_deep (codes "expression") (view c.args.v.now) (view c.in_ok-field-in-Placeable.field-0.now)
    c.in_ok-field-in-Placeable.ensures in
    (omega (arith, below), tt)

pub inline-returns-in_default : goal.inline-returns-in_default
inline-returns-in_default t c =
    rw (inline-is (view c.args.v.now), c.in_ok-type_name.ensures) (search rules)

pub pattern-returns-in_err-field : goal.pattern-returns-in_err-field
pattern-returns-in_err-field t c =
    let p = err_from_is_err_and c.from_residual.result c.from_residual.ensures.1 in
    handed _ _ _ _ _ _ p.1 p.2 (λ q. rw (pattern-is (view c.args.v.now), q)) c.in_err-field.ensures

pub pattern-returns-in_err-list : goal.pattern-returns-in_err-list
pattern-returns-in_err-list t c =
    let p = err_from_is_err_and c.from_residual-in_err-list.result c.from_residual-in_err-list.ensures.1 in
    handed _ _ _ _ _ _ p.1 p.2 (λ q. rw (pattern-is (view c.args.v.now), c.in_ok-field.ensures, q))
    c.in_err-list.ensures

pub pattern-element-requires : goal.pattern-element-requires
pattern-element-requires t c =
    let below =
    item_at_key_is_less_deep (codes "elements") (view c.args.v.now) (view c.in_ok-field.field-0.now)
    c.in_ok-list.field-0.now.items c.deref-item-items.result.now c.loop-item.item-index c.item-item.result
    c.in_ok-field.ensures c.in_ok-list.ensures c.deref-item-items.ensures.value c.loop-item-test.true
    c.item-item.is in
    (omega (arith, below), tt)

pub pattern-returns-in_err-element : goal.pattern-returns-in_err-element
pattern-returns-in_err-element t c =
    let p = err_from_is_err_and c.from_residual-in_err-element.result c.from_residual-in_err-element.ensures.1 in
    handed _ _ _ _ _ _ p.1 p.2
    (λ q. rw (
      pattern-is (view c.args.v.now),
      c.in_ok-field.ensures,
      c.in_ok-list.ensures,
      item_that_fails_fails_items element_in c.in_ok-list.field-0.now.items c.deref-item-items.result.now
          c.loop-item.item-index
          c.item-item.result c.loop-item-test.true c.item-item.is c.deref-item-items.ensures.value q,
    ))
    c.in_err-element.ensures

pub pattern-loop-item-preserved : goal.pattern-loop-item-preserved
pattern-loop-item-preserved t c =
    pushed element_in (element_view string_bytes) _ _ c.in_ok-element.field-0 _ c.loop-item.item-index
    c.item-item.result c.loop-item.invariant c.in_ok-push.ensures.items c.loop-item-test.true c.item-item.is
    c.in_ok-element.ensures

pub pattern-returns : goal.pattern-returns
pattern-returns t c =
    let all =
    items_read_when_all_are_so_far element_in (element_view string_bytes) c.loop-item.elements.items
    c.in_ok-list.field-0.now.items
    c.deref-item-items.result.now c.loop-item.item-index c.loop-item.invariant c.loop-item-test.false
    c.deref-item-items.ensures.value in
    rw (pattern-is (view c.args.v.now), c.in_ok-field.ensures, c.in_ok-list.ensures, all, view-Pattern)

pub expression-returns-in_err-inline-in-None : goal.expression-returns-in_err-inline-in-None
expression-returns-in_err-inline-in-None t c =
    let p = err_from_is_err_and c.from_residual.result c.from_residual.ensures.1 in
    handed _ _ _ _ _ _ p.1 p.2 (λ q. rw (expression-is (view c.args.v.now), sym c.in-None.ensures, q))
    c.in_err-inline-in-None.ensures

pub expression-returns-in_ok-inline-in-None : goal.expression-returns-in_ok-inline-in-None
expression-returns-in_ok-inline-in-None t c =
    rw (expression-is (view c.args.v.now), sym c.in-None.ensures, c.in_ok-inline-in-None.ensures, view-Inline)

pub expression-inline-requires-in-Some : goal.expression-inline-requires-in-Some
expression-inline-requires-in-Some t c =
    let below =
    member_is_less_deep (codes "selector") (view c.args.v.now) (view c.in-Some.found.now) (sym c.in-Some.ensures) in
    (omega (arith, below), tt)

pub expression-returns-in_err-selector-in-Some : goal.expression-returns-in_err-selector-in-Some
expression-returns-in_err-selector-in-Some t c =
    let p =
    err_from_is_err_and c.from_residual-in_err-selector-in-Some.result
    c.from_residual-in_err-selector-in-Some.ensures.1 in
    handed _ _ _ _ _ _ p.1 p.2 (λ q. rw (expression-is (view c.args.v.now), sym c.in-Some.ensures, q))
    c.in_err-selector-in-Some.ensures

pub expression-returns-in_err-field-in-Some : goal.expression-returns-in_err-field-in-Some
expression-returns-in_err-field-in-Some t c =
    let p =
    err_from_is_err_and c.from_residual-in_err-field-in-Some.result
    c.from_residual-in_err-field-in-Some.ensures.1 in
    handed _ _ _ _ _ _ p.1 p.2
    (λ q. rw (expression-is (view c.args.v.now), sym c.in-Some.ensures, c.in_ok-selector-in-Some.ensures, q))
    c.in_err-field-in-Some.ensures

pub expression-returns-in_err-list-in-Some : goal.expression-returns-in_err-list-in-Some
expression-returns-in_err-list-in-Some t c =
    let p =
    err_from_is_err_and c.from_residual-in_err-list-in-Some.result c.from_residual-in_err-list-in-Some.ensures.1 in
    handed _ _ _ _ _ _ p.1 p.2
    (λ q. rw (
      expression-is (view c.args.v.now),
      sym c.in-Some.ensures,
      c.in_ok-selector-in-Some.ensures,
      c.in_ok-field-in-Some.ensures,
      q,
    )) c.in_err-list-in-Some.ensures

pub expression-variant-requires : goal.expression-variant-requires
expression-variant-requires t c =
    let below =
    item_at_key_is_less_deep (codes "variants") (view c.args.v.now) (view c.in_ok-field-in-Some.field-0.now)
    c.in_ok-list-in-Some.field-0.now.items c.deref-item-items.result.now c.loop-item.item-index c.item-item.result
    c.in_ok-field-in-Some.ensures c.in_ok-list-in-Some.ensures c.deref-item-items.ensures.value
    c.loop-item-test.true c.item-item.is in
    (omega (arith, below), tt)

pub expression-returns-in_err-variant-in-Some : goal.expression-returns-in_err-variant-in-Some
expression-returns-in_err-variant-in-Some t c =
    let p =
    err_from_is_err_and c.from_residual-in_err-variant-in-Some.result
    c.from_residual-in_err-variant-in-Some.ensures.1 in
    handed _ _ _ _ _ _ p.1 p.2
    (λ q. rw (
      expression-is (view c.args.v.now),
      sym c.in-Some.ensures,
      c.in_ok-selector-in-Some.ensures,
      c.in_ok-field-in-Some.ensures,
      c.in_ok-list-in-Some.ensures,
      item_that_fails_fails_items variant_in c.in_ok-list-in-Some.field-0.now.items c.deref-item-items.result.now
          c.loop-item.item-index
          c.item-item.result c.loop-item-test.true c.item-item.is c.deref-item-items.ensures.value q,
    ))
    c.in_err-variant-in-Some.ensures

pub expression-loop-item-preserved : goal.expression-loop-item-preserved
expression-loop-item-preserved t c = record {
  kept = c.loop-item.invariant.kept;
  read =
      pushed variant_in (variant_view string_bytes) _ _ c.in_ok-variant-in-Some.field-0 _ c.loop-item.item-index
      c.item-item.result c.loop-item.invariant.read c.in_ok-push-in-Some.ensures.items c.loop-item-test.true
      c.item-item.is c.in_ok-variant-in-Some.ensures;
}

pub expression-returns-after-loop-item : goal.expression-returns-after-loop-item
expression-returns-after-loop-item t c =
    let all =
    items_read_when_all_are_so_far variant_in (variant_view string_bytes) c.loop-item.variants.items
    c.in_ok-list-in-Some.field-0.now.items c.deref-item-items.result.now c.loop-item.item-index
    c.loop-item.invariant.read c.loop-item-test.false c.deref-item-items.ensures.value in
    rw (
      expression-is (view c.args.v.now),
      sym c.in-Some.ensures,
      c.in_ok-selector-in-Some.ensures,
      c.in_ok-field-in-Some.ensures,
      c.in_ok-list-in-Some.ensures,
      all,
      c.loop-item.invariant.kept,
      view-Select,
    )

pub arguments-returns-in_err-field : goal.arguments-returns-in_err-field
arguments-returns-in_err-field t c =
    let p = err_from_is_err_and c.from_residual.result c.from_residual.ensures.1 in
    handed _ _ _ _ _ _ p.1 p.2 (λ q. rw (arguments-is (view c.args.v.now), q)) c.in_err-field.ensures

pub arguments-returns-in_err-list : goal.arguments-returns-in_err-list
arguments-returns-in_err-list t c =
    let p = err_from_is_err_and c.from_residual-in_err-list.result c.from_residual-in_err-list.ensures.1 in
    handed _ _ _ _ _ _ p.1 p.2 (λ q. rw (arguments-is (view c.args.v.now), c.in_ok-field.ensures, q))
    c.in_err-list.ensures

pub arguments-inline-requires : goal.arguments-inline-requires
arguments-inline-requires t c =
    let below =
    item_at_key_is_less_deep (codes "positional") (view c.args.v.now) (view c.in_ok-field.field-0.now)
    c.in_ok-list.field-0.now.items c.deref-item-items.result.now c.loop-item.item-index c.item-item.result
    c.in_ok-field.ensures c.in_ok-list.ensures c.deref-item-items.ensures.value c.loop-item-test.true
    c.item-item.is in
    (omega (arith, below), tt)

pub arguments-returns-in_err-inline : goal.arguments-returns-in_err-inline
arguments-returns-in_err-inline t c =
    let p = err_from_is_err_and c.from_residual-in_err-inline.result c.from_residual-in_err-inline.ensures.1 in
    handed _ _ _ _ _ _ p.1 p.2
    (λ q. rw (
      arguments-is (view c.args.v.now),
      c.in_ok-field.ensures,
      c.in_ok-list.ensures,
      item_that_fails_fails_items inline_in c.in_ok-list.field-0.now.items c.deref-item-items.result.now
          c.loop-item.item-index
          c.item-item.result c.loop-item-test.true c.item-item.is c.deref-item-items.ensures.value q,
    ))
    c.in_err-inline.ensures

pub arguments-loop-item-preserved : goal.arguments-loop-item-preserved
arguments-loop-item-preserved t c =
    pushed inline_in (inline_view string_bytes) _ _ c.in_ok-inline.field-0 _ c.loop-item.item-index c.item-item.result
    c.loop-item.invariant c.in_ok-push.ensures.items c.loop-item-test.true c.item-item.is c.in_ok-inline.ensures

pub arguments-returns-in_err-field-2 : goal.arguments-returns-in_err-field-2
arguments-returns-in_err-field-2 t c =
    let ps =
    items_read_when_all_are_so_far inline_in (inline_view string_bytes) c.loop-item.positional.items
    c.in_ok-list.field-0.now.items
    c.deref-item-items.result.now c.loop-item.item-index c.loop-item.invariant c.loop-item-test.false
    c.deref-item-items.ensures.value in
    let p = err_from_is_err_and c.from_residual-in_err-field-2.result c.from_residual-in_err-field-2.ensures.1 in
    handed _ _ _ _ _ _ p.1 p.2
    (λ q. rw (arguments-is (view c.args.v.now), c.in_ok-field.ensures, c.in_ok-list.ensures, ps, q))
    c.in_err-field-2.ensures

pub arguments-returns-in_err-list-2 : goal.arguments-returns-in_err-list-2
arguments-returns-in_err-list-2 t c =
    let ps =
    items_read_when_all_are_so_far inline_in (inline_view string_bytes) c.loop-item.positional.items
    c.in_ok-list.field-0.now.items
    c.deref-item-items.result.now c.loop-item.item-index c.loop-item.invariant c.loop-item-test.false
    c.deref-item-items.ensures.value in
    let p = err_from_is_err_and c.from_residual-in_err-list-2.result c.from_residual-in_err-list-2.ensures.1 in
    handed _ _ _ _ _ _ p.1 p.2
    (λ q. rw (
      arguments-is (view c.args.v.now),
      c.in_ok-field.ensures,
      c.in_ok-list.ensures,
      ps,
      c.in_ok-field-2.ensures,
      q,
    )) c.in_err-list-2.ensures

pub arguments-named_argument-requires : goal.arguments-named_argument-requires
arguments-named_argument-requires t c =
    let below =
    item_at_key_is_less_deep (codes "named") (view c.args.v.now) (view c.in_ok-field-2.field-0.now)
    c.in_ok-list-2.field-0.now.items c.deref-item-items-2.result.now c.loop-item-2.item-index
    c.item-item-in-loop-item-2.result c.in_ok-field-2.ensures c.in_ok-list-2.ensures
    c.deref-item-items-2.ensures.value c.loop-item-2-test.true c.item-item-in-loop-item-2.is in
    (omega (arith, below), tt)

pub arguments-returns-in_err-named_argument : goal.arguments-returns-in_err-named_argument
arguments-returns-in_err-named_argument t c =
    let ps =
    items_read_when_all_are_so_far inline_in (inline_view string_bytes) c.loop-item.positional.items
    c.in_ok-list.field-0.now.items
    c.deref-item-items.result.now c.loop-item.item-index c.loop-item.invariant c.loop-item-test.false
    c.deref-item-items.ensures.value in
    let p = err_from_is_err_and c.from_residual-in_err-named_argument.result
    c.from_residual-in_err-named_argument.ensures.1 in
    handed _ _ _ _ _ _ p.1 p.2
    (λ q. rw (
      arguments-is (view c.args.v.now),
      c.in_ok-field.ensures,
      c.in_ok-list.ensures,
      ps,
      c.in_ok-field-2.ensures,
      c.in_ok-list-2.ensures,
      item_that_fails_fails_items named_in c.in_ok-list-2.field-0.now.items c.deref-item-items-2.result.now
          c.loop-item-2.item-index
          c.item-item-in-loop-item-2.result c.loop-item-2-test.true c.item-item-in-loop-item-2.is
          c.deref-item-items-2.ensures.value q,
    )) c.in_err-named_argument.ensures

pub arguments-loop-item-2-preserved : goal.arguments-loop-item-2-preserved
arguments-loop-item-2-preserved t c =
    pushed named_in (named_view string_bytes) _ _ c.in_ok-named_argument.field-0 _ c.loop-item-2.item-index
    c.item-item-in-loop-item-2.result c.loop-item-2.invariant c.in_ok-push-2.ensures.items c.loop-item-2-test.true
    c.item-item-in-loop-item-2.is c.in_ok-named_argument.ensures

pub arguments-returns : goal.arguments-returns
arguments-returns t c =
    let ps =
    items_read_when_all_are_so_far inline_in (inline_view string_bytes) c.loop-item.positional.items
    c.in_ok-list.field-0.now.items
    c.deref-item-items.result.now c.loop-item.item-index c.loop-item.invariant c.loop-item-test.false
    c.deref-item-items.ensures.value in
    let ns =
    items_read_when_all_are_so_far named_in (named_view string_bytes) c.loop-item-2.nameds.items
    c.in_ok-list-2.field-0.now.items
    c.deref-item-items-2.result.now c.loop-item-2.item-index c.loop-item-2.invariant c.loop-item-2-test.false
    c.deref-item-items-2.ensures.value in
    rw (
      arguments-is (view c.args.v.now),
      c.in_ok-field.ensures,
      c.in_ok-list.ensures,
      ps,
      c.in_ok-field-2.ensures,
      c.in_ok-list-2.ensures,
      ns,
      view-roll-CallArguments,
    )
