use Rattle.std.proofs.Common.{ℕ, [], codes, refl, sym, ◌∙◌, rules}
use Rattle.std.proofs.lemmas.List.{drop_all}
use Rattle.fluent_syntax_tree.proofs.Views.{view-Select, view-Inline, view-StringLiteral, view-NumberLiteral}
use Rattle.fluent_syntax_tree.proofs.Views.{view-FunctionReference, view-MessageReference, view-TermReference}
use Rattle.fluent_syntax_tree.proofs.Views.{view-VariableReference, view-InlinePlaceable, view-TextElement}
use Rattle.fluent_syntax_tree.proofs.Views.{view-Placeable, view-Pattern, view-Variant, view-NamedArgument}
use Rattle.fluent_syntax_tree.proofs.Views.{view-CallArguments}
use Rattle.fluent_syntax_grammar.proofs.MarksWritten.{writing, Writes-cons, Writes-append}
use Rattle.fluent_syntax_writer.proofs.Splits.{Writes-split}
use Rattle.fluent_syntax_grammar.proofs.Remaining.{RemainingMarks-start, RemainingMarks-more, RemainingMarks-end}
use Rattle.fluent_syntax_grammar.proofs.Remaining.{RemainingMarks-last, drop_gives_item}
use Rattle.fluent_syntax_writer.proofs.Arguments.{arguments_left-cons, arguments_left-none}
use Rattle.fluent_syntax_writer.proofs.Placeables.{inline_but_placeable_is_in_braces}
use Rattle.fluent_syntax_writer.proofs.serializer.+serialized.Goals as goal

pub expressions::serialize_inline_expression-returns-in-StringLiteral :
    goal.expressions::serialize_inline_expression-returns-in-StringLiteral
expressions::serialize_inline_expression-returns-in-StringLiteral g t c =
    rw (c.in-StringLiteral.is, view-StringLiteral) (search (rules, writing))

pub expressions::serialize_inline_expression-returns-in-NumberLiteral :
    goal.expressions::serialize_inline_expression-returns-in-NumberLiteral
expressions::serialize_inline_expression-returns-in-NumberLiteral g t c =
    rw (c.in-NumberLiteral.is, view-NumberLiteral) (search (rules, writing))

pub expressions::serialize_inline_expression-returns-in-FunctionReference :
    goal.expressions::serialize_inline_expression-returns-in-FunctionReference
expressions::serialize_inline_expression-returns-in-FunctionReference g t c =
    rw (c.in-FunctionReference.is, view-FunctionReference) (search (rules, writing))

pub expressions::serialize_inline_expression-returns-in-MessageReference :
    goal.expressions::serialize_inline_expression-returns-in-MessageReference
expressions::serialize_inline_expression-returns-in-MessageReference g t c =
    rw (c.in-MessageReference.is, view-MessageReference) (search (rules, writing))

pub expressions::serialize_inline_expression-returns-in-VariableReference :
    goal.expressions::serialize_inline_expression-returns-in-VariableReference
expressions::serialize_inline_expression-returns-in-VariableReference g t c =
    rw (c.in-VariableReference.is, view-VariableReference) (search (rules, writing))

pub expressions::serialize_inline_expression-returns-in-None :
    goal.expressions::serialize_inline_expression-returns-in-None
expressions::serialize_inline_expression-returns-in-None g t c =
    rw (c.in-TermReference.is, view-TermReference, c.in-None.is) (search (rules, writing))

pub expressions::serialize_inline_expression-returns-in-Some :
    goal.expressions::serialize_inline_expression-returns-in-Some
expressions::serialize_inline_expression-returns-in-Some g t c =
    rw (c.in-TermReference.is, view-TermReference, c.in-Some.is) (search (rules, writing))

pub expressions::serialize_inline_expression-returns-in-Placeable :
    goal.expressions::serialize_inline_expression-returns-in-Placeable
expressions::serialize_inline_expression-returns-in-Placeable g t c =
    rw (c.in-Placeable.is, view-InlinePlaceable, ← c.deref.ensures) (search (rules, writing))

pub expressions::serialize_named_argument-returns : goal.expressions::serialize_named_argument-returns
expressions::serialize_named_argument-returns g t c = rw view-NamedArgument (search (rules, writing))

pub expressions::serialize_variant-returns : goal.expressions::serialize_variant-returns
expressions::serialize_variant-returns g t c = rw view-Variant (search (rules, writing))

pub expressions::serialize_expression-returns-in-Inline : goal.expressions::serialize_expression-returns-in-Inline
expressions::serialize_expression-returns-in-Inline g t c = rw (c.in-Inline.is, view-Inline) (search (rules, writing))

pub expressions::serialize_expression-loop-variant-preserved :
    goal.expressions::serialize_expression-loop-variant-preserved
expressions::serialize_expression-loop-variant-preserved g t c =
    let next = drop_gives_item c.deref-variant-items.result.now _ _ c.loop-variant-test.true c.variant-item.is in
    let after = RemainingMarks-more (rw next at c.loop-variant.invariant.rest) c.serialize_variant.ensures.written in
    record { rest = RemainingMarks-more after c.newline-in-loop-variant.ensures.written }

pub expressions::serialize_expression-returns-after-loop-variant :
    goal.expressions::serialize_expression-returns-after-loop-variant
expressions::serialize_expression-returns-after-loop-variant g t c =
    let none = drop_all _ c.deref-variant-items.result.now c.loop-variant-test.false in
    let variants = RemainingMarks-end (rw none at c.loop-variant.invariant.rest) in
    let arrow = Writes-cons c.write_literal.ensures.written (Writes-cons c.newline.ensures.written variants) in
    let select = Writes-append c.serialize_inline_expression.ensures.written arrow in
    record { written = rw (c.in-Select.is, view-Select, ← c.deref-variant-items.ensures.value) select }

pub expressions::serialize_call_arguments-loop-argument-init :
    goal.expressions::serialize_call_arguments-loop-argument-init
expressions::serialize_call_arguments-loop-argument-init g t c =
    let opened = RemainingMarks-more RemainingMarks-start c.write_literal.ensures.written in
    record { rest = rw (view-CallArguments, ← c.deref-argument-items.ensures.value) opened }

pub expressions::serialize_call_arguments-loop-argument-preserved :
    goal.expressions::serialize_call_arguments-loop-argument-preserved
expressions::serialize_call_arguments-loop-argument-preserved g t c =
    let next = drop_gives_item c.deref-argument-items.result.now _ _ c.loop-argument-test.true c.argument-item.is in
    let rest = rw (next, arguments_left-cons) at c.loop-argument.invariant.rest in
    let after = RemainingMarks-more rest c.serialize_separator.ensures.written in
    record { rest = RemainingMarks-more after c.serialize_inline_expression.ensures.written }

pub expressions::serialize_call_arguments-loop-argument-2-preserved :
    goal.expressions::serialize_call_arguments-loop-argument-2-preserved
expressions::serialize_call_arguments-loop-argument-2-preserved g t c =
    let item = c.argument-item-in-loop-argument-2 in
    let next = drop_gives_item c.deref-argument-items-2.result.now _ _ c.loop-argument-2-test.true item.is in
    let rest = rw (next, arguments_left-cons) at c.loop-argument-2.invariant.rest in
    let after = RemainingMarks-more rest c.serialize_separator-in-loop-argument-2.ensures.written in
    record { rest = RemainingMarks-more after c.serialize_named_argument.ensures.written }

pub expressions::serialize_call_arguments-loop-argument-2-init :
    goal.expressions::serialize_call_arguments-loop-argument-2-init
expressions::serialize_call_arguments-loop-argument-2-init g t c =
    let none = drop_all _ c.deref-argument-items.result.now c.loop-argument-test.false in
    record { rest = rw (c.deref-argument-items-2.ensures.value) (rw none at c.loop-argument.invariant.rest) }

pub expressions::serialize_call_arguments-returns : goal.expressions::serialize_call_arguments-returns
expressions::serialize_call_arguments-returns g t c =
    let none = drop_all _ c.deref-argument-items-2.result.now c.loop-argument-2-test.false in
    let rest = rw (none, arguments_left-none) at c.loop-argument-2.invariant.rest in
    record { written = RemainingMarks-last rest c.write_literal-2.ensures.written }

pub patterns::serialize_elements-loop-element-preserved : goal.patterns::serialize_elements-loop-element-preserved
patterns::serialize_elements-loop-element-preserved g t c =
    let next = drop_gives_item c.args.elements.now _ _ c.loop-element-test.true c.element-item.is in
    record { rest = RemainingMarks-more (rw next at c.loop-element.invariant.rest) c.serialize_element.ensures.written }

pub patterns::serialize_elements-returns : goal.patterns::serialize_elements-returns
patterns::serialize_elements-returns g t c =
    let none = drop_all _ c.args.elements.now c.loop-element-test.false in
    record { written = RemainingMarks-end (rw none at c.loop-element.invariant.rest) }

pub patterns::serialize_element-returns-in-TextElement : goal.patterns::serialize_element-returns-in-TextElement
patterns::serialize_element-returns-in-TextElement g t c =
    rw (c.in-TextElement.is, view-TextElement) (search (rules, writing))

pub patterns::serialize_element-returns-in-Placeable : goal.patterns::serialize_element-returns-in-Placeable
patterns::serialize_element-returns-in-Placeable g t c =
    rw (c.in-Placeable.is, view-Placeable) (search (rules, writing))

pub patterns::serialize_placeable-returns-in-Select : goal.patterns::serialize_placeable-returns-in-Select
patterns::serialize_placeable-returns-in-Select g t c =
    let select = rw (c.in-Select.is, view-Select) at c.serialize_expression.ensures.written in
    let closed = Writes-append select c.write_literal-in-Select.ensures.written in
    record { written = rw (c.in-Select.is, view-Select) (Writes-cons c.write_literal.ensures.written closed) }

pub patterns::serialize_placeable-returns-in-Inline : goal.patterns::serialize_placeable-returns-in-Inline
patterns::serialize_placeable-returns-in-Inline g t c = rw (c.in-Inline.is, view-Inline) (search (rules, writing))

pub patterns::serialize_inline_placeable-returns-in-Placeable :
    goal.patterns::serialize_inline_placeable-returns-in-Placeable
patterns::serialize_inline_placeable-returns-in-Placeable g t c =
    rw (c.in-Placeable.is, view-InlinePlaceable, ← c.deref.ensures) (search (rules, writing))

pub patterns::serialize_inline_placeable-returns-in_default :
    goal.patterns::serialize_inline_placeable-returns-in_default
patterns::serialize_inline_placeable-returns-in_default g t c =
    rw (inline_but_placeable_is_in_braces g.T.ReadTexts.text _ _ c.in_default.not-Placeable) (search (rules, writing))

pub patterns::serialize_variant_value-returns-then-is_multiline :
    goal.patterns::serialize_variant_value-returns-then-is_multiline
patterns::serialize_variant_value-returns-then-is_multiline g t c =
    rw (sym c.is_multiline.ensures ∙ c.if-is_multiline.true) (search (rules, writing))

pub patterns::serialize_variant_value-returns-else-is_multiline :
    goal.patterns::serialize_variant_value-returns-else-is_multiline
patterns::serialize_variant_value-returns-else-is_multiline g t c =
    let flat = sym c.is_multiline.ensures ∙ c.if-is_multiline.false in
    let bracket : ℕ = 93 in
    let both = Writes-split ([]) bracket (codes " ") refl (search writing) in
    record { written = rw (flat, view-Pattern, ← c.deref.ensures.value) both }

pub patterns::serialize_lines-returns : goal.patterns::serialize_lines-returns
patterns::serialize_lines-returns g t c =
    rw (← c.has_leading_mark.ensures, view-Pattern, ← c.deref.ensures.value) (search (rules, writing))

pub patterns::serialize_inline_placeable-returns-in-VariableReference :
    goal.patterns::serialize_inline_placeable-returns-in-VariableReference
patterns::serialize_inline_placeable-returns-in-VariableReference g t c =
    let space : ℕ = 32 in
    let both = Writes-split (codes "{") space (codes "$") refl (search writing) in
    record { written = rw (c.in-VariableReference.is, view-VariableReference) both }
