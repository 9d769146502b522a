use Rattle.std.proofs.lemmas.List.{drop_all}
use Rattle.json.specs.Print.{escape_byte}
use Rattle.fluent_syntax_tree.proofs.Views.{view-Select, view-Inline, view-StringLiteral, view-NumberLiteral}
use Rattle.fluent_syntax_tree.proofs.Views.{view-FunctionReference, view-MessageReference, view-TermReference}
use Rattle.fluent_syntax_tree.proofs.Views.{view-VariableReference, view-InlinePlaceable, view-TextElement}
use Rattle.fluent_syntax_tree.proofs.Views.{view-Placeable, view-Pattern, view-Variant, view-NamedArgument}
use Rattle.fluent_syntax_tree.proofs.Views.{view-CallArguments}
use Rattle.fluent_syntax_grammar.proofs.Bytes.{Appends-append}
use Rattle.fluent_syntax_grammar.proofs.Remaining.{RemainingBytes-more, RemainingBytes-last, drop_gives_item}
use Rattle.fluent_syntax_json.proofs.writing.patterns.+written.Goals as goal

pub write_pattern-returns : goal.write_pattern-returns
unfolding escape_byte
write_pattern-returns g t c =
    record {
      written = rw (view-Pattern, ← c.deref.ensures.value)
          (Appends-append c.write_piece.ensures.written
          (Appends-append c.write_elements.ensures.written
          c.write_piece-2.ensures.written));
    }

pub write_element-returns-in-TextElement : goal.write_element-returns-in-TextElement
unfolding escape_byte
write_element-returns-in-TextElement g t c =
    record {
      written = rw (c.in-TextElement.is, view-TextElement)
          (Appends-append c.write_piece.ensures.written
          (Appends-append c.write_text.ensures.written
          c.write_piece-in-TextElement.ensures.written));
    }

pub write_element-returns-in-Placeable : goal.write_element-returns-in-Placeable
unfolding escape_byte
write_element-returns-in-Placeable g t c =
    record {
      written = rw (c.in-Placeable.is, view-Placeable)
          (Appends-append c.write_piece-in-Placeable.ensures.written
          (Appends-append c.write_expression.ensures.written
          c.write_piece-in-Placeable-2.ensures.written));
    }

pub write_expression-returns-in-Select : goal.write_expression-returns-in-Select
unfolding escape_byte
write_expression-returns-in-Select g t c =
    let closed =
    Appends-append c.write_piece-in-Select.ensures.written
    (Appends-append c.write_variants.ensures.written
    c.write_piece-in-Select-2.ensures.written) in
    record {
      written = rw (c.in-Select.is, view-Select, ← c.deref.ensures.value)
          (Appends-append c.write_piece.ensures.written
          (Appends-append c.write_inline.ensures.written
          closed));
    }

pub write_expression-returns-in-Inline : goal.write_expression-returns-in-Inline
write_expression-returns-in-Inline g t c =
    record { written = rw (c.in-Inline.is, view-Inline) c.write_inline-in-Inline.ensures.written }

pub write_variant-returns : goal.write_variant-returns
unfolding escape_byte
write_variant-returns g t c =
    let closed =
    Appends-append c.write_piece-3.ensures.written
    (Appends-append c.write_pattern.ensures.written
    c.write_piece-4.ensures.written) in
    let rest = Appends-append c.write_piece-2.ensures.written (Appends-append c.write_key.ensures.written closed) in
    record {
      written = rw view-Variant
          (Appends-append c.write_piece.ensures.written
          (Appends-append c.write_bool.ensures.written
          rest));
    }

pub write_inline-returns-in-StringLiteral : goal.write_inline-returns-in-StringLiteral
unfolding escape_byte
write_inline-returns-in-StringLiteral g t c =
    record {
      written = rw (c.in-StringLiteral.is, view-StringLiteral)
          (Appends-append c.write_piece.ensures.written
          (Appends-append c.write_text.ensures.written
          c.write_piece-in-StringLiteral.ensures.written));
    }

pub write_inline-returns-in-NumberLiteral : goal.write_inline-returns-in-NumberLiteral
unfolding escape_byte
write_inline-returns-in-NumberLiteral g t c =
    record {
      written = rw (c.in-NumberLiteral.is, view-NumberLiteral)
          (Appends-append c.write_piece-in-NumberLiteral.ensures.written
          (Appends-append c.write_text-in-NumberLiteral.ensures.written
          c.write_piece-in-NumberLiteral-2.ensures.written));
    }

pub write_inline-returns-in-FunctionReference : goal.write_inline-returns-in-FunctionReference
unfolding escape_byte
write_inline-returns-in-FunctionReference g t c =
    let closed =
    Appends-append c.write_piece-in-FunctionReference-2.ensures.written
    (Appends-append c.write_name.ensures.written
    c.write_piece-in-FunctionReference-3.ensures.written) in
    record {
      written = rw (c.in-FunctionReference.is, view-FunctionReference)
          (Appends-append c.write_piece-in-FunctionReference.ensures.written
          (Appends-append c.write_arguments.ensures.written
          closed));
    }

pub write_inline-returns-in-MessageReference : goal.write_inline-returns-in-MessageReference
unfolding escape_byte
write_inline-returns-in-MessageReference g t c =
    let closed =
    Appends-append c.write_piece-in-MessageReference-2.ensures.written
    (Appends-append c.write_name-in-MessageReference.ensures.written
    c.write_piece-in-MessageReference-3.ensures.written) in
    record {
      written = rw (c.in-MessageReference.is, view-MessageReference)
          (Appends-append c.write_piece-in-MessageReference.ensures.written
          (Appends-append c.write_attribute_name.ensures.written
          closed));
    }

pub write_inline-returns-in-TermReference : goal.write_inline-returns-in-TermReference
unfolding escape_byte
write_inline-returns-in-TermReference g t c =
    let closed =
    Appends-append c.write_piece-in-TermReference-3.ensures.written
    (Appends-append c.write_name-in-TermReference.ensures.written
    c.write_piece-in-TermReference-4.ensures.written) in
    let rest =
    Appends-append c.write_piece-in-TermReference-2.ensures.written
    (Appends-append c.write_attribute_name-in-TermReference.ensures.written
    closed) in
    record {
      written = rw (c.in-TermReference.is, view-TermReference)
          (Appends-append c.write_piece-in-TermReference.ensures.written
          (Appends-append c.write_own_arguments.ensures.written
          rest));
    }

pub write_inline-returns-in-VariableReference : goal.write_inline-returns-in-VariableReference
unfolding escape_byte
write_inline-returns-in-VariableReference g t c =
    record {
      written = rw (c.in-VariableReference.is, view-VariableReference)
          (Appends-append c.write_piece-in-VariableReference.ensures.written
          (Appends-append c.write_name-in-VariableReference.ensures.written
          c.write_piece-in-VariableReference-2.ensures.written));
    }

pub write_inline-returns-in-Placeable : goal.write_inline-returns-in-Placeable
unfolding escape_byte
write_inline-returns-in-Placeable g t c =
    record {
      written = rw (c.in-Placeable.is, view-InlinePlaceable, ← c.deref.ensures)
          (Appends-append c.write_piece-in-Placeable.ensures.written
          (Appends-append c.write_expression.ensures.written
          c.write_piece-in-Placeable-2.ensures.written));
    }

pub write_arguments-returns : goal.write_arguments-returns
unfolding escape_byte
write_arguments-returns g t c =
    let closed =
    Appends-append c.write_piece-2.ensures.written
    (Appends-append c.write_positional.ensures.written
    c.write_piece-3.ensures.written) in
    record {
      written = rw (view-CallArguments, ← c.deref.ensures.value, ← c.deref-2.ensures.value)
          (Appends-append c.write_piece.ensures.written
          (Appends-append c.write_named_arguments.ensures.written
          closed));
    }

pub write_named-returns : goal.write_named-returns
unfolding escape_byte
write_named-returns g t c =
    let closed =
    Appends-append c.write_piece-2.ensures.written
    (Appends-append c.write_inline.ensures.written
    c.write_piece-3.ensures.written) in
    record {
      written = rw view-NamedArgument
          (Appends-append c.write_piece.ensures.written
          (Appends-append c.write_name.ensures.written
          closed));
    }

pub write_elements-loop-element-preserved : goal.write_elements-loop-element-preserved
write_elements-loop-element-preserved g t c =
    let next = drop_gives_item c.args.elements.now _ _ c.loop-element-test.true c.element-item.is in
    let item_left = RemainingBytes-more (rw next at c.loop-element.invariant.rest) c.write_comma.ensures.written in
    record { rest = RemainingBytes-more item_left c.write_element.ensures.written }

pub write_elements-returns : goal.write_elements-returns
write_elements-returns g t c =
    let none = drop_all _ c.args.elements.now c.loop-element-test.false in
    record { written = RemainingBytes-last (rw none at c.loop-element.invariant.rest) c.write_piece.ensures.written }

pub write_variants-loop-variant-preserved : goal.write_variants-loop-variant-preserved
write_variants-loop-variant-preserved g t c =
    let next = drop_gives_item c.args.variants.now _ _ c.loop-variant-test.true c.variant-item.is in
    let item_left = RemainingBytes-more (rw next at c.loop-variant.invariant.rest) c.write_comma.ensures.written in
    record { rest = RemainingBytes-more item_left c.write_variant.ensures.written }

pub write_variants-returns : goal.write_variants-returns
write_variants-returns g t c =
    let none = drop_all _ c.args.variants.now c.loop-variant-test.false in
    record { written = RemainingBytes-last (rw none at c.loop-variant.invariant.rest) c.write_piece.ensures.written }

pub write_positional-loop-inline-preserved : goal.write_positional-loop-inline-preserved
write_positional-loop-inline-preserved g t c =
    let next = drop_gives_item c.args.inlines.now _ _ c.loop-inline-test.true c.inline-item.is in
    let item_left = RemainingBytes-more (rw next at c.loop-inline.invariant.rest) c.write_comma.ensures.written in
    record { rest = RemainingBytes-more item_left c.write_inline.ensures.written }

pub write_positional-returns : goal.write_positional-returns
write_positional-returns g t c =
    let none = drop_all _ c.args.inlines.now c.loop-inline-test.false in
    record { written = RemainingBytes-last (rw none at c.loop-inline.invariant.rest) c.write_piece.ensures.written }

pub write_named_arguments-loop-named-preserved : goal.write_named_arguments-loop-named-preserved
write_named_arguments-loop-named-preserved g t c =
    let next = drop_gives_item c.args.nameds.now _ _ c.loop-named-test.true c.named-item.is in
    let item_left = RemainingBytes-more (rw next at c.loop-named.invariant.rest) c.write_comma.ensures.written in
    record { rest = RemainingBytes-more item_left c.write_named.ensures.written }

pub write_named_arguments-returns : goal.write_named_arguments-returns
write_named_arguments-returns g t c =
    let none = drop_all _ c.args.nameds.now c.loop-named-test.false in
    record { written = RemainingBytes-last (rw none at c.loop-named.invariant.rest) c.write_piece.ensures.written }
