use Rattle.std.proofs.Common.{◌≡◌, ◌+◌, ◌∷◌, List, map, option_map, arith, refl, ap, ◌∙◌}
use Rattle.std.specs.Prelude.{OnOk}
use Rattle.fluent_syntax_tree.specs.Tree.{arguments_of, elements_of, inlines_of, nameds_of, variants_of}
use Rattle.fluent_syntax_tree.specs.View.{arguments_view, element_view, identifier_view, inline_view, named_view}
use Rattle.fluent_syntax_tree.specs.View.{variant_view}
use Rattle.fluent_syntax_tree.specs.declared.ast.InlineExpression.{InlineExpression}
use Rattle.fluent_syntax_tree.specs.declared.ast.NamedArgument.{NamedArgument}
use Rattle.fluent_syntax_tree.specs.declared.ast.PatternElement.{PatternElement}
use Rattle.fluent_syntax_tree.specs.declared.ast.Variant.{Variant}
use Rattle.fluent_syntax_tree.specs.declared.spans.Span.{Span}
use Rattle.fluent_syntax_tree.proofs.Views.{view-Select, view-Inline, view-StringLiteral, view-NumberLiteral}
use Rattle.fluent_syntax_tree.proofs.Views.{view-FunctionReference, view-MessageReference, view-TermReference}
use Rattle.fluent_syntax_tree.proofs.Views.{view-VariableReference, view-InlinePlaceable, view-TextElement}
use Rattle.fluent_syntax_tree.proofs.Views.{view-Placeable, view-Pattern, view-Variant, view-NamedArgument}
use Rattle.fluent_syntax_tree.proofs.Views.{view-CallArguments}
use Rattle.fluent_syntax_names.specs.Growing.{Adds}
use Rattle.fluent_syntax_names.proofs.Adding.{adding_on_ok_adds_both, adding_twice_adds_both, leaves_next, leaves_none}
use Rattle.fluent_syntax_c.specs.Nodes.{element_nodes, elements_count, elements_nodes, inline_nodes, inlines_count}
use Rattle.fluent_syntax_c.specs.Nodes.{inlines_nodes, maybe_count, maybe_nodes, named_nodes}
use Rattle.fluent_syntax_c.specs.Nodes.{nameds_count, nameds_nodes}
use Rattle.fluent_syntax_c.specs.Nodes.{no_text, node_row, option_count, variant_nodes, variants_count, variants_nodes}
use Rattle.fluent_syntax_c.specs.declared.nodes.NodeKind.TheVariants as kind
use Rattle.fluent_syntax_c.proofs.NodeRows.{elements_are_counted, inlines_are_counted, nameds_are_counted}
use Rattle.fluent_syntax_c.proofs.NodeRows.{row_and_rest_are_added, row_is_added, variants_are_counted}
use Rattle.fluent_syntax_c.proofs.pattern_nodes.+nodes.Goals as goal

pub add_pattern-returns : goal.add_pattern-returns
add_pattern-returns t c =
    let counted : c.len.result ≡ elements_count (elements_of (map (element_view (λ s. s)) c.deref.result.now)) =
    omega (arith, c.len.ensures, c.deref.ensures.len, elements_are_counted c.deref.result.now) in
    rw (view-Pattern (λ s. s) c.args.pattern.now, ← c.deref.ensures.value)
    (row_and_rest_are_added c.add_elements.result c.args.rows.now.items c.push.new.self.items
    c.add_elements.new.rows.items _ _ _ c.in_ok-push.ensures.items
    (c.bare_node.ensures ∙ ap (λ n. node_row kind.Pattern no_text n) counted) c.add_elements.ensures)

pub add_element-returns-in_ok-push-in-TextElement : goal.add_element-returns-in_ok-push-in-TextElement
add_element-returns-in_ok-push-in-TextElement t c =
    rw (c.in-TextElement.is, view-TextElement)
    (row_is_added c.args.rows.now.items c.push.new.self.items _ _ c.in_ok-push-in-TextElement.ensures.items
    c.node.ensures)

pub add_element-returns-in_ok-push-in-Placeable : goal.add_element-returns-in_ok-push-in-Placeable
add_element-returns-in_ok-push-in-Placeable t c =
    rw (c.in-Placeable.is, view-Placeable)
    (row_and_rest_are_added c.add_expression.result c.args.rows.now.items c.push-in-Placeable.new.self.items
    c.add_expression.new.rows.items _ _ _ c.in_ok-push-in-Placeable.ensures.items c.bare_node.ensures
    c.add_expression.ensures)

pub add_expression-returns-in_ok-add_inline-in-Select : goal.add_expression-returns-in_ok-add_inline-in-Select
add_expression-returns-in_ok-add_inline-in-Select t c =
    let held : 1 + c.len.result ≡ 1 + variants_count (variants_of (map (variant_view (λ s. s)) c.deref.result.now)) =
    omega (arith, c.len.ensures, c.deref.ensures.len, variants_are_counted c.deref.result.now) in
    rw (c.in-Select.is, view-Select, ← c.deref.ensures.value)
    (row_and_rest_are_added c.add_variants.result c.args.rows.now.items c.push.new.self.items
    c.add_variants.new.rows.items _ _ _ c.in_ok-push-in-Select.ensures.items
    (c.bare_node.ensures ∙ ap (λ n. node_row kind.Select no_text n) held)
    (adding_on_ok_adds_both c.add_variants.result c.push.new.self.items c.add_inline.new.rows.items
    c.add_variants.new.rows.items _ _ c.in_ok-add_inline-in-Select.ensures c.add_variants.ensures))

pub add_expression-returns-in-Inline : goal.add_expression-returns-in-Inline
add_expression-returns-in-Inline t c = rw (c.in-Inline.is, view-Inline) c.add_inline-in-Inline.ensures

pub add_variant-returns : goal.add_variant-returns
add_variant-returns t c =
    rw (view-Variant (λ s. s) c.args.variant.now)
    (row_and_rest_are_added c.add_pattern.result c.args.rows.now.items c.push.new.self.items
    c.add_pattern.new.rows.items _ _ _ c.in_ok-push.ensures.items
    (c.bare_node.ensures ∙ ap (λ k. node_row k no_text 2) c.variant_kind.ensures)
    (row_and_rest_are_added c.add_pattern.result c.push.new.self.items c.push-2.new.self.items
    c.add_pattern.new.rows.items _ _ _ c.in_ok-push-2.ensures.items c.key_node.ensures c.add_pattern.ensures))

pub add_inline-returns-in_ok-push-in-StringLiteral : goal.add_inline-returns-in_ok-push-in-StringLiteral
add_inline-returns-in_ok-push-in-StringLiteral t c =
    rw (c.in-StringLiteral.is, view-StringLiteral)
    (row_is_added c.args.rows.now.items c.push.new.self.items _ _ c.in_ok-push-in-StringLiteral.ensures.items
    c.node.ensures)

pub add_inline-returns-in_ok-push-in-NumberLiteral : goal.add_inline-returns-in_ok-push-in-NumberLiteral
add_inline-returns-in_ok-push-in-NumberLiteral t c =
    rw (c.in-NumberLiteral.is, view-NumberLiteral)
    (row_is_added c.args.rows.now.items c.push-in-NumberLiteral.new.self.items _ _
    c.in_ok-push-in-NumberLiteral.ensures.items c.node-in-NumberLiteral.ensures)

pub add_inline-returns-in_ok-push-in-FunctionReference : goal.add_inline-returns-in_ok-push-in-FunctionReference
add_inline-returns-in_ok-push-in-FunctionReference t c =
    rw (c.in-FunctionReference.is, view-FunctionReference)
    (row_and_rest_are_added c.add_arguments.result c.args.rows.now.items c.push-in-FunctionReference.new.self.items
    c.add_arguments.new.rows.items _ _ _ c.in_ok-push-in-FunctionReference.ensures.items
    c.node-in-FunctionReference.ensures c.add_arguments.ensures)

pub add_inline-returns-in_ok-push-in-MessageReference : goal.add_inline-returns-in_ok-push-in-MessageReference
add_inline-returns-in_ok-push-in-MessageReference t c =
    rw (c.in-MessageReference.is, view-MessageReference)
    (row_and_rest_are_added c.add_name.result c.args.rows.now.items c.push-in-MessageReference.new.self.items
    c.add_name.new.rows.items _ _ _ c.in_ok-push-in-MessageReference.ensures.items
    (c.node-in-MessageReference.ensures
    ∙ ap (λ n. node_row kind.MessageReference c.in-MessageReference.id.name n) c.name_count-held.ensures.count)
    c.add_name.ensures)

pub add_inline-returns-in-Some : goal.add_inline-returns-in-Some
add_inline-returns-in-Some t c =
    let attribute = option_map (identifier_view (λ s. s)) c.in-TermReference.attribute in
    let arguments = arguments_of (option_map (arguments_view (λ s. s)) c.in-TermReference.arguments) in
    let held : c.name_count.result + c.arguments_count.result ≡ option_count attribute + maybe_count arguments =
    omega (arith, c.name_count.ensures.count, c.arguments_count.ensures.count) in
    let rest : OnOk c.add_arguments-in-Some.result (Adds c.add_name-in-TermReference.new.rows.items
    c.add_arguments-in-Some.new.rows.items (maybe_nodes arguments)) =
    rw c.in-Some.is c.add_arguments-in-Some.ensures in
    rw (c.in-TermReference.is, view-TermReference)
    (row_and_rest_are_added c.add_arguments-in-Some.result c.args.rows.now.items
    c.push-in-TermReference.new.self.items c.add_arguments-in-Some.new.rows.items _ _ _
    c.in_ok-push-in-TermReference.ensures.items
    (c.node-in-TermReference.ensures ∙ ap (λ n. node_row kind.TermReference c.in-TermReference.id.name n) held)
    (adding_on_ok_adds_both c.add_arguments-in-Some.result c.push-in-TermReference.new.self.items
    c.add_name-in-TermReference.new.rows.items c.add_arguments-in-Some.new.rows.items _ (maybe_nodes arguments)
    c.in_ok-add_name-in-TermReference.ensures rest))

pub add_inline-returns-in-None : goal.add_inline-returns-in-None
add_inline-returns-in-None t c =
    let attribute = option_map (identifier_view (λ s. s)) c.in-TermReference.attribute in
    let none = rw c.in-None.is at c.arguments_count.ensures.count in
    let held : c.name_count.result + c.arguments_count.result ≡ option_count attribute + 0 =
    omega (arith, c.name_count.ensures.count, none) in
    rw (c.in-TermReference.is, view-TermReference, c.in-None.is)
    (adding_twice_adds_both c.args.rows.now.items c.push-in-TermReference.new.self.items
    c.add_name-in-TermReference.new.rows.items
    (λ tail. node_row kind.TermReference c.in-TermReference.id.name (option_count attribute + 0) ∷ tail) _
    (row_is_added c.args.rows.now.items c.push-in-TermReference.new.self.items _ _
    c.in_ok-push-in-TermReference.ensures.items
    (c.node-in-TermReference.ensures ∙ ap (λ n. node_row kind.TermReference c.in-TermReference.id.name n) held))
    c.in_ok-add_name-in-TermReference.ensures)

pub add_inline-returns-in_ok-push-in-VariableReference : goal.add_inline-returns-in_ok-push-in-VariableReference
add_inline-returns-in_ok-push-in-VariableReference t c =
    rw (c.in-VariableReference.is, view-VariableReference)
    (row_is_added c.args.rows.now.items c.push-in-VariableReference.new.self.items _ _
    c.in_ok-push-in-VariableReference.ensures.items c.node-in-VariableReference.ensures)

pub add_inline-returns-in_ok-push-in-Placeable : goal.add_inline-returns-in_ok-push-in-Placeable
add_inline-returns-in_ok-push-in-Placeable t c =
    rw (c.in-Placeable.is, view-InlinePlaceable, ← c.deref.ensures)
    (row_and_rest_are_added c.add_expression.result c.args.rows.now.items c.push-in-Placeable.new.self.items
    c.add_expression.new.rows.items _ _ _ c.in_ok-push-in-Placeable.ensures.items c.bare_node.ensures
    c.add_expression.ensures)

pub add_arguments-returns : goal.add_arguments-returns
add_arguments-returns t c =
    let held : c.len.result + c.len-2.result
    ≡ inlines_count (inlines_of (map (inline_view (λ s. s)) c.deref.result.now))
    + nameds_count (nameds_of (map (named_view (λ s. s)) c.deref-2.result.now)) =
    omega (
      arith,
      c.len.ensures,
      c.len-2.ensures,
      c.deref.ensures.len,
      c.deref-2.ensures.len,
      inlines_are_counted c.deref.result.now,
      nameds_are_counted c.deref-2.result.now,
    ) in
    rw (view-CallArguments (λ s. s) c.args.arguments.now, ← c.deref.ensures.value, ← c.deref-2.ensures.value)
    (row_and_rest_are_added c.add_named_arguments.result c.args.rows.now.items c.push.new.self.items
    c.add_named_arguments.new.rows.items _ _ _ c.in_ok-push.ensures.items
    (c.bare_node.ensures ∙ ap (λ n. node_row kind.CallArguments no_text n) held)
    (adding_on_ok_adds_both c.add_named_arguments.result c.push.new.self.items c.add_inlines.new.rows.items
    c.add_named_arguments.new.rows.items _ _ c.in_ok-add_inlines.ensures c.add_named_arguments.ensures))

pub add_named_argument-returns : goal.add_named_argument-returns
add_named_argument-returns t c =
    rw (view-NamedArgument (λ s. s) c.args.argument.now)
    (row_and_rest_are_added c.add_inline.result c.args.rows.now.items c.push.new.self.items
    c.add_inline.new.rows.items _ _ _ c.in_ok-push.ensures.items c.node.ensures c.add_inline.ensures)

pub add_elements-loop-element-preserved : goal.add_elements-loop-element-preserved
add_elements-loop-element-preserved t c =
    let all = λ (nodes : List (PatternElement Span)).
    elements_nodes (elements_of (map (element_view (λ s. s)) nodes)) in
    let one = λ (x : PatternElement Span). element_nodes (element_view (λ s. s) x) in
    record {
      left = leaves_next all one c.args.rows.now.items c.loop-element.rows.items c.args.elements.now
          c.loop-element.element-index (λ x xs tail. refl) _ c.element-item.result c.loop-element-test.true
          c.element-item.is c.loop-element.invariant.left c.in_ok-add_element.ensures;
    }

pub add_elements-returns : goal.add_elements-returns
add_elements-returns t c =
    let all = λ (nodes : List (PatternElement Span)).
    elements_nodes (elements_of (map (element_view (λ s. s)) nodes)) in
    let one = λ (x : PatternElement Span). element_nodes (element_view (λ s. s) x) in
    leaves_none all one c.args.rows.now.items c.loop-element.rows.items c.args.elements.now c.loop-element.element-index
    (λ tail. refl) c.loop-element-test.false c.loop-element.invariant.left

pub add_inlines-loop-inline-preserved : goal.add_inlines-loop-inline-preserved
add_inlines-loop-inline-preserved t c =
    let all = λ (nodes : List (InlineExpression Span)). inlines_nodes (inlines_of (map (inline_view (λ s. s)) nodes)) in
    let one = λ (x : InlineExpression Span). inline_nodes (inline_view (λ s. s) x) in
    record {
      left = leaves_next all one c.args.rows.now.items c.loop-inline.rows.items c.args.inlines.now
          c.loop-inline.inline-index (λ x xs tail. refl) _ c.inline-item.result c.loop-inline-test.true
          c.inline-item.is c.loop-inline.invariant.left c.in_ok-add_inline.ensures;
    }

pub add_inlines-returns : goal.add_inlines-returns
add_inlines-returns t c =
    let all = λ (nodes : List (InlineExpression Span)). inlines_nodes (inlines_of (map (inline_view (λ s. s)) nodes)) in
    let one = λ (x : InlineExpression Span). inline_nodes (inline_view (λ s. s) x) in
    leaves_none all one c.args.rows.now.items c.loop-inline.rows.items c.args.inlines.now c.loop-inline.inline-index
    (λ tail. refl) c.loop-inline-test.false c.loop-inline.invariant.left

pub add_named_arguments-loop-named-preserved : goal.add_named_arguments-loop-named-preserved
add_named_arguments-loop-named-preserved t c =
    let all = λ (nodes : List (NamedArgument Span)). nameds_nodes (nameds_of (map (named_view (λ s. s)) nodes)) in
    let one = λ (x : NamedArgument Span). named_nodes (named_view (λ s. s) x) in
    record {
      left = leaves_next all one c.args.rows.now.items c.loop-named.rows.items c.args.nameds.now
          c.loop-named.named-index (λ x xs tail. refl) _ c.named-item.result c.loop-named-test.true
          c.named-item.is c.loop-named.invariant.left c.in_ok-add_named_argument.ensures;
    }

pub add_named_arguments-returns : goal.add_named_arguments-returns
add_named_arguments-returns t c =
    let all = λ (nodes : List (NamedArgument Span)). nameds_nodes (nameds_of (map (named_view (λ s. s)) nodes)) in
    let one = λ (x : NamedArgument Span). named_nodes (named_view (λ s. s) x) in
    leaves_none all one c.args.rows.now.items c.loop-named.rows.items c.args.nameds.now c.loop-named.named-index
    (λ tail. refl) c.loop-named-test.false c.loop-named.invariant.left

pub add_variants-loop-variant-preserved : goal.add_variants-loop-variant-preserved
add_variants-loop-variant-preserved t c =
    let all = λ (nodes : List (Variant Span)). variants_nodes (variants_of (map (variant_view (λ s. s)) nodes)) in
    let one = λ (x : Variant Span). variant_nodes (variant_view (λ s. s) x) in
    record {
      left = leaves_next all one c.args.rows.now.items c.loop-variant.rows.items c.args.variants.now
          c.loop-variant.variant-index (λ x xs tail. refl) _ c.variant-item.result c.loop-variant-test.true
          c.variant-item.is c.loop-variant.invariant.left c.in_ok-add_variant.ensures;
    }

pub add_variants-returns : goal.add_variants-returns
add_variants-returns t c =
    let all = λ (nodes : List (Variant Span)). variants_nodes (variants_of (map (variant_view (λ s. s)) nodes)) in
    let one = λ (x : Variant Span). variant_nodes (variant_view (λ s. s) x) in
    leaves_none all one c.args.rows.now.items c.loop-variant.rows.items c.args.variants.now c.loop-variant.variant-index
    (λ tail. refl) c.loop-variant-test.false c.loop-variant.invariant.left
