use Rattle.std.proofs.Common.{List, ◌∷◌, ◌++◌, map, refl, sym, ap, ◌∙◌}
use Rattle.std.specs.Prelude.{option_copied}
use Rattle.fluent_syntax_tree.specs.Tree.{elements_of, inlines_of, nameds_of}
use Rattle.fluent_syntax_tree.specs.View.{element_view, pattern_view, variant_view, inline_view, named_view}
use Rattle.fluent_syntax_tree.specs.declared.ast.PatternElement.{PatternElement}
use Rattle.fluent_syntax_tree.specs.declared.ast.Variant.{Variant}
use Rattle.fluent_syntax_tree.specs.declared.ast.InlineExpression.{InlineExpression}
use Rattle.fluent_syntax_tree.specs.declared.ast.NamedArgument.{NamedArgument}
use Rattle.fluent_syntax_tree.proofs.Views.{view-Select, view-Inline, view-StringLiteral, view-NumberLiteral}
use Rattle.fluent_syntax_tree.proofs.Views.{view-FunctionReference, view-MessageReference, view-TermReference}
use Rattle.fluent_syntax_tree.proofs.Views.{view-VariableReference, view-InlinePlaceable, view-TextElement}
use Rattle.fluent_syntax_tree.proofs.Views.{view-Placeable, view-Pattern, view-Variant, view-NamedArgument}
use Rattle.fluent_syntax_tree.proofs.Views.{view-CallArguments}
use Rattle.fluent_syntax_names.specs.Mentions.{pattern_mentions, inlines_mentions}
use Rattle.fluent_syntax_names.specs.Mentions.{nameds_mentions, element_mentions, inline_mentions}
use Rattle.fluent_syntax_names.specs.Mentions.{variant_mentions, named_mentions}
use Rattle.fluent_syntax_names.specs.declared.mention.Mention.TheVariants as says
use Rattle.fluent_syntax_names.proofs.Adding.{pushed_item_is_added, adding_twice_adds_both, adding_on_ok_adds_both}
use Rattle.fluent_syntax_names.proofs.Adding.{leaves_next, leaves_none}
use Rattle.fluent_syntax_names.proofs.Variants.{all_variants, mentions_of_select_begin_with_first_key}
use Rattle.fluent_syntax_names.proofs.patterns.+mentions.Goals as goal

pub add_pattern-returns : goal.add_pattern-returns
add_pattern-returns g t c =
    rw (view-Pattern (λ x. x) c.args.pattern.now, ← c.deref.ensures.value) c.add_elements.ensures

pub add_elements-loop-element-preserved : goal.add_elements-loop-element-preserved
add_elements-loop-element-preserved g t c =
    let all = λ (nodes : List (PatternElement g.row.X.Denot)).
    pattern_mentions (elements_of (map (element_view (λ x. x)) nodes)) in
    let one = λ (x : PatternElement g.row.X.Denot). element_mentions (element_view (λ x. x) x) in
    record {
      left = leaves_next all one c.args.list.now.items c.loop-element.list.items c.args.elements.now
          c.loop-element.element-index (λ x xs tail. refl) _ c.element-item.result c.loop-element-test.true
          c.element-item.is c.loop-element.invariant.left (c.in_ok-add_element.ensures);
    }

pub add_elements-returns : goal.add_elements-returns
add_elements-returns g t c =
    let all = λ (nodes : List (PatternElement g.row.X.Denot)).
    pattern_mentions (elements_of (map (element_view (λ x. x)) nodes)) in
    let one = λ (x : PatternElement g.row.X.Denot). element_mentions (element_view (λ x. x) x) in
    leaves_none all one c.args.list.now.items c.loop-element.list.items c.args.elements.now c.loop-element.element-index
    (λ tail. refl) c.loop-element-test.false c.loop-element.invariant.left

pub add_element-returns-in-TextElement : goal.add_element-returns-in-TextElement
add_element-returns-in-TextElement g t c = rw (c.in-TextElement.is, view-TextElement) (λ rest. refl)

pub add_element-returns-in-Placeable : goal.add_element-returns-in-Placeable
add_element-returns-in-Placeable g t c = rw (c.in-Placeable.is, view-Placeable) c.add_expression.ensures

pub add_expression-returns-in_ok-add_inline-in-Select : goal.add_expression-returns-in_ok-add_inline-in-Select
add_expression-returns-in_ok-add_inline-in-Select g t c =
    let variants = rw c.deref.ensures.value at c.add_variants.ensures in
    rw (c.in-Select.is, view-Select)
    (adding_on_ok_adds_both c.add_variants.result c.args.list.now.items c.add_inline.new.list.items
    c.add_variants.new.list.items _ _
    c.in_ok-add_inline-in-Select.ensures variants)

pub add_expression-returns-in-Inline : goal.add_expression-returns-in-Inline
add_expression-returns-in-Inline g t c =
    rw (c.in-Inline.is, view-Inline) c.add_inline-in-Inline.ensures

pub add_variants-loop-variant-preserved : goal.add_variants-loop-variant-preserved
add_variants-loop-variant-preserved g t c =
    let first = c.key_text-first.result in
    let variant = c.variant-item.result in
    let all = all_variants (λ x. x) first in
    let one = λ (x : Variant g.row.X.Denot). variant_mentions first (variant_view (λ x. x) x) in
    record {
      left = leaves_next all one c.args.list.now.items c.loop-variant.list.items c.args.variants.now
          c.loop-variant.variant-index (λ x xs tail. refl) c.add_pattern.new.list.items variant c.loop-variant-test.true
          c.variant-item.is c.loop-variant.invariant.left
          (rw (view-Variant (λ x. x) variant, ← c.key_text-key.ensures)
          (adding_twice_adds_both c.loop-variant.list.items c.push.new.self.items c.add_pattern.new.list.items
          (λ tail. says.VariantKey c.key_text-key.result first ∷ tail)
          (pattern_mentions (pattern_view (λ x. x) variant.value))
          (pushed_item_is_added _ _ _ c.in_ok-push.ensures.items) c.in_ok-add_pattern.ensures));
    }

pub add_variants-returns : goal.add_variants-returns
add_variants-returns g t c =
    let first = c.key_text-first.result in
    let variant = c.in-Some.first_variant.now in
    let all = all_variants (λ x. x) first in
    let one = λ (x : Variant g.row.X.Denot). variant_mentions first (variant_view (λ x. x) x) in
    let there = sym c.first.ensures.value ∙ ap option_copied c.in-Some.is in
    let adds =
    leaves_none all one c.args.list.now.items c.loop-variant.list.items c.args.variants.now c.loop-variant.variant-index
    (λ tail. refl) c.loop-variant-test.false c.loop-variant.invariant.left in
    λ rest. adds rest ∙ ap (λ l. c.args.list.now.items ++ l)
    (ap (λ key. all_variants (λ x. x) key c.args.variants.now rest) c.key_text-first.ensures
    ∙ mentions_of_select_begin_with_first_key (λ x. x) c.args.variants.now variant there rest)

pub add_inlines-loop-inline-preserved : goal.add_inlines-loop-inline-preserved
add_inlines-loop-inline-preserved g t c =
    let all = λ (nodes : List (InlineExpression g.row.X.Denot)).
    inlines_mentions (inlines_of (map (inline_view (λ x. x)) nodes)) in
    let one = λ (x : InlineExpression g.row.X.Denot). inline_mentions (inline_view (λ x. x) x) in
    record {
      left = leaves_next all one c.args.list.now.items c.loop-inline.list.items c.args.inlines.now
          c.loop-inline.inline-index (λ x xs tail. refl) _ c.inline-item.result c.loop-inline-test.true
          c.inline-item.is c.loop-inline.invariant.left (c.in_ok-add_inline.ensures);
    }

pub add_inlines-returns : goal.add_inlines-returns
add_inlines-returns g t c =
    let all = λ (nodes : List (InlineExpression g.row.X.Denot)).
    inlines_mentions (inlines_of (map (inline_view (λ x. x)) nodes)) in
    let one = λ (x : InlineExpression g.row.X.Denot). inline_mentions (inline_view (λ x. x) x) in
    leaves_none all one c.args.list.now.items c.loop-inline.list.items c.args.inlines.now c.loop-inline.inline-index
    (λ tail. refl) c.loop-inline-test.false c.loop-inline.invariant.left

pub add_named_arguments-loop-named-preserved : goal.add_named_arguments-loop-named-preserved
add_named_arguments-loop-named-preserved g t c =
    let all = λ (nodes : List (NamedArgument g.row.X.Denot)).
    nameds_mentions (nameds_of (map (named_view (λ x. x)) nodes)) in
    let one = λ (x : NamedArgument g.row.X.Denot). named_mentions (named_view (λ x. x) x) in
    record {
      left = leaves_next all one c.args.list.now.items c.loop-named.list.items c.args.nameds.now
          c.loop-named.named-index (λ x xs tail. refl) _ c.named-item.result c.loop-named-test.true
          c.named-item.is c.loop-named.invariant.left
          (rw (view-NamedArgument (λ x. x) c.named-item.result) c.in_ok-add_inline.ensures);
    }

pub add_named_arguments-returns : goal.add_named_arguments-returns
add_named_arguments-returns g t c =
    let all = λ (nodes : List (NamedArgument g.row.X.Denot)).
    nameds_mentions (nameds_of (map (named_view (λ x. x)) nodes)) in
    let one = λ (x : NamedArgument g.row.X.Denot). named_mentions (named_view (λ x. x) x) in
    leaves_none all one c.args.list.now.items c.loop-named.list.items c.args.nameds.now c.loop-named.named-index
    (λ tail. refl) c.loop-named-test.false c.loop-named.invariant.left

pub add_arguments-returns : goal.add_arguments-returns
add_arguments-returns g t c =
    let positional = rw c.deref.ensures.value at c.in_ok-add_inlines.ensures in
    let named = rw c.deref-2.ensures.value at c.add_named_arguments.ensures in
    rw (view-CallArguments (λ x. x) c.args.arguments.now)
    (adding_on_ok_adds_both c.add_named_arguments.result c.args.list.now.items c.add_inlines.new.list.items
    c.add_named_arguments.new.list.items _ _
    positional named)

pub add_inline-returns-in-StringLiteral : goal.add_inline-returns-in-StringLiteral
add_inline-returns-in-StringLiteral g t c = rw (c.in-StringLiteral.is, view-StringLiteral) (λ rest. refl)

pub add_inline-returns-in-NumberLiteral : goal.add_inline-returns-in-NumberLiteral
add_inline-returns-in-NumberLiteral g t c = rw (c.in-NumberLiteral.is, view-NumberLiteral) (λ rest. refl)

pub add_inline-returns-in_ok-push-in-FunctionReference : goal.add_inline-returns-in_ok-push-in-FunctionReference
add_inline-returns-in_ok-push-in-FunctionReference g t c =
    rw (c.in-FunctionReference.is, view-FunctionReference)
    (adding_on_ok_adds_both c.add_arguments.result c.args.list.now.items c.push.new.self.items
    c.add_arguments.new.list.items
    (λ tail. says.Function c.in-FunctionReference.id.name ∷ tail) _
    (pushed_item_is_added _ _ _ c.in_ok-push-in-FunctionReference.ensures.items) c.add_arguments.ensures)

pub add_inline-returns-in_ok-push-in-MessageReference : goal.add_inline-returns-in_ok-push-in-MessageReference
add_inline-returns-in_ok-push-in-MessageReference g t c =
    rw (c.in-MessageReference.is, view-MessageReference, ← c.name_of-attribute.ensures)
    (pushed_item_is_added _ _ _ c.in_ok-push-in-MessageReference.ensures.items)

pub add_inline-returns-in-Some : goal.add_inline-returns-in-Some
add_inline-returns-in-Some g t c =
    let attribute = c.name_of-attribute-in-TermReference.result in
    rw (c.in-TermReference.is, view-TermReference, ← c.name_of-attribute-in-TermReference.ensures, c.in-Some.is)
    (adding_on_ok_adds_both c.add_arguments-in-Some.result c.args.list.now.items c.push-in-TermReference.new.self.items
    c.add_arguments-in-Some.new.list.items (λ tail. says.TermReference c.in-TermReference.id.name attribute ∷ tail) _
    (pushed_item_is_added _ _ _ c.in_ok-push-in-TermReference.ensures.items) c.add_arguments-in-Some.ensures)

pub add_inline-returns-in-None : goal.add_inline-returns-in-None
add_inline-returns-in-None g t c =
    rw (c.in-TermReference.is, view-TermReference, ← c.name_of-attribute-in-TermReference.ensures, c.in-None.is)
    (pushed_item_is_added _ _ _ c.in_ok-push-in-TermReference.ensures.items)

pub add_inline-returns-in_ok-push-in-VariableReference : goal.add_inline-returns-in_ok-push-in-VariableReference
add_inline-returns-in_ok-push-in-VariableReference g t c =
    rw (c.in-VariableReference.is, view-VariableReference)
    (pushed_item_is_added _ _ _ c.in_ok-push-in-VariableReference.ensures.items)

pub add_inline-returns-in-Placeable : goal.add_inline-returns-in-Placeable
add_inline-returns-in-Placeable g t c =
    rw (c.in-Placeable.is, view-InlinePlaceable, ← c.deref.ensures) c.add_expression.ensures
