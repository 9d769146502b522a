use Rattle.std.proofs.Common.{List, drop, map}
use Rattle.fluent_syntax_tree.specs.declared.ast.InlineExpression.{InlineExpression}
use Rattle.fluent_syntax_tree.specs.declared.ast.NamedArgument.{NamedArgument}
use Rattle.fluent_syntax_tree.specs.declared.ast.PatternElement.{PatternElement}
use Rattle.fluent_syntax_tree.specs.declared.ast.Variant.{Variant}
use Rattle.fluent_syntax_tree.specs.declared.spans.Span.{Span}
use Rattle.fluent_syntax_tree.specs.Tree.{elements_of, inlines_of, nameds_of, variants_of}
use Rattle.fluent_syntax_tree.specs.View.{element_view, inline_view, named_view, variant_view}
use Rattle.fluent_syntax_names.specs.Growing.{Leaves}
use Rattle.fluent_syntax_c.specs.Nodes.{elements_nodes, inlines_nodes, nameds_nodes, variants_nodes}
use Rattle.fluent_syntax_c.proofs.pattern_nodes.+nodes.Given as goal

abbrev pub invariant-add_elements-loop-element : goal.invariant-add_elements-loop-element
invariant-add_elements-loop-element l =
    let all = λ (nodes : List (PatternElement Span)).
    elements_nodes (elements_of (map (element_view (λ s. s)) nodes)) in
    record { left : Leaves l.fn.rows.items l.rows.items (all (drop l.element-index l.elements)) (all l.elements) }

abbrev pub invariant-add_inlines-loop-inline : goal.invariant-add_inlines-loop-inline
invariant-add_inlines-loop-inline l =
    let all = λ (nodes : List (InlineExpression Span)). inlines_nodes (inlines_of (map (inline_view (λ s. s)) nodes)) in
    record { left : Leaves l.fn.rows.items l.rows.items (all (drop l.inline-index l.inlines)) (all l.inlines) }

abbrev pub invariant-add_named_arguments-loop-named : goal.invariant-add_named_arguments-loop-named
invariant-add_named_arguments-loop-named l =
    let all = λ (nodes : List (NamedArgument Span)). nameds_nodes (nameds_of (map (named_view (λ s. s)) nodes)) in
    record { left : Leaves l.fn.rows.items l.rows.items (all (drop l.named-index l.nameds)) (all l.nameds) }

abbrev pub invariant-add_variants-loop-variant : goal.invariant-add_variants-loop-variant
invariant-add_variants-loop-variant l =
    let all = λ (nodes : List (Variant Span)). variants_nodes (variants_of (map (variant_view (λ s. s)) nodes)) in
    record { left : Leaves l.fn.rows.items l.rows.items (all (drop l.variant-index l.variants)) (all l.variants) }
