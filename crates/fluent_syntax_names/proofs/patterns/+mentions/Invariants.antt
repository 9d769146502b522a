use Rattle.std.proofs.Common.{List, drop, map}
use Rattle.fluent_syntax_tree.specs.declared.ast.PatternElement.{PatternElement}
use Rattle.fluent_syntax_tree.specs.declared.ast.Variant.{Variant}
use Rattle.fluent_syntax_tree.specs.declared.ast.InlineExpression.{InlineExpression}
use Rattle.fluent_syntax_tree.specs.declared.ast.NamedArgument.{NamedArgument}
use Rattle.fluent_syntax_tree.specs.Tree.{elements_of, variants_of, inlines_of, nameds_of}
use Rattle.fluent_syntax_tree.specs.View.{element_view, variant_view, inline_view, named_view}
use Rattle.fluent_syntax_names.specs.Growing.{Leaves}
use Rattle.fluent_syntax_names.specs.Mentions.{pattern_mentions, variants_mentions, inlines_mentions}
use Rattle.fluent_syntax_names.specs.Mentions.{nameds_mentions}
use Rattle.fluent_syntax_names.proofs.patterns.+mentions.Given as goal

abbrev pub invariant-add_elements-loop-element : goal.invariant-add_elements-loop-element
invariant-add_elements-loop-element g l =
    let all = λ (nodes : List (PatternElement g.row.X.Denot)).
    pattern_mentions (elements_of (map (element_view (λ x. x)) nodes)) in
    record { left : Leaves l.fn.list.items l.list.items (all (drop l.element-index l.elements)) (all l.elements) }

abbrev pub invariant-add_variants-loop-variant : goal.invariant-add_variants-loop-variant
invariant-add_variants-loop-variant g l =
    let all = λ (nodes : List (Variant g.row.X.Denot)).
    variants_mentions l.first (variants_of (map (variant_view (λ x. x)) nodes)) in
    record { left : Leaves l.fn.list.items l.list.items (all (drop l.variant-index l.variants)) (all l.variants) }

abbrev pub invariant-add_inlines-loop-inline : goal.invariant-add_inlines-loop-inline
invariant-add_inlines-loop-inline g l =
    let all = λ (nodes : List (InlineExpression g.row.X.Denot)).
    inlines_mentions (inlines_of (map (inline_view (λ x. x)) nodes)) in
    record { left : Leaves l.fn.list.items l.list.items (all (drop l.inline-index l.inlines)) (all l.inlines) }

abbrev pub invariant-add_named_arguments-loop-named : goal.invariant-add_named_arguments-loop-named
invariant-add_named_arguments-loop-named g l =
    let all = λ (nodes : List (NamedArgument g.row.X.Denot)).
    nameds_mentions (nameds_of (map (named_view (λ x. x)) nodes)) in
    record { left : Leaves l.fn.list.items l.list.items (all (drop l.named-index l.nameds)) (all l.nameds) }
