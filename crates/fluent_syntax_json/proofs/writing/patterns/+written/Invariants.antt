use Rattle.std.proofs.Common.{List, map, drop, false}
use Rattle.serde_json.specs.Written.{items_text}
use Rattle.fluent_syntax_tree.specs.Tree.{elements_of, variants_of, inlines_of, nameds_of}
use Rattle.fluent_syntax_tree.specs.View.{element_view, variant_view, inline_view, named_view}
use Rattle.fluent_syntax_tree.specs.declared.ast.PatternElement.{PatternElement}
use Rattle.fluent_syntax_tree.specs.declared.ast.Variant.{Variant}
use Rattle.fluent_syntax_tree.specs.declared.ast.InlineExpression.{InlineExpression}
use Rattle.fluent_syntax_tree.specs.declared.ast.NamedArgument.{NamedArgument}
use Rattle.fluent_syntax_grammar.proofs.Remaining.{RemainingBytes}
use Rattle.fluent_syntax_json.specs.Form.{element_forms, variant_forms, inline_forms, named_forms}
use Rattle.fluent_syntax_json.proofs.writing.patterns.+written.Given as goal

abbrev pub invariant-write_elements-loop-element : goal.invariant-write_elements-loop-element
invariant-write_elements-loop-element g l =
    let forms = λ (xs : List (PatternElement g.row.X.Denot)).
    element_forms (elements_of (map (element_view g.T.ReadTexts.text) xs)) in
    let left = items_text l.later (forms (drop l.element-index l.elements)) in
    let all = items_text false (forms l.elements) in
    record { rest : RemainingBytes g.W.TextSink.text g.W.TextSink.room l.initial.writer l.writer left all }

abbrev pub invariant-write_variants-loop-variant : goal.invariant-write_variants-loop-variant
invariant-write_variants-loop-variant g l =
    let forms = λ (xs : List (Variant g.row.X.Denot)).
    variant_forms (variants_of (map (variant_view g.T.ReadTexts.text) xs)) in
    let left = items_text l.later (forms (drop l.variant-index l.variants)) in
    let all = items_text false (forms l.variants) in
    record { rest : RemainingBytes g.W.TextSink.text g.W.TextSink.room l.initial.writer l.writer left all }

abbrev pub invariant-write_positional-loop-inline : goal.invariant-write_positional-loop-inline
invariant-write_positional-loop-inline g l =
    let forms = λ (xs : List (InlineExpression g.row.X.Denot)).
    inline_forms (inlines_of (map (inline_view g.T.ReadTexts.text) xs)) in
    let left = items_text l.later (forms (drop l.inline-index l.inlines)) in
    let all = items_text false (forms l.inlines) in
    record { rest : RemainingBytes g.W.TextSink.text g.W.TextSink.room l.initial.writer l.writer left all }

abbrev pub invariant-write_named_arguments-loop-named : goal.invariant-write_named_arguments-loop-named
invariant-write_named_arguments-loop-named g l =
    let forms = λ (xs : List (NamedArgument g.row.X.Denot)).
    named_forms (nameds_of (map (named_view g.T.ReadTexts.text) xs)) in
    let left = items_text l.later (forms (drop l.named-index l.nameds)) in
    let all = items_text false (forms l.nameds) in
    record { rest : RemainingBytes g.W.TextSink.text g.W.TextSink.room l.initial.writer l.writer left all }
