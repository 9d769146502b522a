use Rattle.std.proofs.Common.{List, ◌++◌, ◌∷◌, [], map, drop, codes}
use Rattle.fluent_syntax_tree.specs.declared.ast.CallArguments.{out-CallArguments}
use Rattle.fluent_syntax_tree.specs.declared.ast.Variant.{Variant}
use Rattle.fluent_syntax_tree.specs.declared.ast.PatternElement.{PatternElement}
use Rattle.fluent_syntax_tree.specs.Tree.{inlines_of, nameds_of, elements_of, variants_of}
use Rattle.fluent_syntax_tree.specs.View.{inline_view, element_view, named_view, arguments_view, variant_view}
use Rattle.fluent_syntax_grammar.specs.Written.{literal, positional_marks, named_marks, arguments_marks, elements_marks}
use Rattle.fluent_syntax_grammar.specs.Written.{variants_marks}
use Rattle.fluent_syntax_grammar.specs.Writing.{depth}
use Rattle.fluent_syntax_grammar.proofs.Remaining.{RemainingMarks}
use Rattle.fluent_syntax_writer.proofs.Arguments.{arguments_left}
use Rattle.fluent_syntax_writer.proofs.serializer.+serialized.Given as goal

abbrev pub invariant-expressions::serialize_expression-loop-variant :
    goal.invariant-expressions::serialize_expression-loop-variant
invariant-expressions::serialize_expression-loop-variant g l =
    let trees = λ (vs : List (Variant g.row.X.Denot)). variants_of (map (variant_view g.T.ReadTexts.text) vs) in
    let left = variants_marks (depth l.deeper) (trees (drop l.variant-index l.variant-items)) in
    let all = variants_marks (depth l.deeper) (trees l.variant-items) in
    record { rest : RemainingMarks g.W.TextSink.text g.W.TextSink.room l.initial.writer l.writer left all }

abbrev pub invariant-expressions::serialize_call_arguments-loop-argument :
    goal.invariant-expressions::serialize_call_arguments-loop-argument
invariant-expressions::serialize_call_arguments-loop-argument g l =
    let level = depth l.level in
    let inlines = inlines_of (map (inline_view g.T.ReadTexts.text) (drop l.argument-index l.argument-items)) in
    let named_items = (out-CallArguments g.row.X.Denot l.arguments).named.items in
    let named = named_marks level (nameds_of (map (named_view g.T.ReadTexts.text) named_items)) in
    let left = arguments_left level l.follows (positional_marks level inlines ++ named) in
    let closed = left ++ (literal level (codes ")") ∷ []) in
    let all = arguments_marks level (arguments_view g.T.ReadTexts.text l.arguments) in
    record { rest : RemainingMarks g.W.TextSink.text g.W.TextSink.room l.fn.writer l.writer closed all }

abbrev pub invariant-expressions::serialize_call_arguments-loop-argument-2 :
    goal.invariant-expressions::serialize_call_arguments-loop-argument-2
invariant-expressions::serialize_call_arguments-loop-argument-2 g l =
    let level = depth l.level in
    let nameds = nameds_of (map (named_view g.T.ReadTexts.text) (drop l.argument-index l.argument-items)) in
    let left = arguments_left level l.follows (named_marks level nameds) in
    let closed = left ++ (literal level (codes ")") ∷ []) in
    let all = arguments_marks level (arguments_view g.T.ReadTexts.text l.arguments) in
    record { rest : RemainingMarks g.W.TextSink.text g.W.TextSink.room l.fn.writer l.writer closed all }

abbrev pub invariant-patterns::serialize_elements-loop-element :
    goal.invariant-patterns::serialize_elements-loop-element
invariant-patterns::serialize_elements-loop-element g l =
    let trees = λ (es : List (PatternElement g.row.X.Denot)). elements_of (map (element_view g.T.ReadTexts.text) es) in
    let left = elements_marks (depth l.level) (trees (drop l.element-index l.elements)) in
    let all = elements_marks (depth l.level) (trees l.elements) in
    record { rest : RemainingMarks g.W.TextSink.text g.W.TextSink.room l.initial.writer l.writer left all }
