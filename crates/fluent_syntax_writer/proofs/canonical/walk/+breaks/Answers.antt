use Rattle.std.proofs.Common.{◌&&◌, map, option_map, refl, ap, ◌∙◌}
use Rattle.fluent_syntax_tree.specs.Tree.{select, elements_of, arguments, arguments_of, inlines_of, nameds_of}
use Rattle.fluent_syntax_tree.specs.Tree.{variants_of}
use Rattle.fluent_syntax_tree.specs.View.{identifier_view, inline_view, element_view, arguments_view, named_view}
use Rattle.fluent_syntax_tree.specs.View.{pattern_view, variant_view}
use Rattle.fluent_syntax_tree.specs.declared.ast.CallArguments.{out-CallArguments}
use Rattle.fluent_syntax_tree.proofs.Views.{view-Select, view-FunctionReference, view-TermReference, view-Pattern}
use Rattle.fluent_syntax_tree.proofs.Views.{view-CallArguments}
use Rattle.fluent_syntax_grammar.specs.Rules.{option_obeys, elements_obey, element_obeys, arguments_obey}
use Rattle.fluent_syntax_grammar.specs.Rules.{optional_arguments_obey, inlines_obey, named_arguments_obey, inline_obeys}
use Rattle.fluent_syntax_grammar.specs.Rules.{variants_obey}
use Rattle.fluent_syntax_writer.specs.RuleSets.{keeps}
use Rattle.fluent_syntax_writer.specs.SingleRule.{single_rule, expression_keeps, arguments_keep, callee_keeps}
use Rattle.fluent_syntax_writer.specs.SingleRule.{name_keeps}
use Rattle.fluent_syntax_writer.proofs.rules.Nodes.{pattern_obeys_by_parts}
use Rattle.fluent_syntax_writer.proofs.rules.Sets.{and_is_associative}
use Rattle.fluent_syntax_writer.proofs.rules.Steps.{item_joins_what_came_before}
use Rattle.fluent_syntax_writer.proofs.canonical.walk.+breaks.Goals as goal

pub pattern_breaks-returns : goal.pattern_breaks-returns
pattern_breaks-returns g t c = λ k.
    let pattern = c.args.pattern.now in
    let f = g.T.ReadTexts.text in
    rw (
      c.union.ensures k,
      c.layout_breaks-layout.ensures k,
      c.elements_break.ensures k,
      c.deref.ensures.value,
      ← view-Pattern f pattern,
    ) (pattern_obeys_by_parts (single_rule c.args.check.edition k) (pattern_view f pattern))

pub elements_break-loop-element-preserved : goal.elements_break-loop-element-preserved
elements_break-loop-element-preserved g t c =
    let view = element_view g.T.ReadTexts.text in
    record {
      rest = λ k.
          let r = single_rule c.args.check.edition k in
          item_joins_what_came_before {S = Unit {0}} (λ u es. elements_obey r (elements_of (map view es)))
          (λ u e es. element_obeys r (view e)) (λ u e. u) (λ u e es. refl) tt c.args.elements.now _ _ _ _ _
          c.loop-element-test.true c.element-item.is
          (c.union-broken.ensures k ∙ ap (λ b. keeps c.loop-element.broken k && b) (c.element_breaks.ensures k))
          (c.loop-element.invariant.rest k);
    }

pub expression_breaks-returns-in-Select : goal.expression_breaks-returns-in-Select
expression_breaks-returns-in-Select g t c = λ k.
    let f = g.T.ReadTexts.text in
    let r = single_rule c.args.check.edition k in
    let e = inline_view f c.in-Select.selector in
    let vs = variants_of (map (variant_view f) c.in-Select.variants.items) in
    rw (
      c.in-Select.is,
      view-Select,
      c.union-in-Select.ensures k,
      c.union.ensures k,
      c.select_breaks.ensures k,
      c.inline_breaks.ensures k,
      c.variants_break.ensures k,
      c.deref.ensures.value,
      c.deref-in-Select.ensures.value,
    ) (and_is_associative (expression_keeps k (select e vs)) (inline_obeys r e) (variants_obey r vs))

pub inline_breaks-returns-in-FunctionReference : goal.inline_breaks-returns-in-FunctionReference
inline_breaks-returns-in-FunctionReference g t c = λ k.
    let f = g.T.ReadTexts.text in
    let name = f c.in-FunctionReference.id.name in
    let given = arguments_obey (single_rule c.args.check.edition k)
    (arguments_view f c.in-FunctionReference.arguments) in
    rw (
      c.in-FunctionReference.is,
      view-FunctionReference,
      c.union.ensures k,
      c.function_name_breaks.ensures k,
      c.as_str-in-FunctionReference.ensures,
      c.arguments_break.ensures k,
    ) (and_is_associative (name_keeps k name) (callee_keeps k name) given)

pub inline_breaks-returns-in-TermReference : goal.inline_breaks-returns-in-TermReference
inline_breaks-returns-in-TermReference g t c = λ k.
    let f = g.T.ReadTexts.text in
    let reference = c.in-TermReference in
    let attribute = option_obeys (name_keeps k) (option_map (identifier_view f) reference.attribute) in
    let given = optional_arguments_obey (single_rule c.args.check.edition k)
    (arguments_of (option_map (arguments_view f) reference.arguments)) in
    rw (
      c.in-TermReference.is,
      view-TermReference,
      c.union-in-TermReference.ensures k,
      c.reference_breaks-in-TermReference.ensures k,
      c.optional_arguments_break.ensures k,
    ) (and_is_associative (name_keeps k (f reference.id.name)) attribute given)

pub arguments_break-returns : goal.arguments_break-returns
arguments_break-returns g t c = λ k.
    let f = g.T.ReadTexts.text in
    let given = out-CallArguments _ c.args.arguments.now in
    let r = single_rule c.args.check.edition k in
    let positional = inlines_of (map (inline_view f) given.positional.items) in
    let named = nameds_of (map (named_view f) given.named.items) in
    rw (
      c.union-2.ensures k,
      c.union.ensures k,
      c.argument_list_breaks.ensures k,
      c.inlines_break.ensures k,
      c.named_arguments_break.ensures k,
      c.deref.ensures.value,
      c.deref-2.ensures.value,
      view-CallArguments,
    ) (and_is_associative (arguments_keep k (arguments positional named)) (inlines_obey r positional)
    (named_arguments_obey r named))
