use Rattle.std.proofs.Common.{◌+◌, None, Some, map, option_map, drop, string_bytes, sym, ap, ◌∙◌}
use Rattle.fluent_syntax_tree.specs.Tree.{arguments_of, some_arguments, elements, elements_of}
use Rattle.fluent_syntax_tree.specs.View.{expression_view, element_view, arguments_view, named_view, variant_view}
use Rattle.fluent_syntax_tree.proofs.Lists.{maps_of_whole_prefix_agree}
use Rattle.fluent_syntax_tree.proofs.Views.{view-Pattern, view-Placeable}
use Rattle.fluent_syntax_grammar.specs.Joined.{joined_maybe, joined_named, joined_pattern, joined_variant}
use Rattle.fluent_syntax_writer.specs.Joining.{before_pattern, joined_from}
use Rattle.fluent_syntax_writer.proofs.joining.Elements.{placeable_follows_joined_text, last_text_ends_joined_pattern}
use Rattle.fluent_syntax_writer.proofs.joining.Elements.{elements_left_begin_with_next, no_elements_are_left_at_end}
use Rattle.fluent_syntax_writer.proofs.joining.Elements.{pushed_placeable_is_last_element}
use Rattle.fluent_syntax_writer.proofs.joining.Trees.{joined-CallArguments, joined-Select, joined-TermReference}
use Rattle.fluent_syntax_writer.proofs.joined.patterns.+joined.Goals as goal

pub arguments-returns : goal.arguments-returns
arguments-returns g t c =
    let text = g.T.ReadTexts.text in
    joined-CallArguments string_bytes text _ c.args.arguments.now c.loop-item-2.invariant.0
    (maps_of_whole_prefix_agree (named_view string_bytes) (λ n. joined_named (named_view text n)) _ _ _
    c.loop-item-2.item-index
    c.loop-item-2.invariant.1 c.loop-item-2-test.false c.deref-item-items-2.ensures.value)

pub expression-returns-in_ok-inline-in-Select : goal.expression-returns-in_ok-inline-in-Select
expression-returns-in_ok-inline-in-Select g t c =
    let text = g.T.ReadTexts.text in
    joined-Select string_bytes text c.in_ok-inline-in-Select.field-0 c.in-Select.selector c.loop-item.copies
    c.in-Select.variants c.args.expression.now c.in-Select.is c.in_ok-inline-in-Select.ensures
    (maps_of_whole_prefix_agree (variant_view string_bytes) (λ v. joined_variant (variant_view text v)) _ _ _
    c.loop-item.item-index
    c.loop-item.invariant c.loop-item-test.false c.deref-item-items.ensures.value)

pub inline-returns-in-None : goal.inline-returns-in-None
inline-returns-in-None g t c =
    let text = g.T.ReadTexts.text in
    joined-TermReference string_bytes text c.in_ok-id-in-TermReference.id c.in-TermReference.id
    c.in_ok-of-in-TermReference.of c.in-TermReference.of None c.in-TermReference.given c.args.inline.now
    c.in-TermReference.is c.in_ok-id-in-TermReference.ensures c.in_ok-of-in-TermReference.ensures
    (ap (λ a. joined_maybe (arguments_of (option_map (arguments_view text) a))) (sym c.in-None.is))

pub inline-returns-in_ok-arguments-in-Some : goal.inline-returns-in_ok-arguments-in-Some
inline-returns-in_ok-arguments-in-Some g t c =
    let text = g.T.ReadTexts.text in
    joined-TermReference string_bytes text c.in_ok-id-in-TermReference.id c.in-TermReference.id
    c.in_ok-of-in-TermReference.of c.in-TermReference.of (Some c.in_ok-arguments-in-Some.field-0)
    c.in-TermReference.given c.args.inline.now c.in-TermReference.is c.in_ok-id-in-TermReference.ensures
    c.in_ok-of-in-TermReference.ensures
    (ap some_arguments c.in_ok-arguments-in-Some.ensures
    ∙ ap (λ a. joined_maybe (arguments_of (option_map (arguments_view text) a))) (sym c.in-Some.is))

pub pattern-loop-item-preserved : goal.pattern-loop-item-preserved
pattern-loop-item-preserved g t c =
    let view = element_view g.T.ReadTexts.text in
    let items = c.deref-item-items.result.now in
    let done = map (element_view string_bytes) c.loop-item.elements.items in
    let last = option_map string_bytes c.loop-item.last in
    c.loop-item.invariant
    ∙ ap (λ p. before_pattern done (joined_from last p))
    (elements_left_begin_with_next view items c.loop-item.item-index c.item-item.result c.loop-item-test.true
    c.item-item.is)
    ∙ sym (c.in_ok-last.ensures (elements_of (map view (drop (c.loop-item.item-index + 1) items))))

pub push_element-returns-in_ok-push-in-Placeable : goal.push_element-returns-in_ok-push-in-Placeable
push_element-returns-in_ok-push-in-Placeable g t c = λ rest.
    let text = g.T.ReadTexts.text in
    let done = map (element_view string_bytes) c.args.made.now.items in
    let last = option_map string_bytes c.args.last in
    ap (λ l. before_pattern l (joined_pattern rest))
    (pushed_placeable_is_last_element string_bytes _ _ _ _ _ c.in_ok-push-in-Placeable.ensures.items
    c.in_ok-push_last-in-Placeable.ensures c.in_ok-expression-in-Placeable.ensures)
    ∙ placeable_follows_joined_text done last (expression_view text c.in-Placeable.inner) rest
    ∙ ap (λ x. before_pattern done (joined_from last (elements x rest)))
    (sym (ap (element_view text) c.in-Placeable.is ∙ view-Placeable text c.in-Placeable.inner))

pub pattern-returns : goal.pattern-returns
pattern-returns g t c =
    let view = element_view g.T.ReadTexts.text in
    let items = c.deref-item-items.result.now in
    let done = map (element_view string_bytes) c.loop-item.elements.items in
    let last = option_map string_bytes c.loop-item.last in
    view-Pattern string_bytes _
    ∙ ap elements_of c.in_ok-push_last.ensures
    ∙ last_text_ends_joined_pattern done last
    ∙ sym (c.loop-item.invariant ∙ ap (λ p. before_pattern done (joined_from last p))
    (no_elements_are_left_at_end view items c.loop-item.item-index c.loop-item-test.false))
    ∙ ap (λ xs. joined_pattern (elements_of (map view xs))) c.deref-item-items.ensures.value
    ∙ sym (ap joined_pattern (view-Pattern g.T.ReadTexts.text c.args.pattern.now))
