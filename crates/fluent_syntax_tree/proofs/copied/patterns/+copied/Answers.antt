use Rattle.std.proofs.Common.{Some, None, option_map, sym, ap, ◌∙◌, subst, rules}
use Rattle.fluent_syntax_tree.specs.declared.ast.Expression.{the_lemmas}
use Rattle.fluent_syntax_tree.specs.Every.{inline_every, element_every, named_every, variant_every, maybe_every}
use Rattle.fluent_syntax_tree.specs.Tree.{arguments_of}
use Rattle.fluent_syntax_tree.proofs.Every.{item_of_every_list_has_it, every-Select, every-Inline}
use Rattle.fluent_syntax_tree.proofs.Every.{every-FunctionReference}
use Rattle.fluent_syntax_tree.proofs.Every.{every-TermReference, every-InlinePlaceable, every-Placeable, every-Variant}
use Rattle.fluent_syntax_tree.proofs.Every.{every-NamedArgument, every-Pattern, every-CallArguments}
use Rattle.fluent_syntax_tree.proofs.Lists.{maps_agree_on_push, maps_of_whole_prefix_agree}
use Rattle.fluent_syntax_tree.proofs.Views.{view-Pattern, view-Select, same-CallArguments, same-TermReference}
use Rattle.fluent_syntax_tree.specs.Tree.{elements_of}
use Rattle.fluent_syntax_tree.specs.View.{inline_view, element_view, arguments_view, named_view, variant_view}
use Rattle.fluent_syntax_tree.specs.declared.ast.CallArguments.{out-CallArguments}
use Rattle.fluent_syntax_tree.proofs.copied.patterns.+copied.Goals as goal

pub pattern-element-requires : goal.pattern-element-requires
pattern-element-requires g t c =
    let can = g.C.CopyTexts.can c.args.by.now in
    let each =
    item_of_every_list_has_it (element_every can) (element_view (λ x. x)) c.args.pattern.now.elements.items
    c.deref-item-items.result.now c.loop-item.item-index c.item-item.result
    (every-Pattern (λ x. x) can c.args.pattern.now c.requires.each) c.deref-item-items.ensures.value
    c.loop-item-test.true c.item-item.is in
    λ κs le. (search (rules, the_lemmas), (search rules, (search rules, (search rules, each))))

pub element-expression-requires : goal.element-expression-requires
element-expression-requires g t c =
    let each =
    every-Placeable (λ x. x) (g.C.CopyTexts.can c.args.by.now) c.args.element.now c.in-Placeable.inner
    c.in-Placeable.is c.requires.each in
    search (rules, the_lemmas)

pub expression-variant-requires : goal.expression-variant-requires
expression-variant-requires g t c =
    let can = g.C.CopyTexts.can c.args.by.now in
    let each =
    item_of_every_list_has_it (variant_every can) (variant_view (λ x. x)) c.in-Select.variants.items
    c.deref-item-items.result.now
    c.loop-item.item-index c.item-item.result
    (every-Select (λ x. x) can c.args.expression.now c.in-Select.selector c.in-Select.variants
    c.in-Select.is c.requires.each).1 c.deref-item-items.ensures.value c.loop-item-test.true c.item-item.is in
    search (rules, the_lemmas)

pub expression-inline-requires : goal.expression-inline-requires
expression-inline-requires g t c =
    let each =
    (every-Select (λ x. x) (g.C.CopyTexts.can c.args.by.now) c.args.expression.now c.in-Select.selector
    c.in-Select.variants c.in-Select.is c.requires.each).0 in
    search (rules, the_lemmas)

pub expression-inline-requires-in-Inline : goal.expression-inline-requires-in-Inline
expression-inline-requires-in-Inline g t c =
    let each =
    every-Inline (λ x. x) (g.C.CopyTexts.can c.args.by.now) c.args.expression.now c.in-Inline.inner c.in-Inline.is
    c.requires.each in
    search (rules, the_lemmas)

pub variant-pattern-requires : goal.variant-pattern-requires
variant-pattern-requires g t c =
    let each = (every-Variant (λ x. x) (g.C.CopyTexts.can c.args.by.now) c.args.variant.now c.requires.each).1 in
    search (rules, the_lemmas)

pub named_argument-inline-requires : goal.named_argument-inline-requires
named_argument-inline-requires g t c =
    let each = (every-NamedArgument (λ x. x) (g.C.CopyTexts.can c.args.by.now) c.args.argument.now c.requires.each).1 in
    search (rules, the_lemmas)

pub arguments-inline-requires : goal.arguments-inline-requires
arguments-inline-requires g t c =
    let can = g.C.CopyTexts.can c.args.by.now in
    let each =
    item_of_every_list_has_it (inline_every can) (inline_view (λ x. x))
    (out-CallArguments g.row.X.Denot c.args.arguments.now).positional.items c.deref-item-items.result.now
    c.loop-item.item-index c.item-item.result
    (every-CallArguments (λ x. x) can c.args.arguments.now c.requires.each).0
    c.deref-item-items.ensures.value c.loop-item-test.true c.item-item.is in
    search (rules, the_lemmas)

pub arguments-named_argument-requires : goal.arguments-named_argument-requires
arguments-named_argument-requires g t c =
    let can = g.C.CopyTexts.can c.args.by.now in
    let each =
    item_of_every_list_has_it (named_every can) (named_view (λ x. x))
    (out-CallArguments g.row.X.Denot c.args.arguments.now).named.items c.deref-item-items-2.result.now
    c.loop-item-2.item-index c.item-item-in-loop-item-2.result
    (every-CallArguments (λ x. x) can c.args.arguments.now c.requires.each).1
    c.deref-item-items-2.ensures.value c.loop-item-2-test.true c.item-item-in-loop-item-2.is in
    search (rules, the_lemmas)

pub inline-arguments-requires : goal.inline-arguments-requires
inline-arguments-requires g t c =
    let each =
    (every-FunctionReference (λ x. x) (g.C.CopyTexts.can c.args.by.now) c.args.inline.now c.in-FunctionReference.id
    c.in-FunctionReference.given c.in-FunctionReference.is c.requires.each).1 in
    search (rules, the_lemmas)

pub inline-arguments-requires-in-Some : goal.inline-arguments-requires-in-Some
inline-arguments-requires-in-Some g t c =
    let can = g.C.CopyTexts.can c.args.by.now in
    let all =
    (every-TermReference (λ x. x) can c.args.inline.now c.in-TermReference.id c.in-TermReference.of
    c.in-TermReference.given c.in-TermReference.is c.requires.each).2 in
    let each = subst (λ o. maybe_every can (arguments_of (option_map (arguments_view (λ x. x)) o))) c.in-Some.is all in
    search (rules, the_lemmas)

pub inline-expression-requires : goal.inline-expression-requires
inline-expression-requires g t c =
    let each =
    every-InlinePlaceable (λ x. x) (g.C.CopyTexts.can c.args.by.now) c.args.inline.now c.in-Placeable.inner
    c.in-Placeable.is c.requires.each in
    search (rules, the_lemmas)

pub arguments-loop-item-preserved : goal.arguments-loop-item-preserved
arguments-loop-item-preserved g t c =
    maps_agree_on_push (inline_view g.C.CopyTexts.made) (inline_view (g.C.CopyTexts.source c.args.by.now)) _ _
    c.in_ok-inline.field-0 _ c.loop-item.item-index c.item-item.result c.loop-item.invariant
    c.in_ok-push.ensures.items c.loop-item-test.true c.item-item.is c.in_ok-inline.ensures

pub pattern-loop-item-preserved : goal.pattern-loop-item-preserved
pattern-loop-item-preserved g t c =
    maps_agree_on_push (element_view g.C.CopyTexts.made) (element_view (g.C.CopyTexts.source c.args.by.now)) _ _
    c.in_ok-element.field-0 _ c.loop-item.item-index c.item-item.result c.loop-item.invariant
    c.in_ok-push.ensures.items c.loop-item-test.true c.item-item.is c.in_ok-element.ensures

pub pattern-returns : goal.pattern-returns
pattern-returns g t c =
    view-Pattern _ _
    ∙ ap elements_of
    (maps_of_whole_prefix_agree (element_view g.C.CopyTexts.made)
    (element_view (g.C.CopyTexts.source c.args.by.now))
    _ _ _ c.loop-item.item-index c.loop-item.invariant c.loop-item-test.false c.deref-item-items.ensures.value)
    ∙ sym (view-Pattern _ _)

pub arguments-loop-item-2-preserved : goal.arguments-loop-item-2-preserved
arguments-loop-item-2-preserved g t c = (
  c.loop-item-2.invariant.0,
  maps_agree_on_push (named_view g.C.CopyTexts.made) (named_view (g.C.CopyTexts.source c.args.by.now))
      _ _ c.in_ok-named_argument.field-0
      _ c.loop-item-2.item-index c.item-item-in-loop-item-2.result c.loop-item-2.invariant.1
      c.in_ok-push-2.ensures.items c.loop-item-2-test.true c.item-item-in-loop-item-2.is c.in_ok-named_argument.ensures,
)

pub expression-loop-item-preserved : goal.expression-loop-item-preserved
expression-loop-item-preserved g t c =
    maps_agree_on_push (variant_view g.C.CopyTexts.made) (variant_view (g.C.CopyTexts.source c.args.by.now)) _ _
    c.in_ok-variant-in-Select.field-0 _ c.loop-item.item-index c.item-item.result c.loop-item.invariant
    c.in_ok-push-in-Select.ensures.items c.loop-item-test.true c.item-item.is c.in_ok-variant-in-Select.ensures

pub arguments-returns : goal.arguments-returns
arguments-returns g t c =
    same-CallArguments g.C.CopyTexts.made (g.C.CopyTexts.source c.args.by.now) _ c.args.arguments.now
    c.loop-item-2.invariant.0 (maps_of_whole_prefix_agree (named_view g.C.CopyTexts.made)
    (named_view (g.C.CopyTexts.source c.args.by.now)) _ _ _ c.loop-item-2.item-index c.loop-item-2.invariant.1
    c.loop-item-2-test.false c.deref-item-items-2.ensures.value)

pub expression-returns-in_ok-inline-in-Select : goal.expression-returns-in_ok-inline-in-Select
expression-returns-in_ok-inline-in-Select g t c =
    let f = g.C.CopyTexts.made in
    let h = g.C.CopyTexts.source c.args.by.now in
    let vs =
    maps_of_whole_prefix_agree (variant_view f) (variant_view h) _ _ _ c.loop-item.item-index c.loop-item.invariant
    c.loop-item-test.false c.deref-item-items.ensures.value in
    cc (
      view-Select f c.in_ok-inline-in-Select.field-0 c.loop-item.copies,
      view-Select h c.in-Select.selector
          c.in-Select.variants,
      vs,
      c.in_ok-inline-in-Select.ensures,
      c.in-Select.is,
    )

pub inline-returns-in-None : goal.inline-returns-in-None
inline-returns-in-None g t c =
    same-TermReference g.C.CopyTexts.made (g.C.CopyTexts.source c.args.by.now) c.in_ok-id-in-TermReference.id
    c.in-TermReference.id c.in_ok-of-in-TermReference.of c.in-TermReference.of None c.in-TermReference.given
    c.args.inline.now c.in-TermReference.is c.in_ok-id-in-TermReference.ensures
    c.in_ok-of-in-TermReference.ensures
    (ap (option_map (arguments_view (g.C.CopyTexts.source c.args.by.now))) (sym c.in-None.is))

pub inline-returns-in_ok-arguments-in-Some : goal.inline-returns-in_ok-arguments-in-Some
inline-returns-in_ok-arguments-in-Some g t c =
    same-TermReference g.C.CopyTexts.made (g.C.CopyTexts.source c.args.by.now) c.in_ok-id-in-TermReference.id
    c.in-TermReference.id c.in_ok-of-in-TermReference.of c.in-TermReference.of
    (Some c.in_ok-arguments-in-Some.field-0) c.in-TermReference.given c.args.inline.now c.in-TermReference.is
    c.in_ok-id-in-TermReference.ensures c.in_ok-of-in-TermReference.ensures
    (ap Some c.in_ok-arguments-in-Some.ensures ∙
    ap (option_map (arguments_view (g.C.CopyTexts.source c.args.by.now))) (sym c.in-Some.is))
