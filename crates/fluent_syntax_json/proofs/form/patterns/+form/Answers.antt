use Rattle.std.proofs.Common.{string_bytes}
use Rattle.fluent_syntax_tree.specs.declared.ast.CallArguments.{out-CallArguments}
use Rattle.fluent_syntax_tree.specs.View.{inline_view, element_view, named_view, variant_view}
use Rattle.fluent_syntax_tree.proofs.Views.{view-Pattern, view-Select, view-Variant, view-CallArguments}
use Rattle.fluent_syntax_tree.proofs.Views.{view-TermReference}
use Rattle.fluent_syntax_json.proofs.Forms.{view-Null, view-Bool, elements-made, variants-made, inlines-made}
use Rattle.fluent_syntax_json.proofs.Forms.{nameds-made}
use Rattle.fluent_syntax_json.proofs.form.patterns.+form.Goals as goal

pub pattern-returns : goal.pattern-returns
pattern-returns t c =
    let made =
    elements-made c.loop-item.list _ c.args.pattern.now.elements.items c.loop-item.item-index
    (element_view string_bytes) c.loop-item.invariant c.loop-item-test.false c.deref-item-items.ensures.value in
    rw (c.into_value.ensures, c.in_ok-with.ensures, c.new.ensures, made, view-Pattern)

pub variant-returns : goal.variant-returns
variant-returns t c =
    rw (
      c.into_value.ensures,
      c.in_ok-with-3.ensures,
      c.in_ok-with-2.ensures,
      c.in_ok-with.ensures,
      c.in_ok-of_type.ensures,
      c.in_ok-key.ensures,
      c.in_ok-pattern.ensures,
      view-Bool,
      view-Variant,
    )

pub arguments-returns : goal.arguments-returns
arguments-returns t c =
    let ps =
    inlines-made c.loop-item.positional _ (out-CallArguments _ c.args.arguments.now).positional.items
    c.loop-item.item-index (inline_view string_bytes) c.loop-item.invariant c.loop-item-test.false
    c.deref-item-items.ensures.value in
    let ns =
    nameds-made c.loop-item-2.nameds _ (out-CallArguments _ c.args.arguments.now).named.items
    c.loop-item-2.item-index (named_view string_bytes) c.loop-item-2.invariant c.loop-item-2-test.false
    c.deref-item-items-2.ensures.value in
    rw (
      c.into_value.ensures,
      c.in_ok-with-2.ensures,
      c.in_ok-with.ensures,
      c.in_ok-of_type.ensures,
      ps,
      ns,
      view-CallArguments,
    )

pub expression-returns-in_ok-with-in-Select-2 : goal.expression-returns-in_ok-with-in-Select-2
expression-returns-in_ok-with-in-Select-2 t c =
    let made =
    variants-made c.loop-item.list _ c.in-Select.variants.items c.loop-item.item-index (variant_view string_bytes)
    c.loop-item.invariant c.loop-item-test.false c.deref-item-items.ensures.value in
    rw (
      c.into_value.ensures,
      c.in_ok-with-in-Select-2.ensures,
      c.in_ok-with-in-Select.ensures,
      c.new.ensures,
      c.in_ok-inline-in-Select.ensures,
      made,
      c.in-Select.is,
      view-Select,
    )

pub inline-returns-in_ok-with-in-None : goal.inline-returns-in_ok-with-in-None
inline-returns-in_ok-with-in-None t c =
    rw (
      c.into_value-in-None.ensures,
      c.in_ok-with-in-None.ensures,
      c.in_ok-object-in-TermReference.ensures,
      c.in_ok-with-in-TermReference.ensures,
      c.in_ok-of_type-in-TermReference.ensures,
      c.in_ok-identifier-in-TermReference.ensures,
      c.in_ok-attribute_name-in-TermReference.ensures,
      view-Null,
      c.in-TermReference.is,
      view-TermReference,
      c.in-None.is,
    )
