use Rattle.std.proofs.Common.{◌≡◌, map, take, string_bytes}
use Rattle.serde_json.specs.View.{view}
use Rattle.fluent_syntax_tree.specs.View.{inline_view, element_view, named_view, variant_view}
use Rattle.fluent_syntax_json.specs.Form.{inline_form, element_form, named_form, variant_form}
use Rattle.fluent_syntax_json.proofs.form.patterns.+form.Given as goal

abbrev pub invariant-pattern-loop-item : goal.invariant-pattern-loop-item
invariant-pattern-loop-item l =
    map view l.list.items ≡ map (λ x. element_form (element_view string_bytes x)) (take l.item-index l.item-items)

abbrev pub invariant-expression-loop-item : goal.invariant-expression-loop-item
invariant-expression-loop-item l =
    map view l.list.items ≡ map (λ x. variant_form (variant_view string_bytes x)) (take l.item-index l.item-items)

abbrev pub invariant-arguments-loop-item : goal.invariant-arguments-loop-item
invariant-arguments-loop-item l =
    map view l.positional.items ≡ map (λ x. inline_form (inline_view string_bytes x)) (take l.item-index l.item-items)

abbrev pub invariant-arguments-loop-item-2 : goal.invariant-arguments-loop-item-2
invariant-arguments-loop-item-2 l =
    map view l.nameds.items ≡ map (λ x. named_form (named_view string_bytes x)) (take l.item-index l.item-items)
