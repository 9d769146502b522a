use Rattle.std.proofs.Common.{◌≡◌, ◌+◌, ◌*◌, Some, map, string_bytes}
use Rattle.serde_json.specs.Data.{depth}
use Rattle.serde_json.specs.View.{view}
use Rattle.fluent_syntax_tree.specs.View.{inline_view, element_view, named_view, variant_view}
use Rattle.fluent_syntax_json.specs.Reading.{inline_in, element_in, named_in, variant_in}
use Rattle.fluent_syntax_json.proofs.Items.{so_far}
use Rattle.fluent_syntax_json.proofs.reading.patterns.+reading.Given as goal

-- an expression reads itself as an inline one
abbrev pub decreases-pattern : goal.decreases-pattern
decreases-pattern l = 2 * depth (view l.v.now)

abbrev pub decreases-element : goal.decreases-element
decreases-element l = 2 * depth (view l.v.now)

abbrev pub decreases-expression : goal.decreases-expression
decreases-expression l = 2 * depth (view l.v.now) + 1

abbrev pub decreases-variant : goal.decreases-variant
decreases-variant l = 2 * depth (view l.v.now)

abbrev pub decreases-named_argument : goal.decreases-named_argument
decreases-named_argument l = 2 * depth (view l.v.now)

abbrev pub decreases-arguments : goal.decreases-arguments
decreases-arguments l = 2 * depth (view l.v.now)

abbrev pub decreases-inline : goal.decreases-inline
decreases-inline l = 2 * depth (view l.v.now)

abbrev pub invariant-pattern-loop-item : goal.invariant-pattern-loop-item
invariant-pattern-loop-item l =
    so_far element_in l.item-items l.item-index ≡ Some (map (element_view string_bytes) l.elements.items)

abbrev pub invariant-expression-loop-item : goal.invariant-expression-loop-item
invariant-expression-loop-item l = record {
  kept : l.selector ≡ l.initial.selector;
  read : so_far variant_in l.item-items l.item-index ≡ Some (map (variant_view string_bytes) l.variants.items);
}

abbrev pub invariant-arguments-loop-item : goal.invariant-arguments-loop-item
invariant-arguments-loop-item l =
    so_far inline_in l.item-items l.item-index ≡ Some (map (inline_view string_bytes) l.positional.items)

abbrev pub invariant-arguments-loop-item-2 : goal.invariant-arguments-loop-item-2
invariant-arguments-loop-item-2 l =
    so_far named_in l.item-items l.item-index ≡ Some (map (named_view string_bytes) l.nameds.items)
