use Rattle.std.proofs.Common.{◌≡◌, map, option_map, take, drop, string_bytes}
use Rattle.fluent_syntax_tree.specs.Tree.{elements_of}
use Rattle.fluent_syntax_tree.specs.View.{inline_view, element_view, named_view, variant_view}
use Rattle.fluent_syntax_tree.specs.declared.ast.CallArguments.{out-CallArguments}
use Rattle.fluent_syntax_grammar.specs.Joined.{joined_inline, joined_named, joined_pattern, joined_variant}
use Rattle.fluent_syntax_writer.specs.Joining.{before_pattern, joined_from}
use Rattle.fluent_syntax_writer.proofs.joined.patterns.+joined.Given as goal

abbrev pub invariant-arguments-loop-item : goal.invariant-arguments-loop-item
invariant-arguments-loop-item g l =
    map (inline_view string_bytes) l.positional.items
    ≡ map (λ e. joined_inline (inline_view g.T.ReadTexts.text e)) (take l.item-index l.item-items)

abbrev pub invariant-arguments-loop-item-2 : goal.invariant-arguments-loop-item-2
invariant-arguments-loop-item-2 g l =
    (map (inline_view string_bytes) l.positional.items
    ≡ map (λ e. joined_inline (inline_view g.T.ReadTexts.text e))
    (out-CallArguments g.row.X.Denot l.arguments).positional.items)
    × (map (named_view string_bytes) l.nameds.items
    ≡ map (λ a. joined_named (named_view g.T.ReadTexts.text a)) (take l.item-index l.item-items))

abbrev pub invariant-expression-loop-item : goal.invariant-expression-loop-item
invariant-expression-loop-item g l =
    map (variant_view string_bytes) l.copies.items
    ≡ map (λ v. joined_variant (variant_view g.T.ReadTexts.text v)) (take l.item-index l.item-items)

abbrev pub invariant-pattern-loop-item : goal.invariant-pattern-loop-item
invariant-pattern-loop-item g l =
    joined_pattern (elements_of (map (element_view g.T.ReadTexts.text) l.item-items))
    ≡ before_pattern (map (element_view string_bytes) l.elements.items)
    (joined_from (option_map string_bytes l.last)
    (elements_of (map (element_view g.T.ReadTexts.text) (drop l.item-index l.item-items))))
