use Rattle.std.proofs.Common.{◌≡◌, ap, arith, length, string_bytes}
use Rattle.std.specs.Vec.{vec_len}
use Rattle.fluent_syntax_tree.specs.View.{attribute_view, pattern_view}
use Rattle.fluent_syntax_tree.specs.declared.ast.Attribute.{Attribute}
use Rattle.fluent_syntax_edits.proofs.Numbered.{past_end_at_number_changes_nothing, setting_item_changes_it_at_number}
use Rattle.fluent_syntax_edits.proofs.apply_edit.set_attribute.Goals as goal

pub returns-then-number-len : goal.returns-then-number-len
returns-then-number-len c =
    let attributes = c.args.attributes.now in
    let v = pattern_view (λ s. string_bytes s) c.args.value in
    let size : length attributes.items ≡ vec_len attributes = omega (arith, attributes.ok.0) in
    setting_item_changes_it_at_number (attribute_view (λ s. string_bytes s)) (λ a. record a { value = v }) c.args.number
    attributes.items _ _
    (omega (arith, size, c.len.ensures, c.if-number-len.true))
    (ap (λ (a : Attribute _). attribute_view (λ s. string_bytes s) (record { id = a.id; value = c.args.value }))
    c.index_mut.ensures.value)

pub returns-else-number-len : goal.returns-else-number-len
returns-else-number-len c =
    let attributes = c.args.attributes.now in
    let size : length attributes.items ≡ vec_len attributes = omega (arith, attributes.ok.0) in
    past_end_at_number_changes_nothing _ _ c.args.number attributes.items
    (omega (arith, size, c.len.ensures, c.if-number-len.false))
