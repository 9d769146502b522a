use Rattle.std.proofs.Common.{◌≡◌, map, take, string_bytes}
use Rattle.serde_json.specs.View.{view}
use Rattle.fluent_syntax_tree.specs.View.{attribute_view}
use Rattle.fluent_syntax_json.specs.Form.{attribute_form}
use Rattle.fluent_syntax_json.proofs.form.entries.attributes.Given as goal

abbrev pub invariant-loop-item : goal.invariant-loop-item
invariant-loop-item l =
    map view l.list.items ≡ map (λ x. attribute_form (attribute_view string_bytes x)) (take l.item-index l.item-items)
