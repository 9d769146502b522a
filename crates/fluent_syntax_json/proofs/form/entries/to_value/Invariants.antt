use Rattle.std.proofs.Common.{◌≡◌, map, take, string_bytes}
use Rattle.serde_json.specs.View.{view}
use Rattle.fluent_syntax_tree.specs.View.{entry_view}
use Rattle.fluent_syntax_json.specs.Form.{entry_form}
use Rattle.fluent_syntax_json.proofs.form.entries.to_value.Given as goal

abbrev pub invariant-loop-item : goal.invariant-loop-item
invariant-loop-item l =
    map view l.list.items ≡ map (λ x. entry_form (entry_view string_bytes x)) (take l.item-index l.item-items)
