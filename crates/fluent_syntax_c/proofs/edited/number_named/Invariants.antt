use Rattle.std.proofs.Common.{◌≡◌, ◌+◌, drop, map}
use Rattle.fluent_syntax_tree.specs.View.{attribute_view}
use Rattle.fluent_syntax_c.specs.Edits.{attribute_number}
use Rattle.fluent_syntax_c.proofs.edited.number_named.Given as goal

abbrev pub invariant-loop-number : goal.invariant-loop-number
invariant-loop-number l =
    let view = attribute_view (λ text. text.now) in
    record {
      rest :
          l.number + attribute_number l.name (map view (drop l.number l.attributes))
          ≡ attribute_number l.name (map view l.attributes);
    }
