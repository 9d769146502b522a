use Rattle.std.proofs.Common.{List, map, drop, false}
use Rattle.serde_json.specs.View.{items_of}
use Rattle.serde_json.specs.Written.{items_text}
use Rattle.fluent_syntax_tree.specs.View.{attribute_view}
use Rattle.fluent_syntax_tree.specs.declared.ast.Attribute.{Attribute}
use Rattle.fluent_syntax_grammar.proofs.Remaining.{RemainingBytes}
use Rattle.fluent_syntax_json.specs.Form.{attribute_form}
use Rattle.fluent_syntax_json.proofs.writing.entries.write_attributes.Given as goal

abbrev pub invariant-loop-attribute : goal.invariant-loop-attribute
invariant-loop-attribute g l =
    let forms = λ (xs : List (Attribute g.row.X.Denot)).
    items_of (map attribute_form (map (attribute_view g.T.ReadTexts.text) xs)) in
    let left = items_text l.later (forms (drop l.attribute-index l.attributes)) in
    let all = items_text false (forms l.attributes) in
    record { rest : RemainingBytes g.W.TextSink.text g.W.TextSink.room l.initial.writer l.writer left all }
