use Rattle.std.proofs.Common.{◌≡◌, ◌&&◌, List, drop, map}
use Rattle.std.specs.List.{list_all}
use Rattle.fluent_syntax_tree.specs.declared.ast.Attribute.{Attribute}
use Rattle.fluent_syntax_tree.specs.View.{attribute_view}
use Rattle.fluent_syntax_grammar.specs.Rules.{attribute_obeys}
use Rattle.fluent_syntax_writer.specs.RuleSets.{keeps}
use Rattle.fluent_syntax_writer.specs.SingleRule.{single_rule}
use Rattle.fluent_syntax_writer.specs.declared.canonical.rules.Rule.{Rule}
use Rattle.fluent_syntax_writer.proofs.canonical.walk.attributes_break.Given as goal

abbrev pub invariant-loop-attribute : goal.invariant-loop-attribute
invariant-loop-attribute g l =
    let obey = λ (rule : Rule) (nodes : List (Attribute g.row.X.Denot)).
    list_all (attribute_obeys (single_rule l.check.edition rule)) (map (attribute_view g.T.ReadTexts.text) nodes) in
    record {
      rest : (rule : Rule)
          → (keeps l.broken rule && obey rule (drop l.attribute-index l.attributes)) ≡ obey rule l.attributes;
    }
