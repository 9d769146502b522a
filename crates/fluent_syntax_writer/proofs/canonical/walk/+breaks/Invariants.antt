use Rattle.std.proofs.Common.{◌≡◌, ◌&&◌, List, drop, map}
use Rattle.fluent_syntax_tree.specs.declared.ast.PatternElement.{PatternElement}
use Rattle.fluent_syntax_tree.specs.declared.ast.Variant.{Variant}
use Rattle.fluent_syntax_tree.specs.declared.ast.InlineExpression.{InlineExpression}
use Rattle.fluent_syntax_tree.specs.declared.ast.NamedArgument.{NamedArgument}
use Rattle.fluent_syntax_tree.specs.Tree.{elements_of, variants_of, inlines_of, nameds_of}
use Rattle.fluent_syntax_tree.specs.View.{element_view, variant_view, inline_view, named_view}
use Rattle.fluent_syntax_grammar.specs.Rules.{elements_obey, variants_obey, inlines_obey, named_arguments_obey}
use Rattle.fluent_syntax_writer.specs.RuleSets.{keeps}
use Rattle.fluent_syntax_writer.specs.SingleRule.{single_rule}
use Rattle.fluent_syntax_writer.specs.declared.canonical.rules.Rule.{Rule}
use Rattle.fluent_syntax_writer.proofs.canonical.walk.+breaks.Given as goal

abbrev pub invariant-elements_break-loop-element : goal.invariant-elements_break-loop-element
invariant-elements_break-loop-element g l =
    let obey = λ (rule : Rule) (nodes : List (PatternElement g.row.X.Denot)).
    elements_obey (single_rule l.check.edition rule) (elements_of (map (element_view g.T.ReadTexts.text) nodes)) in
    record {
      rest : (rule : Rule)
          → (keeps l.broken rule && obey rule (drop l.element-index l.elements)) ≡ obey rule l.elements;
    }

abbrev pub invariant-variants_break-loop-variant : goal.invariant-variants_break-loop-variant
invariant-variants_break-loop-variant g l =
    let obey = λ (rule : Rule) (nodes : List (Variant g.row.X.Denot)).
    variants_obey (single_rule l.check.edition rule) (variants_of (map (variant_view g.T.ReadTexts.text) nodes)) in
    record {
      rest : (rule : Rule)
          → (keeps l.broken rule && obey rule (drop l.variant-index l.variants)) ≡ obey rule l.variants;
    }

abbrev pub invariant-inlines_break-loop-inline : goal.invariant-inlines_break-loop-inline
invariant-inlines_break-loop-inline g l =
    let obey = λ (rule : Rule) (nodes : List (InlineExpression g.row.X.Denot)).
    inlines_obey (single_rule l.check.edition rule) (inlines_of (map (inline_view g.T.ReadTexts.text) nodes)) in
    record {
      rest : (rule : Rule)
          → (keeps l.broken rule && obey rule (drop l.inline-index l.inlines)) ≡ obey rule l.inlines;
    }

abbrev pub invariant-named_arguments_break-loop-named : goal.invariant-named_arguments_break-loop-named
invariant-named_arguments_break-loop-named g l =
    let obey = λ (rule : Rule) (nodes : List (NamedArgument g.row.X.Denot)).
    named_arguments_obey (single_rule l.check.edition rule) (nameds_of (map (named_view g.T.ReadTexts.text) nodes)) in
    record {
      rest : (rule : Rule)
          → (keeps l.broken rule && obey rule (drop l.named-index l.nameds)) ≡ obey rule l.nameds;
    }
