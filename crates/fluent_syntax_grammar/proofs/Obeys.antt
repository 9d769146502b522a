-- What an expression that obeys the canonical rules says of its parts.
use Rattle.std.proofs.Common.{◌≡◌, true}
use Rattle.std.specs.Prelude.{◌&&◌}
use Rattle.fluent_syntax_tree.specs.Tree.{select, inline, InlineTree, VariantTrees}
use Rattle.fluent_syntax_tree.specs.declared.edition.Edition.{Edition}
use Rattle.fluent_syntax_grammar.specs.Written.{Text}
use Rattle.fluent_syntax_grammar.specs.Rules.{expression_obeys, inline_obeys, variants_obey}
use Rattle.fluent_syntax_grammar.specs.Readable.{is_expression}
use Rattle.fluent_syntax_grammar.specs.Canonical.{canonical_rules, has_one_default}
use Rattle.fluent_syntax_grammar.proofs.Facts.{and_gives_right}

module _ (edition : Edition) where
  pub expression_obeys_inline : (e : InlineTree Text) → expression_obeys (canonical_rules edition) (inline e) ≡ true →
      inline_obeys (canonical_rules edition) e ≡ true
  expression_obeys_inline e h = and_gives_right (is_expression (inline e) && has_one_default (inline e)) _ h

  pub parts_of_canonical_select_obey : (e : InlineTree Text) (vs : VariantTrees Text) →
      expression_obeys (canonical_rules edition) (select e vs) ≡ true →
      (inline_obeys (canonical_rules edition) e && variants_obey (canonical_rules edition) vs) ≡ true
  parts_of_canonical_select_obey e vs h =
      and_gives_right (is_expression (select e vs) && has_one_default (select e vs)) _ h
