-- The inline expression that an expression is.
use Rattle.std.proofs.Common.{◌≡◌, ◌∙◌, ap, sym}
use Rattle.std.specs.Prelude.{Vec}
use Rattle.std.specs.Global.{Global}
use Rattle.fluent_syntax_tree.specs.Tree.{ExpressionTree, InlineTree, VariantTrees, inline, select}
use Rattle.fluent_syntax_tree.specs.View.{expression_view, inline_view}
use Rattle.fluent_syntax_tree.proofs.Views.{view-Select}
use Rattle.fluent_syntax_tree.specs.declared.ast.Expression.{Expression, Select}
use Rattle.fluent_syntax_tree.specs.declared.ast.InlineExpression.{InlineExpression}
use Rattle.fluent_syntax_tree.specs.declared.ast.Variant.{Variant}

abbrev inline_tree_or : {X : Type 0} → InlineTree X → ExpressionTree X → InlineTree X
inline_tree_or b (inline e) = e
inline_tree_or b (select e vs) = b

select_is_no_inline : {X : Type 0} {e b : InlineTree X} {vs : VariantTrees X} → select e vs ≡ inline b → ⊥
select_is_no_inline h = cc

module _ {S X : Type 0} (v : S → X) where
  -- what was read as that expression
  pub inline_expression_is_seen_as_inline : {d e : Expression S} (x : InlineExpression S) {b : InlineTree X} → d ≡ e →
      expression_view v d ≡ inline (inline_view v x) → expression_view v e ≡ inline b → inline_view v x ≡ b
  inline_expression_is_seen_as_inline x {b = b} is seen read =
      ap (inline_tree_or b) (sym seen ∙ ap (expression_view v) is ∙ read)

  -- it is no select
  pub view_of_select_is_no_inline : {d : Expression S} {b : InlineTree X} (e : InlineExpression S)
      (vs : Vec (Variant S) Global) → d ≡ Select e vs → expression_view v d ≡ inline b → ⊥
  view_of_select_is_no_inline e vs is read =
      select_is_no_inline (sym (view-Select v e vs) ∙ ap (expression_view v) (sym is) ∙ read)
