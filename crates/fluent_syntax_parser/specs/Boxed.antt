-- The tree that an expression in a box represents.
use Rattle.std.specs.Prelude.{◌≡◌, Box}
use Rattle.std.specs.Global.{Global}
use Rattle.fluent_syntax_tree.specs.Tree.{ExpressionTree, InlineTree, inline, inline_map}
use Rattle.fluent_syntax_tree.specs.View.{expression_view}
use Rattle.fluent_syntax_tree.specs.declared.ast.Expression.{Expression}
use Rattle.fluent_syntax_tree.specs.declared.spans.Span.{Span}

module _ {S X : Type 0} (text : S → X) where
  abbrev pub boxed_expression_view : Box (Expression S) Global → ExpressionTree X
  boxed_expression_view e = expression_view text e.value

  -- it is an inline expression
  abbrev pub IsInline : Expression S → Type 0
  IsInline e = (there : InlineTree X) × (expression_view text e ≡ inline there)

-- an inline expression as an expression, with f of each text in its place
abbrev pub mapped_inline : {X : Type 0} → (Span → X) → InlineTree Span → ExpressionTree X
mapped_inline f e = inline (inline_map f e)
