-- The placeable that was added last.
use Rattle.std.proofs.Common.{◌≡◌, List, [], ◌∷◌, ◌++◌, ◌-◌, length, None, Some, Option, refl, sym, ap, ◌∙◌, arith}
use Rattle.std.specs.Prelude.{slice_get}
use Rattle.std.proofs.lemmas.List.{length_push}
use Rattle.fluent_syntax_tree.specs.Tree.{ElementTree, ExpressionTree, InlineTree, inline, placeable, text_element}
use Rattle.fluent_syntax_tree.specs.View.{element_view, expression_view, inline_view}
use Rattle.fluent_syntax_tree.proofs.Views.{view-Inline, view-Placeable, view-TextElement}
use Rattle.fluent_syntax_tree.specs.declared.ast.Expression.{Expression, Inline}
use Rattle.fluent_syntax_tree.specs.declared.ast.InlineExpression.{InlineExpression}
use Rattle.fluent_syntax_tree.specs.declared.ast.PatternElement.{PatternElement, Placeable, TextElement}
use Rattle.fluent_syntax_parser.specs.Last.{AddsPlaced}

item_is_last : {A : Type 0} (xs : List A) (x : A) → slice_get (xs ++ x ∷ []) (length xs) ≡ Some x
item_is_last [] x = refl
item_is_last (y ∷ ys) x = item_is_last ys x

abbrev option_value_or : {A : Type 0} → A → Option A → A
option_value_or a None = a
option_value_or a (Some b) = b

-- what is at the last place of a list is what was added last
pub last_is_appended_item : {A : Type 0} (all xs : List A) (x y : A) → all ≡ xs ++ x ∷ [] →
    Some y ≡ slice_get all (length all - 1) → y ≡ x
last_is_appended_item all xs x y pushed there =
    let before : length all - 1 ≡ length xs = omega (arith, length_push xs x, ap length pushed) in
    ap (option_value_or y)
    (there ∙ ap (slice_get all) before ∙ ap (λ ys. slice_get ys (length xs)) pushed ∙ item_is_last xs x)

abbrev placed_or : {X : Type 0} → ExpressionTree X → ElementTree X → ExpressionTree X
placed_or e (placeable d) = d
placed_or e (text_element s) = e

text_is_not_placeable : {X : Type 0} {s : X} {tree : ExpressionTree X} → text_element s ≡ placeable tree → ⊥
text_is_not_placeable h = cc

module _ {S X : Type 0} (v : S → X) where
  -- a placeable was added
  pub pushed_inline_is_added_as_placeable : (x : InlineExpression S)
      (old new : List (PatternElement S)) {tree : InlineTree X} →
      new ≡ old ++ Placeable (Inline x) ∷ [] → inline_view v x ≡ tree → AddsPlaced v old new (inline tree)
  pushed_inline_is_added_as_placeable x old new pushed same =
      (_, pushed, view-Placeable v (Inline x) ∙ ap placeable (view-Inline v x ∙ ap inline same))

  pub pushed_placeable_is_added : (x : Expression S) (old new : List (PatternElement S)) {tree : ExpressionTree X} →
      new ≡ old ++ Placeable x ∷ [] → expression_view v x ≡ tree → AddsPlaced v old new tree
  pushed_placeable_is_added x old new pushed same = (_, pushed, view-Placeable v x ∙ ap placeable same)

  pub added_placeable_has_equal_tree : (old new : List (PatternElement S))
      (tree : ExpressionTree X) {other : ExpressionTree X} →
      AddsPlaced v old new tree → tree ≡ other → AddsPlaced v old new other
  added_placeable_has_equal_tree old new tree (e, pushed, seen) same = (e, pushed, seen ∙ ap placeable same)

  -- in a list that is the same
  pub expression_is_placed_in_equal_list : (old : List (PatternElement S)) {new all : List (PatternElement S)}
      (tree : ExpressionTree X) →
      all ≡ new → AddsPlaced v old new tree → AddsPlaced v old all tree
  expression_is_placed_in_equal_list old tree same (e, pushed, seen) = (e, same ∙ pushed, seen)

  -- the placeable that was added represents that expression
  pub element_of_placeable_has_its_tree : (x : Expression S) {e : PatternElement S} {tree : ExpressionTree X} →
      Placeable x ≡ e → element_view v e ≡ placeable tree → expression_view v x ≡ tree
  element_of_placeable_has_its_tree x {tree = tree} is seen =
      ap (placed_or tree) (sym (view-Placeable v x) ∙ ap (element_view v) is ∙ seen)

  -- it is no text
  pub text_element_is_no_placeable : (s : S) {e : PatternElement S} {tree : ExpressionTree X} → TextElement s ≡ e →
      element_view v e ≡ placeable tree → ⊥
  text_element_is_no_placeable s is seen =
      text_is_not_placeable (sym (view-TextElement v s) ∙ ap (element_view v) is ∙ seen)
