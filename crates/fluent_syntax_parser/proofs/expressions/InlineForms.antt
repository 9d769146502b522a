-- What is asked of an inline expression, by its form.
use Rattle.std.proofs.Common.{◌≡◌, Option, Some, None, option_map, true, false, is_some, Box, Global, refl, ap}
use Rattle.std.proofs.Common.{◌∙◌, subst}
use Rattle.fluent_syntax_tree.specs.Kind.{MessageReferenceAsSelector, TermReferenceAsSelector}
use Rattle.fluent_syntax_tree.specs.Kind.{MessageAttributeAsSelector, ExpectedSimpleExpressionAsSelector}
use Rattle.fluent_syntax_tree.specs.Tree.{InlineTree}
use Rattle.fluent_syntax_tree.specs.View.{identifier_view, inline_step, expression_view, inline_view, element_view}
use Rattle.fluent_syntax_tree.specs.View.{arguments_view, named_view, pattern_view, variant_view}
use Rattle.fluent_syntax_tree.proofs.Views.{view-MessageReference, view-TermReference, view-InlinePlaceable}
use Rattle.fluent_syntax_tree.proofs.Views.{view-roll-InlineExpression}
use Rattle.fluent_syntax_tree.specs.declared.ast.Identifier.{Identifier}
use Rattle.fluent_syntax_tree.specs.declared.ast.CallArguments.{CallArguments}
use Rattle.fluent_syntax_tree.specs.declared.ast.Expression.{Expression}
use Rattle.fluent_syntax_tree.specs.declared.ast.Expression.TheOpen as layer
use Rattle.fluent_syntax_tree.specs.declared.ast.Expression.TheOpen.{InlineExpression-F}
use Rattle.fluent_syntax_tree.specs.declared.ast.InlineExpression as inl
use Rattle.fluent_syntax_tree.specs.declared.ast.InlineExpression.{InlineExpression, roll-InlineExpression}
use Rattle.fluent_syntax_tree.specs.declared.ast.InlineExpression.{out-InlineExpression, roll-out-InlineExpression}
use Rattle.fluent_syntax_tree.specs.declared.ast.InlineExpression.{map-InlineExpression}
use Rattle.fluent_syntax_grammar.specs.Expressions.{selector_fault, is_term_attribute}
use Rattle.fluent_syntax_parser.proofs.expressions.ArgumentNames.{is_name}
use denote.Hole.Carrier as carrier

module _ {S X : Type 0} (v : S → X) where
  -- an expression is of one of the forms
  claim_of_all_forms_holds_of_inline : (P : InlineExpression S → Type 0) →
      ((z : InlineExpression-F S _ _ _ _ _ _ _) → P (roll-InlineExpression S z)) → (e : InlineExpression S) → P e
  claim_of_all_forms_holds_of_inline P f e = subst P (roll-out-InlineExpression S e) (f (out-InlineExpression S e))

  module _ (i : Identifier S) where
    pub message_reference_is_name : (o : Option (Identifier S)) → o ≡ None →
        is_name (inline_view v (inl.MessageReference i o)) ≡ true
    message_reference_is_name o e = rw (view-MessageReference v i o, e) refl

    pub no_name_of_attribute : (o : Option (Identifier S)) (a : Identifier S) → o ≡ Some a →
        is_name (inline_view v (inl.MessageReference i o)) ≡ false
    no_name_of_attribute o a e = rw (view-MessageReference v i o, e) refl

    pub message_as_selector_has_fault : (o : Option (Identifier S)) → o ≡ None →
        selector_fault (inline_view v (inl.MessageReference i o)) ≡ Some MessageReferenceAsSelector
    message_as_selector_has_fault o e = rw (view-MessageReference v i o, e) refl

    pub message_attribute_as_selector_has_fault : (o : Option (Identifier S)) (a : Identifier S) → o ≡ Some a →
        selector_fault (inline_view v (inl.MessageReference i o)) ≡ Some MessageAttributeAsSelector
    message_attribute_as_selector_has_fault o a e = rw (view-MessageReference v i o, e) refl

    pub term_as_selector_has_fault : (o : Option (Identifier S)) (c : Option (CallArguments S)) → o ≡ None →
        selector_fault (inline_view v (inl.TermReference i o c)) ≡ Some TermReferenceAsSelector
    term_as_selector_has_fault o c e = rw (view-TermReference v i o c, e) refl

    pub no_fault_of_term : (o : Option (Identifier S)) (c : Option (CallArguments S)) (a : Identifier S) →
        o ≡ Some a → selector_fault (inline_view v (inl.TermReference i o c)) ≡ None
    no_fault_of_term o c a e = rw (view-TermReference v i o c, e) refl

    view_keeps_is_some_name : (o : Option (Identifier S)) → is_some (option_map (identifier_view v) o) ≡ is_some o
    view_keeps_is_some_name None = refl
    view_keeps_is_some_name (Some a) = refl

    pub term_with_attribute_is_term_attribute : (o : Option (Identifier S)) (c : Option (CallArguments S)) →
        is_term_attribute (inline_view v (inl.TermReference i o c)) ≡ is_some o
    term_with_attribute_is_term_attribute o c = rw (view-TermReference v i o c) (view_keeps_is_some_name o)

  pub placeable_as_selector_has_fault : (e : Box (Expression S) Global) →
      selector_fault (inline_view v (inl.Placeable e)) ≡ Some ExpectedSimpleExpressionAsSelector
  placeable_as_selector_has_fault e = rw (view-InlinePlaceable v e) refl

  -- what an expression of a form answers
  by_view : {A : Type 0} (f : InlineTree X → A) (a : A) (z : InlineExpression-F S _ _ _ _ _ _ _) →
      f (inline_step v (map-InlineExpression S _ _ _ _ _ _ _ _ _ _ _ _ _ _ (expression_view v)
      (inline_view v) (element_view v) (arguments_view v) (named_view v)
      (pattern_view v) (variant_view v) z)) ≡ a →
      f (inline_view v (roll-InlineExpression S z)) ≡ a
  by_view f a z e = ap f (view-roll-InlineExpression v z) ∙ e

  -- it is none of that form
  abbrev IsNoMessage : InlineExpression S → Type 0
  IsNoMessage e = (i : Identifier S) (o : Option (Identifier S)) → e ≡ inl.MessageReference i o → ⊥

  abbrev IsNoTerm : InlineExpression S → Type 0
  IsNoTerm e =
      (i : Identifier S) (o : Option (Identifier S)) (a : Option (CallArguments S)) → e ≡ inl.TermReference i o a
      → ⊥

  abbrev IsNoPlaceable : InlineExpression S → Type 0
  IsNoPlaceable e = (b : Box (Expression S) Global) → e ≡ inl.Placeable b → ⊥

  no_name_by_form : (z : InlineExpression-F S _ _ _ _ _ _ _) → IsNoMessage (roll-InlineExpression S z) →
      is_name (inline_view v (roll-InlineExpression S z)) ≡ false
  unfolding roll-InlineExpression carrier.roll
  no_name_by_form (layer.StringLiteral x) h = by_view is_name false (layer.StringLiteral x) refl
  no_name_by_form (layer.NumberLiteral x) h = by_view is_name false (layer.NumberLiteral x) refl
  no_name_by_form (layer.FunctionReference i a) h = by_view is_name false (layer.FunctionReference i a) refl
  no_name_by_form (layer.MessageReference i o) h = absurd (h i o refl)
  no_name_by_form (layer.TermReference i o a) h = by_view is_name false (layer.TermReference i o a) refl
  no_name_by_form (layer.VariableReference i) h = by_view is_name false (layer.VariableReference i) refl
  no_name_by_form (layer.InlineExpression::Placeable e) h =
      by_view is_name false (layer.InlineExpression::Placeable e) refl

  no_term_by_form : (z : InlineExpression-F S _ _ _ _ _ _ _) → IsNoTerm (roll-InlineExpression S z) →
      is_term_attribute (inline_view v (roll-InlineExpression S z)) ≡ false
  unfolding roll-InlineExpression carrier.roll
  no_term_by_form (layer.StringLiteral x) h = by_view is_term_attribute false (layer.StringLiteral x) refl
  no_term_by_form (layer.NumberLiteral x) h = by_view is_term_attribute false (layer.NumberLiteral x) refl
  no_term_by_form (layer.FunctionReference i a) h = by_view is_term_attribute false (layer.FunctionReference i a) refl
  no_term_by_form (layer.MessageReference i o) h = by_view is_term_attribute false (layer.MessageReference i o) refl
  no_term_by_form (layer.TermReference i o a) h = absurd (h i o a refl)
  no_term_by_form (layer.VariableReference i) h = by_view is_term_attribute false (layer.VariableReference i) refl
  no_term_by_form (layer.InlineExpression::Placeable e) h =
      by_view is_term_attribute false (layer.InlineExpression::Placeable e) refl

  no_fault_by_form : (z : InlineExpression-F S _ _ _ _ _ _ _) → IsNoMessage (roll-InlineExpression S z) →
      IsNoTerm (roll-InlineExpression S z) → IsNoPlaceable (roll-InlineExpression S z) →
      selector_fault (inline_view v (roll-InlineExpression S z)) ≡ None
  unfolding roll-InlineExpression carrier.roll
  no_fault_by_form (layer.StringLiteral x) h k l = by_view selector_fault None (layer.StringLiteral x) refl
  no_fault_by_form (layer.NumberLiteral x) h k l = by_view selector_fault None (layer.NumberLiteral x) refl
  no_fault_by_form (layer.FunctionReference i a) h k l = by_view selector_fault None (layer.FunctionReference i a) refl
  no_fault_by_form (layer.MessageReference i o) h k l = absurd (h i o refl)
  no_fault_by_form (layer.TermReference i o a) h k l = absurd (k i o a refl)
  no_fault_by_form (layer.VariableReference i) h k l = by_view selector_fault None (layer.VariableReference i) refl
  no_fault_by_form (layer.InlineExpression::Placeable e) h k l = absurd (l e refl)

  pub inline_but_message_is_no_name : (e : InlineExpression S) → IsNoMessage e → is_name (inline_view v e) ≡ false
  inline_but_message_is_no_name =
      claim_of_all_forms_holds_of_inline (λ e. IsNoMessage e → is_name (inline_view v e) ≡ false) no_name_by_form

  pub inline_without_term_is_no_term_attribute : (e : InlineExpression S) → IsNoTerm e →
      is_term_attribute (inline_view v e) ≡ false
  inline_without_term_is_no_term_attribute = claim_of_all_forms_holds_of_inline
      (λ e. IsNoTerm e → is_term_attribute (inline_view v e) ≡ false) no_term_by_form

  pub other_inline_as_selector_has_no_fault : (e : InlineExpression S) → IsNoMessage e → IsNoTerm e → IsNoPlaceable e →
      selector_fault (inline_view v e) ≡ None
  other_inline_as_selector_has_no_fault =
      claim_of_all_forms_holds_of_inline
      (λ e. IsNoMessage e → IsNoTerm e → IsNoPlaceable e → selector_fault (inline_view v e) ≡ None)
      no_fault_by_form
