-- Nodes by their forms.
use Rattle.std.proofs.Common.{◌≡◌, false, Option, ℕ, Box, Global, refl, sym, ◌∙◌, subst}
use Rattle.std.specs.Prelude.{is_some, is_none}
use Rattle.std.proofs.Common.{Some, None, option_map, Bool, true, ◌+◌, ◌&&◌, arith, if◌then◌else◌}
use Rattle.fluent_syntax_grammar.specs.Expressions.{selector_fault, is_term_attribute}
use Rattle.fluent_syntax_tree.specs.Tree.{InlineTree, string_literal, number_literal, function_reference}
use Rattle.fluent_syntax_tree.specs.Tree.{message_reference, term_reference, variable_reference, ArgumentsTree}
use Rattle.fluent_syntax_tree.specs.Tree.{MaybeArguments, KeyTree, PatternTree, VariantTrees, variants, variant}
use Rattle.fluent_syntax_tree.specs.Tree.{no_elements, elements}
use Rattle.fluent_syntax_grammar.specs.Rules.{Rules, elements_obey, pattern_obeys}
use Rattle.fluent_syntax_grammar.specs.Readable.{defaults}
use Rattle.fluent_syntax_tree.specs.View.{inline_view}
use Rattle.fluent_syntax_tree.proofs.Views.{view-StringLiteral, view-NumberLiteral, view-FunctionReference}
use Rattle.fluent_syntax_tree.proofs.Views.{view-MessageReference, view-TermReference, view-VariableReference}
use Rattle.fluent_syntax_tree.specs.declared.ast.Expression.{Expression}
use Rattle.fluent_syntax_tree.specs.declared.ast.Expression.TheOpen as layer
use Rattle.fluent_syntax_tree.specs.declared.ast.Expression.TheOpen.{InlineExpression-F}
use Rattle.fluent_syntax_tree.specs.declared.ast.InlineExpression as inl
use Rattle.fluent_syntax_tree.specs.declared.ast.InlineExpression.{InlineExpression, out-InlineExpression}
use Rattle.fluent_syntax_tree.specs.declared.ast.InlineExpression.{roll-InlineExpression, roll-out-InlineExpression}
use Rattle.fluent_syntax_tree.specs.declared.ast.PatternElement.{PatternElement}
use Rattle.fluent_syntax_tree.specs.declared.ast.CallArguments.{CallArguments}
use Rattle.fluent_syntax_tree.specs.declared.ast.NamedArgument.{NamedArgument}
use Rattle.fluent_syntax_tree.specs.declared.ast.Pattern.{Pattern}
use Rattle.fluent_syntax_tree.specs.declared.ast.Variant.{Variant}
use Rattle.fluent_syntax_grammar.specs.Written.{Text, holds_select}
use Rattle.fluent_syntax_writer.proofs.rules.Sets.{and_with_true_is_same}
use denote.Hole.Carrier as carrier

-- ---- Inline expressions that are no placeables

module _ {S : Type 0} (text : S → Text) where
  abbrev pub NoPlaceable : InlineExpression S → Type 0
  NoPlaceable e = (b : Box (Expression S) Global) → e ≡ inl.Placeable b → ⊥

  -- what holds of every other form
  pub record HoldsButOfPlaceables (Claim : InlineTree Text → Type 0) : Type 0 where
    pub string : (x : Text) → Claim (string_literal x)
    pub number : (x : Text) → Claim (number_literal x)
    pub function : (x : Text) (a : ArgumentsTree Text) → Claim (function_reference x a)
    pub message : (x : Text) (o : Option Text) → Claim (message_reference x o)
    pub term : (x : Text) (o : Option Text) (a : MaybeArguments Text) → Claim (term_reference x o a)
    pub variable : (x : Text) → Claim (variable_reference x)

  elsewhere-layer : (Claim : InlineTree Text → Type 0) → HoldsButOfPlaceables Claim
      → (y : InlineExpression-F S (Expression S) (InlineExpression S) (PatternElement S) (CallArguments S)
      (NamedArgument S) (Pattern S) (Variant S))
      → NoPlaceable (roll-InlineExpression S y) → Claim (inline_view text (roll-InlineExpression S y))
  unfolding roll-InlineExpression carrier.roll
  elsewhere-layer Claim h (layer.StringLiteral x) other = subst Claim (sym (view-StringLiteral text x)) (h.string _)
  elsewhere-layer Claim h (layer.NumberLiteral x) other = subst Claim (sym (view-NumberLiteral text x)) (h.number _)
  elsewhere-layer Claim h (layer.FunctionReference i a) other =
      subst Claim (sym (view-FunctionReference text i a)) (h.function _ _)
  elsewhere-layer Claim h (layer.MessageReference i a) other =
      subst Claim (sym (view-MessageReference text i a)) (h.message _ _)
  elsewhere-layer Claim h (layer.TermReference i a c) other =
      subst Claim (sym (view-TermReference text i a c)) (h.term _ _ _)
  elsewhere-layer Claim h (layer.VariableReference i) other =
      subst Claim (sym (view-VariableReference text i)) (h.variable _)
  elsewhere-layer Claim h (layer.InlineExpression::Placeable b) other = absurd (other b refl)

  pub claim_holds_of_inline_but_placeable : (Claim : InlineTree Text → Type 0) → HoldsButOfPlaceables Claim
      → (e : InlineExpression S) → NoPlaceable e → Claim (inline_view text e)
  claim_holds_of_inline_but_placeable Claim h e other =
      let back : roll-InlineExpression S (out-InlineExpression S e) ≡ e = roll-out-InlineExpression S e in
      subst (λ e. Claim (inline_view text e)) back
      (elsewhere-layer Claim h (out-InlineExpression S e) (λ b is. other b (sym back ∙ is)))

  pub inline_but_placeable_holds_no_select : (e : InlineExpression S) → NoPlaceable e
      → false ≡ holds_select (inline_view text e)
  inline_but_placeable_holds_no_select = claim_holds_of_inline_but_placeable (λ t. false ≡ holds_select t) (record {
    string = λ x. refl;
    number = λ x. refl;
    function = λ x a. refl;
    message = λ x o. refl;
    term = λ x o a. refl;
    variable = λ x. refl;
  })

-- ---- References, by whether they have an attribute

module _ {A : Type 0} (name : A → Text) where
  pub term_is_selector : (x : Text) (attribute : Option A) (a : MaybeArguments Text)
      → is_some attribute ≡ is_none (selector_fault (term_reference x (option_map name attribute) a))
  term_is_selector x None a = refl
  term_is_selector x (Some attribute) a = refl

  pub term_is_attribute : (x : Text) (attribute : Option A) (a : MaybeArguments Text)
      → is_some attribute ≡ is_term_attribute (term_reference x (option_map name attribute) a)
  term_is_attribute x None a = refl
  term_is_attribute x (Some attribute) a = refl

  pub message_is_no_selector : (x : Text) (attribute : Option A)
      → false ≡ is_none (selector_fault (message_reference x (option_map name attribute)))
  message_is_no_selector x None = refl
  message_is_no_selector x (Some attribute) = refl

-- ---- Defaults

pub defaults-next : (key : KeyTree Text) (value : PatternTree Text) (default : Bool) (vs : VariantTrees Text)
    (before after : ℕ) → after ≡ (if default then before + 1 else before)
    → after + defaults vs ≡ before + defaults (variants (variant key value default) vs)
defaults-next key value true vs before after is = omega arith
defaults-next key value false vs before after is = omega arith

-- ---- Patterns

pub pattern_obeys_by_parts : (r : Rules) (p : PatternTree Text) → (r.pattern p && elements_obey r p) ≡ pattern_obeys r p
pattern_obeys_by_parts r no_elements = and_with_true_is_same (r.pattern no_elements)
pattern_obeys_by_parts r (elements e es) = refl
