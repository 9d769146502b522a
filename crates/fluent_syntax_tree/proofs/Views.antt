-- The view of each form, from the views of what it holds.
use Rattle.std.proofs.Common.{◌≡◌, map, Option, option_map, Vec, Box, Global, sym, ap, ◌∙◌, rules}
use Rattle.fluent_syntax_tree.specs.Tree.{select, inline, string_literal, number_literal, function_reference}
use Rattle.fluent_syntax_tree.specs.Tree.{message_reference, term_reference, variable_reference, inline_placeable}
use Rattle.fluent_syntax_tree.specs.Tree.{arguments, arguments_of, inlines_of, named_argument, nameds_of, text_element}
use Rattle.fluent_syntax_tree.specs.Tree.{placeable, elements_of, variant, variants_of}
use Rattle.fluent_syntax_tree.specs.View.{expression_step, inline_step, identifier_view, key_view, expression_view}
use Rattle.fluent_syntax_tree.specs.View.{inline_view, element_view, arguments_view, named_view, pattern_view}
use Rattle.fluent_syntax_tree.specs.View.{variant_view}
use Rattle.fluent_syntax_tree.specs.declared.ast.Identifier.{Identifier}
use Rattle.fluent_syntax_tree.specs.declared.ast.Expression.{Expression, Expression-F, Select, Inline, the_lemmas}
use Rattle.fluent_syntax_tree.specs.declared.ast.Expression.{roll-Expression, map-Expression}
use Rattle.fluent_syntax_tree.specs.declared.ast.InlineExpression as inl
use Rattle.fluent_syntax_tree.specs.declared.ast.InlineExpression.{InlineExpression, InlineExpression-F}
use Rattle.fluent_syntax_tree.specs.declared.ast.InlineExpression.{roll-InlineExpression, map-InlineExpression}
use Rattle.fluent_syntax_tree.specs.declared.ast.PatternElement as elem
use Rattle.fluent_syntax_tree.specs.declared.ast.PatternElement.{PatternElement}
use Rattle.fluent_syntax_tree.specs.declared.ast.CallArguments.{CallArguments, CallArguments-F, out-CallArguments}
use Rattle.fluent_syntax_tree.specs.declared.ast.CallArguments.{roll-CallArguments, out-roll-CallArguments}
use Rattle.fluent_syntax_tree.specs.declared.ast.NamedArgument.{NamedArgument}
use Rattle.fluent_syntax_tree.specs.declared.ast.Pattern.{Pattern}
use Rattle.fluent_syntax_tree.specs.declared.ast.Variant.{Variant}

module _ {S X : Type 0} (text : S → X) where
  pub view-Select : (e : InlineExpression S) (vs : Vec (Variant S) Global) →
      expression_view text (Select e vs) ≡ select (inline_view text e) (variants_of (map (variant_view text) vs.items))
  unfolding expression_view inline_view element_view arguments_view named_view pattern_view variant_view
  view-Select e vs = search (rules, the_lemmas)

  pub view-Inline : (e : InlineExpression S) → expression_view text (Inline e) ≡ inline (inline_view text e)
  unfolding expression_view inline_view element_view arguments_view named_view pattern_view variant_view
  view-Inline e = search (rules, the_lemmas)

  pub view-StringLiteral : (x : S) → inline_view text (inl.StringLiteral x) ≡ string_literal (text x)
  unfolding expression_view inline_view element_view arguments_view named_view pattern_view variant_view
  view-StringLiteral x = search (rules, the_lemmas)

  pub view-NumberLiteral : (x : S) → inline_view text (inl.NumberLiteral x) ≡ number_literal (text x)
  unfolding expression_view inline_view element_view arguments_view named_view pattern_view variant_view
  view-NumberLiteral x = search (rules, the_lemmas)

  pub view-FunctionReference : (i : Identifier S) (a : CallArguments S) →
      inline_view text (inl.FunctionReference i a) ≡ function_reference (text i.name) (arguments_view text a)
  unfolding expression_view inline_view element_view arguments_view named_view pattern_view variant_view
  view-FunctionReference i a = search (rules, the_lemmas)

  pub view-MessageReference : (i : Identifier S) (o : Option (Identifier S)) →
      inline_view text (inl.MessageReference i o)
      ≡ message_reference (text i.name) (option_map (identifier_view text) o)
  unfolding expression_view inline_view element_view arguments_view named_view pattern_view variant_view
  view-MessageReference i o = search (rules, the_lemmas)

  pub view-TermReference : (i : Identifier S) (o : Option (Identifier S)) (a : Option (CallArguments S)) →
      inline_view text (inl.TermReference i o a)
      ≡ term_reference (text i.name) (option_map (identifier_view text) o)
      (arguments_of (option_map (arguments_view text) a))
  unfolding expression_view inline_view element_view arguments_view named_view pattern_view variant_view
  view-TermReference i o a = search (rules, the_lemmas)

  pub view-VariableReference : (i : Identifier S) →
      inline_view text (inl.VariableReference i) ≡ variable_reference (text i.name)
  unfolding expression_view inline_view element_view arguments_view named_view pattern_view variant_view
  view-VariableReference i = search (rules, the_lemmas)

  pub view-InlinePlaceable : (e : Box (Expression S) Global) →
      inline_view text (inl.Placeable e) ≡ inline_placeable (expression_view text e.value)
  unfolding expression_view inline_view element_view arguments_view named_view pattern_view variant_view
  view-InlinePlaceable e = search (rules, the_lemmas)

  pub view-TextElement : (x : S) → element_view text (elem.TextElement x) ≡ text_element (text x)
  unfolding expression_view inline_view element_view arguments_view named_view pattern_view variant_view
  view-TextElement x = search (rules, the_lemmas)

  pub view-Placeable : (e : Expression S) → element_view text (elem.Placeable e) ≡ placeable (expression_view text e)
  unfolding expression_view inline_view element_view arguments_view named_view pattern_view variant_view
  view-Placeable e = search (rules, the_lemmas)

  pub view-Pattern : (p : Pattern S) → pattern_view text p ≡ elements_of (map (element_view text) p.elements.items)
  unfolding expression_view inline_view element_view arguments_view named_view pattern_view variant_view
  view-Pattern p = search (rules, the_lemmas)

  pub view-Variant : (v : Variant S) →
      variant_view text v ≡ variant (key_view text v.key) (pattern_view text v.value) v.default
  unfolding expression_view inline_view element_view arguments_view named_view pattern_view variant_view
  view-Variant v = search (rules, the_lemmas)

  pub view-NamedArgument : (a : NamedArgument S) →
      named_view text a ≡ named_argument (text a.name.name) (inline_view text a.value)
  unfolding expression_view inline_view element_view arguments_view named_view pattern_view variant_view
  view-NamedArgument a = search (rules, the_lemmas)

  pub view-CallArguments : (a : CallArguments S) →
      arguments_view text a
      ≡ arguments (inlines_of (map (inline_view text) (out-CallArguments S a).positional.items))
      (nameds_of (map (named_view text) (out-CallArguments S a).named.items))
  unfolding expression_view inline_view element_view arguments_view named_view pattern_view variant_view
  view-CallArguments a = search (rules, the_lemmas)

  -- of arguments that were just made
  pub view-roll-CallArguments : (a : CallArguments-F S _ _ _ _ _ _ _) →
      arguments_view text (roll-CallArguments S a)
      ≡ arguments (inlines_of (map (inline_view text) a.positional.items))
      (nameds_of (map (named_view text) a.named.items))
  view-roll-CallArguments a =
      view-CallArguments (roll-CallArguments S a)
      ∙ ap (λ x. arguments (inlines_of (map (inline_view text) x.positional.items))
      (nameds_of (map (named_view text) x.named.items))) (out-roll-CallArguments S a)

  -- one equation for every form
  pub view-roll-Expression :
      (z : Expression-F S (Expression S) (InlineExpression S) (PatternElement S) (CallArguments S) (NamedArgument S)
      (Pattern S) (Variant S)) →
      expression_view text (roll-Expression S z)
      ≡ expression_step text
      (map-Expression S _ _ _ _ _ _ _ _ _ _ _ _ _ _ (expression_view text) (inline_view text) (element_view text)
      (arguments_view text) (named_view text) (pattern_view text) (variant_view text) z)
  unfolding expression_view inline_view element_view arguments_view named_view pattern_view variant_view
  view-roll-Expression z = search (rules, the_lemmas)

  -- one equation for every form
  pub view-roll-InlineExpression :
      (z : InlineExpression-F S (Expression S) (InlineExpression S) (PatternElement S) (CallArguments S)
      (NamedArgument S) (Pattern S) (Variant S)) →
      inline_view text (roll-InlineExpression S z)
      ≡ inline_step text
      (map-InlineExpression S _ _ _ _ _ _ _ _ _ _ _ _ _ _ (expression_view text) (inline_view text)
      (element_view text) (arguments_view text) (named_view text) (pattern_view text) (variant_view text) z)
  unfolding expression_view inline_view element_view arguments_view named_view pattern_view variant_view
  view-roll-InlineExpression z = search (rules, the_lemmas)

pub ruleset views = (
  view-Select,
  view-Inline,
  view-StringLiteral,
  view-NumberLiteral,
  view-FunctionReference,
  view-MessageReference,
  view-TermReference,
  view-VariableReference,
  view-InlinePlaceable,
  view-TextElement,
  view-Placeable,
  view-Pattern,
  view-Variant,
  view-NamedArgument,
  view-CallArguments,
)

-- Two values that represent one tree, from their parts.
module _ {S T X : Type 0} (f : S → X) (h : T → X) where
  pub same-TermReference :
      (i : Identifier S) (j : Identifier T) (o : Option (Identifier S)) (p : Option (Identifier T))
      (a : Option (CallArguments S)) (b : Option (CallArguments T)) (d : InlineExpression T) →
      d ≡ inl.TermReference j p b → f i.name ≡ h j.name →
      option_map (identifier_view f) o ≡ option_map (identifier_view h) p →
      option_map (arguments_view f) a ≡ option_map (arguments_view h) b →
      inline_view f (inl.TermReference i o a) ≡ inline_view h d
  same-TermReference i j o p a b d is name attribute given =
      view-TermReference f i o a
      ∙ ap (λ x. term_reference x (option_map (identifier_view f) o)
      (arguments_of (option_map (arguments_view f) a))) name
      ∙ ap (λ x. term_reference (h j.name) x (arguments_of (option_map (arguments_view f) a))) attribute
      ∙ ap (λ x. term_reference (h j.name) (option_map (identifier_view h) p) (arguments_of x)) given
      ∙ sym (view-TermReference h j p b) ∙ ap (inline_view h) (sym is)

  pub same-CallArguments : (a : CallArguments-F S _ _ _ _ _ _ _) (b : CallArguments T) →
      map (inline_view f) a.positional.items ≡ map (inline_view h) (out-CallArguments T b).positional.items →
      map (named_view f) a.named.items ≡ map (named_view h) (out-CallArguments T b).named.items →
      arguments_view f (roll-CallArguments S a) ≡ arguments_view h b
  same-CallArguments a b ps ns =
      view-CallArguments f (roll-CallArguments S a)
      ∙ ap (λ x. arguments (inlines_of (map (inline_view f) x.positional.items))
      (nameds_of (map (named_view f) x.named.items))) (out-roll-CallArguments S a)
      ∙ ap (λ x. arguments (inlines_of x) (nameds_of (map (named_view f) a.named.items))) ps
      ∙ ap (λ x. arguments (inlines_of (map (inline_view h) (out-CallArguments T b).positional.items))
      (nameds_of x)) ns ∙ sym (view-CallArguments h b)
