-- What holds of each text of a value holds of each text of its parts, and the other way round.
use Rattle.std.proofs.Common.{◌≡◌, ℕ, zero, suc, ◌<◌, List, [], ◌∷◌, ◌++◌, length, get_or, map, Option, Some, None}
use Rattle.std.proofs.Common.{option_map, Vec, Box, Global, sym, ap, ◌∙◌, subst, arith}
use Rattle.fluent_syntax_tree.specs.Tree.{KeyTree, name_key, number_key, ExpressionTree, select, inline, InlineTree}
use Rattle.fluent_syntax_tree.specs.Tree.{string_literal, number_literal, function_reference, message_reference}
use Rattle.fluent_syntax_tree.specs.Tree.{term_reference, variable_reference, inline_placeable, ArgumentsTree}
use Rattle.fluent_syntax_tree.specs.Tree.{arguments, MaybeArguments, no_arguments, some_arguments, InlineTrees}
use Rattle.fluent_syntax_tree.specs.Tree.{no_inlines, inlines, NamedTree, named_argument, NamedTrees, no_named, nameds}
use Rattle.fluent_syntax_tree.specs.Tree.{ElementTree, text_element, placeable, PatternTree, no_elements, elements}
use Rattle.fluent_syntax_tree.specs.Tree.{VariantTree, variant, VariantTrees, no_variants, variants, inlines_of}
use Rattle.fluent_syntax_tree.specs.Tree.{nameds_of, elements_of, variants_of, arguments_of}
use Rattle.fluent_syntax_tree.specs.Entry.{AttributeTree, MessageTree, TermTree, EntryTree, message, term, comment}
use Rattle.fluent_syntax_tree.specs.Entry.{junk, BodyTree}
use Rattle.fluent_syntax_tree.specs.Every.{key_every, option_every, list_every, expression_every, inline_every}
use Rattle.fluent_syntax_tree.specs.Every.{arguments_every, maybe_every, inlines_every, named_every, nameds_every}
use Rattle.fluent_syntax_tree.specs.Every.{element_every, pattern_every, variant_every, variants_every, attribute_every}
use Rattle.fluent_syntax_tree.specs.Every.{message_every, term_every, entry_every, body_every}
use Rattle.fluent_syntax_tree.specs.View.{identifier_view, key_view, expression_view, inline_view, element_view}
use Rattle.fluent_syntax_tree.specs.View.{arguments_view, named_view, pattern_view, variant_view}
use Rattle.fluent_syntax_tree.specs.declared.ast.Identifier.{Identifier}
use Rattle.fluent_syntax_tree.specs.declared.ast.Expression.{Expression, Select, Inline}
use Rattle.fluent_syntax_tree.specs.declared.ast.InlineExpression as inl
use Rattle.fluent_syntax_tree.specs.declared.ast.InlineExpression.{InlineExpression}
use Rattle.fluent_syntax_tree.specs.declared.ast.PatternElement as elem
use Rattle.fluent_syntax_tree.specs.declared.ast.PatternElement.{PatternElement}
use Rattle.fluent_syntax_tree.specs.declared.ast.CallArguments.{CallArguments, out-CallArguments}
use Rattle.fluent_syntax_tree.specs.declared.ast.NamedArgument.{NamedArgument}
use Rattle.fluent_syntax_tree.specs.declared.ast.Pattern.{Pattern}
use Rattle.fluent_syntax_tree.specs.declared.ast.Variant.{Variant}
use Rattle.fluent_syntax_tree.proofs.Views.{view-Select, view-Inline, view-FunctionReference, view-TermReference}
use Rattle.fluent_syntax_tree.proofs.Views.{view-InlinePlaceable, view-Placeable, view-Pattern, view-Variant}
use Rattle.fluent_syntax_tree.proofs.Views.{view-NamedArgument, view-CallArguments}

-- ---- lists

pub every_holds_of_item_at_index : {A X : Type 0} (P : X → Type 0) (v : A → X) (xs : List A) (i : ℕ) (d : A) →
    list_every P (map v xs) → i < length xs → P (v (get_or xs i d))
every_holds_of_item_at_index P v [] i d h l = absurd (omega arith)
every_holds_of_item_at_index P v (x ∷ xs) zero d h l = h.0
every_holds_of_item_at_index P v (x ∷ xs) (suc i) d h l = every_holds_of_item_at_index P v xs i d h.1 (omega arith)

-- of the element that a loop is at
pub item_of_every_list_has_it : {A X : Type 0} (P : X → Type 0) (v : A → X) (xs items : List A) (i : ℕ) (d : A) →
    list_every P (map v xs) → items ≡ xs → i < length items → d ≡ get_or items i d → P (v d)
item_of_every_list_has_it P v xs items i d h e l is =
    subst (λ x. P (v x)) (sym is)
    (every_holds_of_item_at_index P v items i d (subst (λ ys. list_every P (map v ys)) (sym e) h) l)

pub list_every-append : {X : Type 0} (P : X → Type 0) (xs ys : List X) → list_every P xs → list_every P ys →
    list_every P (xs ++ ys)
list_every-append P [] ys h k = k
list_every-append P (x ∷ xs) ys h k = (h.0, list_every-append P xs ys h.1 k)

pub every_of_inlines_is_every_of_list : {X : Type 0} (P : X → Type 0) (xs : List (InlineTree X)) →
    inlines_every P (inlines_of xs) → list_every (inline_every P) xs
every_of_inlines_is_every_of_list P [] h = tt
every_of_inlines_is_every_of_list P (x ∷ xs) h = (h.0, every_of_inlines_is_every_of_list P xs h.1)

pub every_of_nameds_is_every_of_list : {X : Type 0} (P : X → Type 0) (xs : List (NamedTree X)) →
    nameds_every P (nameds_of xs) → list_every (named_every P) xs
every_of_nameds_is_every_of_list P [] h = tt
every_of_nameds_is_every_of_list P (x ∷ xs) h = (h.0, every_of_nameds_is_every_of_list P xs h.1)

pub every_of_pattern_is_every_of_list : {X : Type 0} (P : X → Type 0) (xs : List (ElementTree X)) →
    pattern_every P (elements_of xs) → list_every (element_every P) xs
every_of_pattern_is_every_of_list P [] h = tt
every_of_pattern_is_every_of_list P (x ∷ xs) h = (h.0, every_of_pattern_is_every_of_list P xs h.1)

pub every_of_variants_is_every_of_list : {X : Type 0} (P : X → Type 0) (xs : List (VariantTree X)) →
    variants_every P (variants_of xs) → list_every (variant_every P) xs
every_of_variants_is_every_of_list P [] h = tt
every_of_variants_is_every_of_list P (x ∷ xs) h = (h.0, every_of_variants_is_every_of_list P xs h.1)

-- ---- the parts of a value

module _ {S X : Type 0} (text : S → X) (P : X → Type 0) where
  pub every-Select : (d : Expression S) (e : InlineExpression S) (vs : Vec (Variant S) Global) → d ≡ Select e vs →
      expression_every P (expression_view text d) → inline_every P (inline_view text e) ×
      list_every (variant_every P) (map (variant_view text) vs.items)
  every-Select d e vs e' all =
      let h = subst (expression_every P) (ap (expression_view text) e' ∙ view-Select text e vs) all in
      (h.0, every_of_variants_is_every_of_list P _ h.1)

  pub every-Inline : (d : Expression S) (e : InlineExpression S) → d ≡ Inline e →
      expression_every P (expression_view text d) → inline_every P (inline_view text e)
  every-Inline d e e' all =
      let h = subst (expression_every P) (ap (expression_view text) e' ∙ view-Inline text e) all in h

  pub every-FunctionReference : (d : InlineExpression S) (i : Identifier S) (a : CallArguments S) →
      d ≡ inl.FunctionReference i a → inline_every P (inline_view text d) → P (text i.name) ×
      arguments_every P (arguments_view text a)
  every-FunctionReference d i a e' all =
      let h = subst (inline_every P) (ap (inline_view text) e' ∙ view-FunctionReference text i a) all in h

  pub every-TermReference :
      (d : InlineExpression S) (i : Identifier S) (o : Option (Identifier S)) (a : Option (CallArguments S)) →
      d ≡ inl.TermReference i o a → inline_every P (inline_view text d) → P (text i.name) ×
      option_every P (option_map (identifier_view text) o) ×
      maybe_every P (arguments_of (option_map (arguments_view text) a))
  every-TermReference d i o a e' all =
      let h = subst (inline_every P) (ap (inline_view text) e' ∙ view-TermReference text i o a) all in h

  pub every-InlinePlaceable : (d : InlineExpression S) (e : Box (Expression S) Global) → d ≡ inl.Placeable e →
      inline_every P (inline_view text d) → expression_every P (expression_view text e.value)
  every-InlinePlaceable d e e' all =
      let h = subst (inline_every P) (ap (inline_view text) e' ∙ view-InlinePlaceable text e) all in h

  pub every-Placeable : (d : PatternElement S) (e : Expression S) → d ≡ elem.Placeable e →
      element_every P (element_view text d) → expression_every P (expression_view text e)
  every-Placeable d e e' all =
      let h = subst (element_every P) (ap (element_view text) e' ∙ view-Placeable text e) all in h

  pub every-Variant : (v : Variant S) → variant_every P (variant_view text v) → key_every P (key_view text v.key) ×
      pattern_every P (pattern_view text v.value)
  every-Variant v h = subst (variant_every P) (view-Variant text v) h

  pub every-NamedArgument : (a : NamedArgument S) → named_every P (named_view text a) → P (text a.name.name) ×
      inline_every P (inline_view text a.value)
  every-NamedArgument a h = subst (named_every P) (view-NamedArgument text a) h

  pub every-Pattern : (p : Pattern S) → pattern_every P (pattern_view text p) →
      list_every (element_every P) (map (element_view text) p.elements.items)
  every-Pattern p h = every_of_pattern_is_every_of_list P _ (subst (pattern_every P) (view-Pattern text p) h)

  pub every-CallArguments : (a : CallArguments S) → arguments_every P (arguments_view text a) →
      list_every (inline_every P) (map (inline_view text) (out-CallArguments S a).positional.items) ×
      list_every (named_every P) (map (named_view text) (out-CallArguments S a).named.items)
  every-CallArguments a all = let h = subst (arguments_every P) (view-CallArguments text a) all in
      (every_of_inlines_is_every_of_list P _ h.0, every_of_nameds_is_every_of_list P _ h.1)

-- ---- what always holds

abbrev Always : {X : Type 0} → X → Type 0
Always x = Unit {0}

pub always_holds_of_option : {X : Type 0} (o : Option X) → option_every Always o
always_holds_of_option None = tt
always_holds_of_option (Some x) = tt

pub always_holds_of_key : {X : Type 0} (k : KeyTree X) → key_every Always k
always_holds_of_key (name_key x) = tt
always_holds_of_key (number_key x) = tt

-- of each element, where it holds of every value
pub list_every-universal : {X : Type 0} (P : X → Type 0) (xs : List X) → ((x : X) → P x) → list_every P xs
list_every-universal P [] h = tt
list_every-universal P (x ∷ xs) h = (h x, list_every-universal P xs h)

pub option_every-universal : {X : Type 0} (P : X → Type 0) (o : Option X) → ((x : X) → P x) → option_every P o
option_every-universal P None h = tt
option_every-universal P (Some x) h = h x

mutual
  pub always_holds_of_expression : {X : Type 0} (e : ExpressionTree X) → expression_every Always e
  always_holds_of_expression (select e vs) = (always_holds_of_inline e, always_holds_of_variants vs)
  always_holds_of_expression (inline e) = always_holds_of_inline e

  pub always_holds_of_inline : {X : Type 0} (e : InlineTree X) → inline_every Always e
  always_holds_of_inline (string_literal x) = tt
  always_holds_of_inline (number_literal x) = tt
  always_holds_of_inline (function_reference x a) = (tt, always_holds_of_arguments a)
  always_holds_of_inline (message_reference x a) = (tt, always_holds_of_option a)
  always_holds_of_inline (term_reference x a c) = (tt, always_holds_of_option a, always_holds_of_optional_arguments c)
  always_holds_of_inline (variable_reference x) = tt
  always_holds_of_inline (inline_placeable e) = always_holds_of_expression e

  pub always_holds_of_arguments : {X : Type 0} (a : ArgumentsTree X) → arguments_every Always a
  always_holds_of_arguments (arguments ps ns) = (always_holds_of_inlines ps, always_holds_of_named_arguments ns)

  always_holds_of_optional_arguments : {X : Type 0} (a : MaybeArguments X) → maybe_every Always a
  always_holds_of_optional_arguments no_arguments = tt
  always_holds_of_optional_arguments (some_arguments a) = always_holds_of_arguments a

  always_holds_of_inlines : {X : Type 0} (es : InlineTrees X) → inlines_every Always es
  always_holds_of_inlines no_inlines = tt
  always_holds_of_inlines (inlines e es) = (always_holds_of_inline e, always_holds_of_inlines es)

  pub always_holds_of_named_argument : {X : Type 0} (a : NamedTree X) → named_every Always a
  always_holds_of_named_argument (named_argument x e) = (tt, always_holds_of_inline e)

  always_holds_of_named_arguments : {X : Type 0} (a : NamedTrees X) → nameds_every Always a
  always_holds_of_named_arguments no_named = tt
  always_holds_of_named_arguments (nameds x xs) = (always_holds_of_named_argument x, always_holds_of_named_arguments xs)

  pub always_holds_of_element : {X : Type 0} (e : ElementTree X) → element_every Always e
  always_holds_of_element (text_element x) = tt
  always_holds_of_element (placeable e) = always_holds_of_expression e

  pub always_holds_of_pattern : {X : Type 0} (p : PatternTree X) → pattern_every Always p
  always_holds_of_pattern no_elements = tt
  always_holds_of_pattern (elements x xs) = (always_holds_of_element x, always_holds_of_pattern xs)

  pub always_holds_of_variant : {X : Type 0} (v : VariantTree X) → variant_every Always v
  always_holds_of_variant (variant k p d) = (always_holds_of_key k, always_holds_of_pattern p)

  always_holds_of_variants : {X : Type 0} (vs : VariantTrees X) → variants_every Always vs
  always_holds_of_variants no_variants = tt
  always_holds_of_variants (variants x xs) = (always_holds_of_variant x, always_holds_of_variants xs)

pub always_holds_of_lines : {X : Type 0} (xs : List X) → list_every Always xs
always_holds_of_lines xs = list_every-universal Always xs (λ _. tt)

pub always_holds_of_attribute : {X : Type 0} (a : AttributeTree X) → attribute_every Always a
always_holds_of_attribute a = (tt, always_holds_of_pattern a.value)

pub always_holds_of_message : {X : Type 0} (m : MessageTree X) → message_every Always m
always_holds_of_message m = (
  tt,
  option_every-universal (pattern_every Always) m.value always_holds_of_pattern,
  list_every-universal (attribute_every Always) m.attributes always_holds_of_attribute,
  option_every-universal (list_every Always) m.comment always_holds_of_lines,
)

pub always_holds_of_term : {X : Type 0} (m : TermTree X) → term_every Always m
always_holds_of_term m = (
  tt,
  always_holds_of_pattern m.value,
  list_every-universal (attribute_every Always) m.attributes always_holds_of_attribute,
  option_every-universal (list_every Always) m.comment always_holds_of_lines,
)

pub always_holds_of_entry : {X : Type 0} (e : EntryTree X) → entry_every Always e
always_holds_of_entry (message m) = always_holds_of_message m
always_holds_of_entry (term m) = always_holds_of_term m
always_holds_of_entry (comment level lines) = always_holds_of_lines lines
always_holds_of_entry (junk x) = tt

pub always_holds_of_body : {X : Type 0} (b : BodyTree X) → body_every Always b
always_holds_of_body b = list_every-universal (entry_every Always) b always_holds_of_entry

pub ruleset always = (
  always_holds_of_option,
  always_holds_of_key,
  always_holds_of_expression,
  always_holds_of_inline,
  always_holds_of_arguments,
  always_holds_of_named_argument,
  always_holds_of_element,
  always_holds_of_pattern,
  always_holds_of_variant,
  always_holds_of_lines,
  always_holds_of_attribute,
  always_holds_of_message,
  always_holds_of_term,
  always_holds_of_entry,
  always_holds_of_body,
)
