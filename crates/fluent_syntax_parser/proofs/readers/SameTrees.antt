-- A tree whose texts are left as they are is the same tree.
use Rattle.std.proofs.Common.{◌≡◌, List, [], ◌∷◌, map, Option, Some, None, option_map, refl, ap}
use Rattle.std.proofs.lemmas.List.{map-id}
use Rattle.fluent_syntax_tree.specs.Entry.{AttributeTree, BodyTree, EntryTree, attribute_map, body_map, comment}
use Rattle.fluent_syntax_tree.specs.Entry.{entry_map, junk, message, term}
use Rattle.fluent_syntax_tree.specs.Tree.{KeyTree, name_key, number_key, key_map, option_texts, ExpressionTree, select}
use Rattle.fluent_syntax_tree.specs.Tree.{inline, InlineTree, string_literal, number_literal, function_reference}
use Rattle.fluent_syntax_tree.specs.Tree.{message_reference, term_reference, variable_reference, inline_placeable}
use Rattle.fluent_syntax_tree.specs.Tree.{ArgumentsTree, arguments, MaybeArguments, no_arguments, some_arguments}
use Rattle.fluent_syntax_tree.specs.Tree.{InlineTrees, no_inlines, inlines, NamedTree, named_argument, NamedTrees}
use Rattle.fluent_syntax_tree.specs.Tree.{no_named, nameds, ElementTree, text_element, placeable, PatternTree}
use Rattle.fluent_syntax_tree.specs.Tree.{no_elements, elements, VariantTree, variant, VariantTrees, no_variants}
use Rattle.fluent_syntax_tree.specs.Tree.{variants, expression_map, inline_map, arguments_map, maybe_map, inlines_map}
use Rattle.fluent_syntax_tree.specs.Tree.{named_map, nameds_map, element_map, pattern_map, variant_map, variants_map}

identity_keeps_names : {X : Type 0} (o : Option X) → option_texts (λ x. x) o ≡ o
identity_keeps_names None = refl
identity_keeps_names (Some x) = refl

identity_keeps_key : {X : Type 0} (k : KeyTree X) → key_map (λ x. x) k ≡ k
identity_keeps_key (name_key x) = refl
identity_keeps_key (number_key x) = refl

mutual
  pub identity_keeps_expression : {X : Type 0} (e : ExpressionTree X) → expression_map (λ x. x) e ≡ e
  identity_keeps_expression (select e vs) = rw (identity_keeps_inline e, identity_keeps_variants vs) refl
  identity_keeps_expression (inline e) = ap inline (identity_keeps_inline e)

  pub identity_keeps_inline : {X : Type 0} (e : InlineTree X) → inline_map (λ x. x) e ≡ e
  identity_keeps_inline (string_literal x) = refl
  identity_keeps_inline (number_literal x) = refl
  identity_keeps_inline (function_reference x a) = ap (function_reference x) (identity_keeps_arguments a)
  identity_keeps_inline (message_reference x a) = ap (message_reference x) (identity_keeps_names a)
  identity_keeps_inline (term_reference x a c) = rw (identity_keeps_names a, identity_keeps_optional_arguments c) refl
  identity_keeps_inline (variable_reference x) = refl
  identity_keeps_inline (inline_placeable e) = ap inline_placeable (identity_keeps_expression e)

  identity_keeps_arguments : {X : Type 0} (a : ArgumentsTree X) → arguments_map (λ x. x) a ≡ a
  identity_keeps_arguments (arguments ps ns) = rw (identity_keeps_inlines ps, identity_keeps_named_arguments ns) refl

  identity_keeps_optional_arguments : {X : Type 0} (a : MaybeArguments X) → maybe_map (λ x. x) a ≡ a
  identity_keeps_optional_arguments no_arguments = refl
  identity_keeps_optional_arguments (some_arguments a) = ap some_arguments (identity_keeps_arguments a)

  identity_keeps_inlines : {X : Type 0} (xs : InlineTrees X) → inlines_map (λ x. x) xs ≡ xs
  identity_keeps_inlines no_inlines = refl
  identity_keeps_inlines (inlines x xs) = rw (identity_keeps_inline x, identity_keeps_inlines xs) refl

  identity_keeps_named_argument : {X : Type 0} (a : NamedTree X) → named_map (λ x. x) a ≡ a
  identity_keeps_named_argument (named_argument x e) = ap (named_argument x) (identity_keeps_inline e)

  identity_keeps_named_arguments : {X : Type 0} (xs : NamedTrees X) → nameds_map (λ x. x) xs ≡ xs
  identity_keeps_named_arguments no_named = refl
  identity_keeps_named_arguments (nameds x xs) =
      rw (identity_keeps_named_argument x, identity_keeps_named_arguments xs) refl

  identity_keeps_element : {X : Type 0} (e : ElementTree X) → element_map (λ x. x) e ≡ e
  identity_keeps_element (text_element x) = refl
  identity_keeps_element (placeable e) = ap placeable (identity_keeps_expression e)

  pub identity_keeps_pattern : {X : Type 0} (p : PatternTree X) → pattern_map (λ x. x) p ≡ p
  identity_keeps_pattern no_elements = refl
  identity_keeps_pattern (elements x xs) = rw (identity_keeps_element x, identity_keeps_pattern xs) refl

  identity_keeps_variant : {X : Type 0} (v : VariantTree X) → variant_map (λ x. x) v ≡ v
  identity_keeps_variant (variant k p d) = rw (identity_keeps_key k, identity_keeps_pattern p) refl

  identity_keeps_variants : {X : Type 0} (vs : VariantTrees X) → variants_map (λ x. x) vs ≡ vs
  identity_keeps_variants no_variants = refl
  identity_keeps_variants (variants x xs) = rw (identity_keeps_variant x, identity_keeps_variants xs) refl

pub identity_keeps_optional_pattern : {X : Type 0} (o : Option (PatternTree X)) →
    option_map (pattern_map (λ x. x)) o ≡ o
identity_keeps_optional_pattern None = refl
identity_keeps_optional_pattern (Some p) = ap Some (identity_keeps_pattern p)

-- ---- entries

identity_keeps_attributes : {X : Type 0} (xs : List (AttributeTree X)) → map (attribute_map (λ x. x)) xs ≡ xs
identity_keeps_attributes [] = refl
identity_keeps_attributes (a ∷ xs) = rw (identity_keeps_pattern a.value, identity_keeps_attributes xs) refl

identity_keeps_comment : {X : Type 0} (o : Option (List X)) → option_map (map (λ x. x)) o ≡ o
identity_keeps_comment None = refl
identity_keeps_comment (Some xs) = ap Some (map-id xs)

pub identity_keeps_entry : {X : Type 0} (e : EntryTree X) → entry_map (λ x. x) e ≡ e
identity_keeps_entry (message m) = rw (
  identity_keeps_optional_pattern m.value,
  identity_keeps_attributes m.attributes,
  identity_keeps_comment m.comment,
) refl
identity_keeps_entry (term m) =
    rw (identity_keeps_pattern m.value, identity_keeps_attributes m.attributes, identity_keeps_comment m.comment) refl
identity_keeps_entry (comment level lines) = ap (comment level) (map-id lines)
identity_keeps_entry (junk x) = refl

pub identity_keeps_body : {X : Type 0} (b : BodyTree X) → body_map (λ x. x) b ≡ b
identity_keeps_body [] = refl
identity_keeps_body (e ∷ es) = rw (identity_keeps_entry e, identity_keeps_body es) refl
