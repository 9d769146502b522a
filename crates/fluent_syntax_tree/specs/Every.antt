-- P holds of each text of a tree.
use Rattle.std.specs.Prelude.{List, [], ◌∷◌, Option, Some, None}
use Rattle.fluent_syntax_tree.specs.Tree.{KeyTree, name_key, number_key, ExpressionTree, select, inline, InlineTree}
use Rattle.fluent_syntax_tree.specs.Tree.{string_literal, number_literal, function_reference, message_reference}
use Rattle.fluent_syntax_tree.specs.Tree.{term_reference, variable_reference, inline_placeable, ArgumentsTree}
use Rattle.fluent_syntax_tree.specs.Tree.{arguments, MaybeArguments, no_arguments, some_arguments, InlineTrees}
use Rattle.fluent_syntax_tree.specs.Tree.{no_inlines, inlines, NamedTree, named_argument, NamedTrees, no_named, nameds}
use Rattle.fluent_syntax_tree.specs.Tree.{ElementTree, text_element, placeable, PatternTree, no_elements, elements}
use Rattle.fluent_syntax_tree.specs.Tree.{VariantTree, variant, VariantTrees, no_variants, variants}
use Rattle.fluent_syntax_tree.specs.Entry.{AttributeTree, MessageTree, TermTree, EntryTree, message, term, comment}
use Rattle.fluent_syntax_tree.specs.Entry.{junk, BodyTree}

abbrev pub key_every : {X : Type 0} → (X → Type 0) → KeyTree X → Type 0
key_every P (name_key x) = P x
key_every P (number_key x) = P x

abbrev pub option_every : {X : Type 0} → (X → Type 0) → Option X → Type 0
option_every P None = Unit {0}
option_every P (Some x) = P x

abbrev pub list_every : {X : Type 0} → (X → Type 0) → List X → Type 0
list_every P [] = Unit {0}
list_every P (x ∷ xs) = P x × list_every P xs

abbrev mutual
  pub expression_every : {X : Type 0} → (X → Type 0) → ExpressionTree X → Type 0
  expression_every P (select e vs) = inline_every P e × variants_every P vs
  expression_every P (inline e) = inline_every P e

  pub inline_every : {X : Type 0} → (X → Type 0) → InlineTree X → Type 0
  inline_every P (string_literal x) = P x
  inline_every P (number_literal x) = P x
  inline_every P (function_reference x a) = P x × arguments_every P a
  inline_every P (message_reference x a) = P x × option_every P a
  inline_every P (term_reference x a c) = P x × option_every P a × maybe_every P c
  inline_every P (variable_reference x) = P x
  inline_every P (inline_placeable e) = expression_every P e

  pub arguments_every : {X : Type 0} → (X → Type 0) → ArgumentsTree X → Type 0
  arguments_every P (arguments ps ns) = inlines_every P ps × nameds_every P ns

  pub maybe_every : {X : Type 0} → (X → Type 0) → MaybeArguments X → Type 0
  maybe_every P no_arguments = Unit {0}
  maybe_every P (some_arguments a) = arguments_every P a

  pub inlines_every : {X : Type 0} → (X → Type 0) → InlineTrees X → Type 0
  inlines_every P no_inlines = Unit {0}
  inlines_every P (inlines x xs) = inline_every P x × inlines_every P xs

  pub named_every : {X : Type 0} → (X → Type 0) → NamedTree X → Type 0
  named_every P (named_argument x e) = P x × inline_every P e

  pub nameds_every : {X : Type 0} → (X → Type 0) → NamedTrees X → Type 0
  nameds_every P no_named = Unit {0}
  nameds_every P (nameds x xs) = named_every P x × nameds_every P xs

  pub element_every : {X : Type 0} → (X → Type 0) → ElementTree X → Type 0
  element_every P (text_element x) = P x
  element_every P (placeable e) = expression_every P e

  pub pattern_every : {X : Type 0} → (X → Type 0) → PatternTree X → Type 0
  pattern_every P no_elements = Unit {0}
  pattern_every P (elements x xs) = element_every P x × pattern_every P xs

  pub variant_every : {X : Type 0} → (X → Type 0) → VariantTree X → Type 0
  variant_every P (variant k p d) = key_every P k × pattern_every P p

  pub variants_every : {X : Type 0} → (X → Type 0) → VariantTrees X → Type 0
  variants_every P no_variants = Unit {0}
  variants_every P (variants x xs) = variant_every P x × variants_every P xs

module _ {X : Type 0} (P : X → Type 0) where
  abbrev pub attribute_every : AttributeTree X → Type 0
  attribute_every a = P a.id × pattern_every P a.value

  abbrev pub message_every : MessageTree X → Type 0
  message_every m =
      P m.id × option_every (pattern_every P) m.value × list_every attribute_every m.attributes ×
      option_every (list_every P) m.comment

  abbrev pub term_every : TermTree X → Type 0
  term_every m =
      P m.id × pattern_every P m.value × list_every attribute_every m.attributes × option_every (list_every P) m.comment

  abbrev pub entry_every : EntryTree X → Type 0
  entry_every (message m) = message_every m
  entry_every (term m) = term_every m
  entry_every (comment level lines) = list_every P lines
  entry_every (junk x) = P x

  abbrev pub body_every : BodyTree X → Type 0
  body_every = list_every entry_every
