-- What entries say of names, in the order of the text. Each function puts the mentions of its node before a tail.
use Rattle.std.specs.Prelude.{ℕ, ◌+◌, Bool, true, false, List, [], ◌∷◌, Option, Some, None, filter, is_some}
use Rattle.std.specs.List.{filter_map}
use Rattle.fluent_syntax_tree.specs.Tree.{ExpressionTree, select, inline, InlineTree, string_literal, number_literal}
use Rattle.fluent_syntax_tree.specs.Tree.{function_reference, message_reference, term_reference, variable_reference}
use Rattle.fluent_syntax_tree.specs.Tree.{inline_placeable, ArgumentsTree, arguments, MaybeArguments, no_arguments}
use Rattle.fluent_syntax_tree.specs.Tree.{some_arguments, InlineTrees, no_inlines, inlines, NamedTree, named_argument}
use Rattle.fluent_syntax_tree.specs.Tree.{NamedTrees, no_named, nameds, ElementTree, text_element, placeable}
use Rattle.fluent_syntax_tree.specs.Tree.{PatternTree, no_elements, elements, VariantTree, variant, VariantTrees}
use Rattle.fluent_syntax_tree.specs.Tree.{no_variants, variants, KeyTree, name_key, number_key}
use Rattle.fluent_syntax_tree.specs.Entry.{AttributeTree, MessageTree, TermTree, EntryTree, message, term, comment}
use Rattle.fluent_syntax_tree.specs.Entry.{junk, BodyTree}
use Rattle.fluent_syntax_tree.specs.Tree.{option_texts}
use Rattle.fluent_syntax_tree.specs.declared.spans.Span.{Span}
use Rattle.fluent_syntax_names.specs.declared.mention.Mention.{Mention}
use Rattle.fluent_syntax_names.specs.declared.mention.Mention.TheVariants as says

abbrev pub Mentions : Type 0 → Type 0
Mentions X = List (Mention X)

-- as it is spelled
abbrev pub key_text : {X : Type 0} → KeyTree X → X
key_text (name_key x) = x
key_text (number_key x) = x

abbrev pub variant_key : {X : Type 0} → VariantTree X → X
variant_key (variant k p d) = key_text k

abbrev mutual
  pub expression_mentions : {X : Type 0} → ExpressionTree X → Mentions X → Mentions X
  expression_mentions (select e vs) tail = inline_mentions e (select_mentions vs tail)
  expression_mentions (inline e) tail = inline_mentions e tail

  pub inline_mentions : {X : Type 0} → InlineTree X → Mentions X → Mentions X
  inline_mentions (string_literal x) tail = tail
  inline_mentions (number_literal x) tail = tail
  inline_mentions (function_reference x a) tail = says.Function x ∷ arguments_mentions a tail
  inline_mentions (message_reference x a) tail = says.MessageReference x a ∷ tail
  inline_mentions (term_reference x a c) tail = says.TermReference x a ∷ maybe_mentions c tail
  inline_mentions (variable_reference x) tail = says.Variable x ∷ tail
  inline_mentions (inline_placeable e) tail = expression_mentions e tail

  pub arguments_mentions : {X : Type 0} → ArgumentsTree X → Mentions X → Mentions X
  arguments_mentions (arguments ps ns) tail = inlines_mentions ps (nameds_mentions ns tail)

  pub maybe_mentions : {X : Type 0} → MaybeArguments X → Mentions X → Mentions X
  maybe_mentions no_arguments tail = tail
  maybe_mentions (some_arguments a) tail = arguments_mentions a tail

  pub inlines_mentions : {X : Type 0} → InlineTrees X → Mentions X → Mentions X
  inlines_mentions no_inlines tail = tail
  inlines_mentions (inlines x xs) tail = inline_mentions x (inlines_mentions xs tail)

  pub named_mentions : {X : Type 0} → NamedTree X → Mentions X → Mentions X
  named_mentions (named_argument x e) tail = inline_mentions e tail

  pub nameds_mentions : {X : Type 0} → NamedTrees X → Mentions X → Mentions X
  nameds_mentions no_named tail = tail
  nameds_mentions (nameds x xs) tail = named_mentions x (nameds_mentions xs tail)

  pub element_mentions : {X : Type 0} → ElementTree X → Mentions X → Mentions X
  element_mentions (text_element x) tail = tail
  element_mentions (placeable e) tail = expression_mentions e tail

  pub pattern_mentions : {X : Type 0} → PatternTree X → Mentions X → Mentions X
  pattern_mentions no_elements tail = tail
  pattern_mentions (elements x xs) tail = element_mentions x (pattern_mentions xs tail)

  -- of a select with this first key
  pub variant_mentions : {X : Type 0} → X → VariantTree X → Mentions X → Mentions X
  variant_mentions first (variant k p d) tail = says.VariantKey (key_text k) first ∷ pattern_mentions p tail

  pub variants_mentions : {X : Type 0} → X → VariantTrees X → Mentions X → Mentions X
  variants_mentions first no_variants tail = tail
  variants_mentions first (variants x xs) tail = variant_mentions first x (variants_mentions first xs tail)

  -- all variants of a select
  pub select_mentions : {X : Type 0} → VariantTrees X → Mentions X → Mentions X
  select_mentions no_variants tail = tail
  select_mentions (variants x xs) tail =
      variant_mentions (variant_key x) x (variants_mentions (variant_key x) xs tail)

module _ {X : Type 0} where
  abbrev pub attribute_mentions : AttributeTree X → Mentions X → Mentions X
  attribute_mentions a tail = says.Attribute a.id ∷ pattern_mentions a.value tail

  abbrev pub attributes_mentions : List (AttributeTree X) → Mentions X → Mentions X
  attributes_mentions [] tail = tail
  attributes_mentions (a ∷ as') tail = attribute_mentions a (attributes_mentions as' tail)

  abbrev pub value_mentions : Option (PatternTree X) → Mentions X → Mentions X
  value_mentions None tail = tail
  value_mentions (Some p) tail = pattern_mentions p tail

  abbrev pub message_mentions : MessageTree X → Mentions X → Mentions X
  message_mentions m tail =
      says.Message m.id (is_some m.value) ∷ value_mentions m.value (attributes_mentions m.attributes tail)

  abbrev pub term_mentions : TermTree X → Mentions X → Mentions X
  term_mentions t tail = says.Term t.id ∷ pattern_mentions t.value (attributes_mentions t.attributes tail)

  abbrev pub entry_mentions : EntryTree X → Mentions X → Mentions X
  entry_mentions (message m) tail = message_mentions m tail
  entry_mentions (term t) tail = term_mentions t tail
  entry_mentions (comment level lines) tail = tail
  entry_mentions (junk x) tail = says.Junk x ∷ tail

  abbrev pub body_mentions : BodyTree X → Mentions X → Mentions X
  body_mentions [] tail = tail
  body_mentions (e ∷ es) tail = entry_mentions e (body_mentions es tail)

  -- ---- Which mention is what

  abbrev pub is_definition : Mention X → Bool
  is_definition (says.Message x v) = true
  is_definition (says.Term x) = true
  is_definition (says.Attribute x) = true
  is_definition _ = false

  abbrev pub is_reference : Mention X → Bool
  is_reference (says.MessageReference x a) = true
  is_reference (says.TermReference x a) = true
  is_reference (says.Function x) = true
  is_reference _ = false

  abbrev pub variable_of : Mention X → Option X
  variable_of (says.Variable x) = Some x
  variable_of _ = None

  -- ---- Of an entry

  abbrev pub defined : EntryTree X → Mentions X
  defined e = filter is_definition (entry_mentions e [])

  abbrev pub references : EntryTree X → Mentions X
  references e = filter is_reference (entry_mentions e [])

  abbrev pub variables : EntryTree X → List X
  variables e = filter_map variable_of (entry_mentions e [])

-- ---- Mentions further on

-- the mention with f of each text in its place
abbrev pub mention_map : {X Y : Type 0} → (X → Y) → Mention X → Mention Y
mention_map f (says.Message x v) = says.Message (f x) v
mention_map f (says.Term x) = says.Term (f x)
mention_map f (says.Attribute x) = says.Attribute (f x)
mention_map f (says.Junk x) = says.Junk (f x)
mention_map f (says.MessageReference x a) = says.MessageReference (f x) (option_texts f a)
mention_map f (says.TermReference x a) = says.TermReference (f x) (option_texts f a)
mention_map f (says.Variable x) = says.Variable (f x)
mention_map f (says.Function x) = says.Function (f x)
mention_map f (says.VariantKey x first) = says.VariantKey (f x) (f first)

-- the range so many bytes on
abbrev pub shifted_span : ℕ → Span → Span
shifted_span base s = record { start = base + s.start; end = base + s.end }
