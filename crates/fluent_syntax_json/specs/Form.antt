-- The JSON form of a tree: an object for each node, with each of its fields at a key of the field's name; a list for a
-- list, and null for what is not there. Entries, elements, keys and inline expressions have the name of their variant
-- at the key `type`; variants, argument lists and named arguments their own; no other node has a type.
use Rattle.std.specs.Prelude.{List, [], ◌∷◌, Option, Some, None, codes, map}
use Rattle.serde_json.specs.Data.{Data, null, boolean, string, array, Items, no_items, item}
use Rattle.serde_json.specs.View.{items_of}
use Rattle.fluent_syntax_tree.specs.Tree.{KeyTree, name_key, number_key, ExpressionTree, select, inline, InlineTree}
use Rattle.fluent_syntax_tree.specs.Tree.{string_literal, number_literal, function_reference, message_reference}
use Rattle.fluent_syntax_tree.specs.Tree.{term_reference, variable_reference, inline_placeable, ArgumentsTree}
use Rattle.fluent_syntax_tree.specs.Tree.{arguments, MaybeArguments, no_arguments, some_arguments, InlineTrees}
use Rattle.fluent_syntax_tree.specs.Tree.{no_inlines, inlines, NamedTree, named_argument, NamedTrees, no_named, nameds}
use Rattle.fluent_syntax_tree.specs.Tree.{ElementTree, text_element, placeable, PatternTree, no_elements, elements}
use Rattle.fluent_syntax_tree.specs.Tree.{VariantTree, variant, VariantTrees, no_variants, variants}
use Rattle.fluent_syntax_tree.specs.Entry.{AttributeTree, MessageTree, TermTree, EntryTree, message, term, comment}
use Rattle.fluent_syntax_tree.specs.Entry.{junk, Level, regular, group, resource, BodyTree}
use Rattle.fluent_syntax_json.specs.Object.{Text, object_with, object_of}

-- an identifier
abbrev pub name_form : Text → Data
name_form x = object_with ((codes "name", string x) ∷ [])

-- null for what is not there
abbrev pub or_null : {A : Type 0} → (A → Data) → Option A → Data
or_null form None = null
or_null form (Some x) = form x

-- a variant's key
abbrev pub key_form : KeyTree Text → Data
key_form (name_key x) = object_of (codes "Identifier") ((codes "name", string x) ∷ [])
key_form (number_key x) = object_of (codes "NumberLiteral") ((codes "value", string x) ∷ [])

-- a pattern, from the forms of its elements
abbrev pub pattern_of : Items → Data
pattern_of items = object_with ((codes "elements", array items) ∷ [])

abbrev mutual
  -- the elements of a pattern
  pub element_forms : PatternTree Text → Items
  element_forms no_elements = no_items
  element_forms (elements x xs) = item (element_form x) (element_forms xs)

  -- a pattern's element
  pub element_form : ElementTree Text → Data
  element_form (text_element x) = object_of (codes "TextElement") ((codes "value", string x) ∷ [])
  element_form (placeable e) =
      object_of (codes "Placeable") ((codes "expression", expression_form e) ∷ [])

  -- an expression: an inline one has no object of its own, and a select has no type
  pub expression_form : ExpressionTree Text → Data
  expression_form (select e vs) = object_with (
      (codes "selector", inline_form e) ∷ (codes "variants", array (variant_forms vs)) ∷ [])
  expression_form (inline e) = inline_form e

  -- the variants of a select
  pub variant_forms : VariantTrees Text → Items
  variant_forms no_variants = no_items
  variant_forms (variants x xs) = item (variant_form x) (variant_forms xs)

  -- a variant
  pub variant_form : VariantTree Text → Data
  variant_form (variant k p d) = object_of (codes "Variant") (
      (codes "key", key_form k) ∷ (codes "value", pattern_of (element_forms p)) ∷ (codes "default", boolean d) ∷ [])

  -- an inline expression
  pub inline_form : InlineTree Text → Data
  inline_form (string_literal x) =
      object_of (codes "StringLiteral") ((codes "value", string x) ∷ [])
  inline_form (number_literal x) =
      object_of (codes "NumberLiteral") ((codes "value", string x) ∷ [])
  inline_form (function_reference x a) = object_of (codes "FunctionReference") (
      (codes "id", name_form x) ∷ (codes "arguments", arguments_form a) ∷ [])
  inline_form (message_reference x a) = object_of (codes "MessageReference") (
      (codes "id", name_form x) ∷ (codes "attribute", or_null name_form a) ∷ [])
  inline_form (term_reference x a c) = object_of (codes "TermReference") (
      (codes "id", name_form x) ∷ (codes "attribute", or_null name_form a) ∷ (codes "arguments", maybe_form c) ∷ [])
  inline_form (variable_reference x) =
      object_of (codes "VariableReference") ((codes "id", name_form x) ∷ [])
  inline_form (inline_placeable e) =
      object_of (codes "Placeable") ((codes "expression", expression_form e) ∷ [])

  -- the arguments of a term, or null
  pub maybe_form : MaybeArguments Text → Data
  maybe_form no_arguments = null
  maybe_form (some_arguments a) = arguments_form a

  -- the arguments of a call
  pub arguments_form : ArgumentsTree Text → Data
  arguments_form (arguments ps ns) = object_of (codes "CallArguments") (
      (codes "positional", array (inline_forms ps)) ∷ (codes "named", array (named_forms ns)) ∷ [])

  -- positional arguments
  pub inline_forms : InlineTrees Text → Items
  inline_forms no_inlines = no_items
  inline_forms (inlines x xs) = item (inline_form x) (inline_forms xs)

  -- named arguments
  pub named_forms : NamedTrees Text → Items
  named_forms no_named = no_items
  named_forms (nameds x xs) = item (named_form x) (named_forms xs)

  -- a named argument
  pub named_form : NamedTree Text → Data
  named_form (named_argument x e) = object_of (codes "NamedArgument") (
      (codes "name", name_form x) ∷ (codes "value", inline_form e) ∷ [])

-- a pattern
abbrev pub pattern_form : PatternTree Text → Data
pattern_form p = pattern_of (element_forms p)

-- a list, item by item
abbrev pub list_form : {A : Type 0} → (A → Data) → List A → Data
list_form form xs = array (items_of (map form xs))

-- the lines of a comment
abbrev pub lines_form : List Text → Data
lines_form = list_form string

-- a comment as a field of a message or a term
abbrev pub comment_form : List Text → Data
comment_form lines = object_with ((codes "content", lines_form lines) ∷ [])

-- an attribute
abbrev pub attribute_form : AttributeTree Text → Data
attribute_form a =
    object_with ((codes "id", name_form a.id) ∷ (codes "value", pattern_form a.value) ∷ [])

-- a message
abbrev pub message_form : MessageTree Text → Data
message_form m = object_of (codes "Message") (
    (codes "id", name_form m.id)
    ∷ (codes "value", or_null pattern_form m.value)
    ∷ (codes "attributes", list_form attribute_form m.attributes)
    ∷ (codes "comment", or_null comment_form m.comment)
    ∷ [])

-- a term
abbrev pub term_form : TermTree Text → Data
term_form m = object_of (codes "Term") (
    (codes "id", name_form m.id)
    ∷ (codes "value", pattern_form m.value)
    ∷ (codes "attributes", list_form attribute_form m.attributes)
    ∷ (codes "comment", or_null comment_form m.comment)
    ∷ [])

-- the name of a comment of this level
abbrev pub comment_type : Level → Text
comment_type regular = codes "Comment"
comment_type group = codes "GroupComment"
comment_type resource = codes "ResourceComment"

-- an entry
abbrev pub entry_form : EntryTree Text → Data
entry_form (message m) = message_form m
entry_form (term m) = term_form m
entry_form (comment level lines) =
    object_of (comment_type level) ((codes "content", lines_form lines) ∷ [])
entry_form (junk x) = object_of (codes "Junk") ((codes "content", string x) ∷ [])

-- a resource
abbrev pub body_form : BodyTree Text → Data
body_form entries = object_with ((codes "body", list_form entry_form entries) ∷ [])
