-- The tree that a value spells. Each node is an object; a key that a rule below does not look at may
-- have any value, and where it looks, a value of another kind spells nothing.
use Rattle.std.specs.Prelude.{List, [], ◌∷◌, Option, Some, None, option_map, option_and_then, if◌then◌else◌, codes}
use Rattle.std.specs.Str.{bytes_eq}
use Rattle.serde_json.specs.Data.{Data, null, boolean, number, string, array, object, Items, no_items, item, Members}
use Rattle.serde_json.specs.Data.{no_members, member}
use Rattle.serde_json.specs.Find.{get, as_str, as_bool, as_array}
use Rattle.std.specs.Ordering.{nat_cmp, match_ordering}
use Rattle.std.specs.Cmp.Lexicographic.{slice_cmp}
use Rattle.fluent_syntax_tree.specs.Tree.{KeyTree, name_key, number_key, ExpressionTree, select, inline, InlineTree}
use Rattle.fluent_syntax_tree.specs.Tree.{string_literal, number_literal, function_reference, message_reference}
use Rattle.fluent_syntax_tree.specs.Tree.{term_reference, variable_reference, inline_placeable, ArgumentsTree}
use Rattle.fluent_syntax_tree.specs.Tree.{arguments, MaybeArguments, no_arguments, some_arguments, inlines_of}
use Rattle.fluent_syntax_tree.specs.Tree.{NamedTree, named_argument, nameds_of, ElementTree, text_element, placeable}
use Rattle.fluent_syntax_tree.specs.Tree.{PatternTree, elements_of, VariantTree, variant, variants_of}
use Rattle.fluent_syntax_tree.specs.Entry.{AttributeTree, MessageTree, TermTree, EntryTree, message, term, comment}
use Rattle.fluent_syntax_tree.specs.Entry.{junk, regular, group, resource, BodyTree}
use Rattle.fluent_syntax_json.specs.Object.{Text}

infixl 10 ◌>>=◌
-- what a rule makes of what there is, and nothing where there is nothing
abbrev pub ◌>>=◌ : {A B : Type 0} → Option A → (A → Option B) → Option B
o >>= f = option_and_then f o

-- what is at a key, read by a rule; nothing where the value is no object or has no such key
abbrev pub at : {A : Type 0} → (Data → Option A) → Text → Data → Option A
at read key d = get key d >>= read

-- the value, unless it is null
abbrev pub unless_null : Data → Option Data
unless_null null = None
unless_null (boolean b) = Some (boolean b)
unless_null (number n) = Some (number n)
unless_null (string s) = Some (string s)
unless_null (array ds) = Some (array ds)
unless_null (object ms) = Some (object ms)

-- what is at a key that may be absent or null, which mean the same
abbrev pub present : Text → Data → Option Data
present key d = get key d >>= unless_null

-- what may not be there, read by a rule where it is
abbrev pub maybe : {A : Type 0} → (Data → Option A) → Option Data → Option (Option A)
maybe read None = Some None
maybe read (Some d) = option_map Some (read d)

-- one more before the rest
abbrev pub one_more : {A : Type 0} → Option A → Option (List A) → Option (List A)
one_more o p = do
  x ← o
  xs ← p
  Some (x ∷ xs)

-- the items of a list, each read by a rule; nothing where the rule reads one of them as nothing
abbrev pub items_by : {A : Type 0} → (Data → Option A) → Items → Option (List A)
items_by read no_items = Some []
items_by read (item d ds) = one_more (read d) (items_by read ds)

-- a list whose items are each read by a rule
abbrev pub list_by : {A : Type 0} → (Data → Option A) → Data → Option (List A)
list_by read d = as_array d >>= items_by read

-- the name of a node's type
abbrev pub type_in : Data → Option Text
type_in d = at as_str (codes "type") d

-- an identifier
abbrev pub name_in : Data → Option Text
name_in d = at as_str (codes "name") d

-- a reference's attribute, which may be absent or null
abbrev pub attribute_name_in : Data → Option (Option Text)
attribute_name_in d = maybe name_in (present (codes "attribute") d)

-- a variant's key, of which the name of its type is known
abbrev pub key_of_type : Text → Data → Option (KeyTree Text)
key_of_type t d =
    if bytes_eq t (codes "Identifier") then option_map name_key (at as_str (codes "name") d)
    else (if bytes_eq t (codes "NumberLiteral") then option_map number_key (at as_str (codes "value") d)
    else None)

-- a variant's key
abbrev pub key_in : Data → Option (KeyTree Text)
key_in d = type_in d >>= λ t. key_of_type t d

-- What a value spells, by what is expected: a pattern, a pattern's element, and so on, and a list of them.
-- A part of a node is read by taking what it spells as the node expects it.
pub record Spelled : Type 0 where
  pub as_pattern : Option (PatternTree Text)
  pub as_element : Option (ElementTree Text)
  pub as_expression : Option (ExpressionTree Text)
  pub as_inline : Option (InlineTree Text)
  pub as_arguments : Option (ArgumentsTree Text)
  pub as_named : Option (NamedTree Text)
  pub as_variant : Option (VariantTree Text)
  pub as_elements : Option (List (ElementTree Text))
  pub as_inlines : Option (List (InlineTree Text))
  pub as_nameds : Option (List (NamedTree Text))
  pub as_variants : Option (List (VariantTree Text))

-- neither an object nor a list
abbrev pub no_node : Spelled
no_node = record {
  as_pattern = None;
  as_element = None;
  as_expression = None;
  as_inline = None;
  as_arguments = None;
  as_named = None;
  as_variant = None;
  as_elements = None;
  as_inlines = None;
  as_nameds = None;
  as_variants = None;
}

-- a list without items
abbrev pub empty_list : Spelled
empty_list = record no_node {
  as_elements = Some [];
  as_inlines = Some [];
  as_nameds = Some [];
  as_variants = Some [];
}

-- a list, by its first item and the rest
abbrev pub longer_list : Spelled → Spelled → Spelled
longer_list first rest = record no_node {
  as_elements = one_more first.as_element rest.as_elements;
  as_inlines = one_more first.as_inline rest.as_inlines;
  as_nameds = one_more first.as_named rest.as_nameds;
  as_variants = one_more first.as_variant rest.as_variants;
}

-- The rules of the nodes that nest. Each takes the value, and what the values at its keys spell as the
-- node expects them.

-- a pattern's element, of which the name of its type is known
abbrev pub element_rule : Data → (expression : Option (ExpressionTree Text)) → Text → Option (ElementTree Text)
element_rule d expression t =
    if bytes_eq t (codes "TextElement") then option_map text_element (at as_str (codes "value") d)
    else (if bytes_eq t (codes "Placeable") then option_map placeable expression
    else None)

-- the arguments of a term, which may be absent or null: what is present there, and what it spells
abbrev pub maybe_arguments_rule : Option Data → Option (ArgumentsTree Text) → Option (MaybeArguments Text)
maybe_arguments_rule None given = Some no_arguments
maybe_arguments_rule (Some d) given = option_map some_arguments given

-- an inline expression, of which the name of its type is known
abbrev pub inline_rule : Data → (given : Option (ArgumentsTree Text)) → (expression : Option (ExpressionTree Text)) →
    Text → Option (InlineTree Text)
inline_rule d given expression t =
    if bytes_eq t (codes "StringLiteral") then option_map string_literal (at as_str (codes "value") d)
    else (if bytes_eq t (codes "NumberLiteral") then option_map number_literal (at as_str (codes "value") d)
    else (if bytes_eq t (codes "FunctionReference") then (do
      x ← at name_in (codes "id") d
      a ← given
      Some (function_reference x a))
    else (if bytes_eq t (codes "MessageReference") then (do
      x ← at name_in (codes "id") d
      a ← attribute_name_in d
      Some (message_reference x a))
    else (if bytes_eq t (codes "TermReference") then (do
      x ← at name_in (codes "id") d
      a ← attribute_name_in d
      c ← maybe_arguments_rule (present (codes "arguments") d) given
      Some (term_reference x a c))
    else (if bytes_eq t (codes "VariableReference") then option_map variable_reference (at name_in (codes "id") d)
    else (if bytes_eq t (codes "Placeable") then option_map inline_placeable expression
    else None))))))

-- An expression: a select where there is a key `selector`, whatever else is there, and otherwise what the
-- object itself spells as an inline expression.
abbrev pub expression_rule : Option Data → (selector : Option (InlineTree Text)) →
    (choices : Option (List (VariantTree Text))) → (itself : Option (InlineTree Text)) → Option (ExpressionTree Text)
expression_rule None selector choices itself = option_map inline itself
expression_rule (Some d) selector choices itself = do
  e ← selector
  vs ← choices
  Some (select e (variants_of vs))

-- the arguments of a call
abbrev pub arguments_rule : (positional : Option (List (InlineTree Text))) → (named : Option (List (NamedTree Text))) →
    Option (ArgumentsTree Text)
arguments_rule positional named = do
  ps ← positional
  ns ← named
  Some (arguments (inlines_of ps) (nameds_of ns))

-- a named argument
abbrev pub named_rule : Data → (value : Option (InlineTree Text)) → Option (NamedTree Text)
named_rule d value = do
  x ← at name_in (codes "name") d
  e ← value
  Some (named_argument x e)

-- a variant
abbrev pub variant_rule : Data → (value : Option (PatternTree Text)) → Option (VariantTree Text)
variant_rule d value = do
  k ← at key_in (codes "key") d
  p ← value
  b ← at as_bool (codes "default") d
  Some (variant k p b)

-- An object, of which `part key` is what the value at that key spells.
module _ (d : Data) (part : Text → Option Spelled) where
  -- the part at a key, as the node expects it
  abbrev pub child : {A : Type 0} → (Spelled → Option A) → Text → Option A
  child expected key = part key >>= expected

  -- as an inline expression
  abbrev pub inline_of_object : Option (InlineTree Text)
  inline_of_object =
      type_in d >>= inline_rule d (child (λ s. s.as_arguments) (codes "arguments"))
      (child (λ s. s.as_expression) (codes "expression"))

  -- as each of the nodes, by the rule of that node
  abbrev pub object_spelled : Spelled
  object_spelled = record no_node {
    as_pattern = option_map elements_of (child (λ s. s.as_elements) (codes "elements"));
    as_element = type_in d >>= element_rule d (child (λ s. s.as_expression) (codes "expression"));
    as_expression =
        expression_rule (get (codes "selector") d) (child (λ s. s.as_inline) (codes "selector"))
        (child (λ s. s.as_variants) (codes "variants")) inline_of_object;
    as_inline = inline_of_object;
    as_arguments =
        arguments_rule (child (λ s. s.as_inlines) (codes "positional")) (child (λ s. s.as_nameds) (codes "named"));
    as_named = named_rule d (child (λ s. s.as_inline) (codes "value"));
    as_variant = variant_rule d (child (λ s. s.as_pattern) (codes "value"));
  }

abbrev mutual
  -- what a value spells
  pub spelled : Data → Spelled
  spelled null = no_node
  spelled (boolean b) = no_node
  spelled (number n) = no_node
  spelled (string s) = no_node
  spelled (array ds) = items_spelled ds
  spelled (object ms) = object_spelled (object ms) (part_spelled ms)

  -- what a list of these items spells
  pub items_spelled : Items → Spelled
  items_spelled no_items = empty_list
  items_spelled (item d ds) = longer_list (spelled d) (items_spelled ds)

  -- what the value at a key of these members spells
  pub part_spelled : Members → Text → Option Spelled
  part_spelled no_members k = None
  part_spelled (member l d ms) k =
      match_ordering (slice_cmp nat_cmp k l) (part_spelled ms k) (Some (spelled d)) (part_spelled ms k)

-- a pattern
unfoldable pub pattern_in : Data → Option (PatternTree Text)
pattern_in d = (spelled d).as_pattern

-- a pattern's element
unfoldable pub element_in : Data → Option (ElementTree Text)
element_in d = (spelled d).as_element

-- an expression
unfoldable pub expression_in : Data → Option (ExpressionTree Text)
expression_in d = (spelled d).as_expression

-- an inline expression
unfoldable pub inline_in : Data → Option (InlineTree Text)
inline_in d = (spelled d).as_inline

-- the arguments of a call
unfoldable pub arguments_in : Data → Option (ArgumentsTree Text)
arguments_in d = (spelled d).as_arguments

-- a named argument
unfoldable pub named_in : Data → Option (NamedTree Text)
named_in d = (spelled d).as_named

-- a variant
unfoldable pub variant_in : Data → Option (VariantTree Text)
variant_in d = (spelled d).as_variant

-- a comment's content: a list of lines, or one line
abbrev pub lines_in : Data → Option (List Text)
lines_in null = None
lines_in (boolean b) = None
lines_in (number n) = None
lines_in (string s) = Some (s ∷ [])
lines_in (array ds) = items_by as_str ds
lines_in (object ms) = None

-- a comment, as an entry or of a message or a term
abbrev pub comment_in : Data → Option (List Text)
comment_in d = at lines_in (codes "content") d

-- the comment of a message or a term, which may be absent or null
abbrev pub attached_in : Data → Option (Option (List Text))
attached_in d = maybe comment_in (present (codes "comment") d)

-- an attribute
abbrev pub attribute_in : Data → Option (AttributeTree Text)
attribute_in d = do
  x ← at name_in (codes "id") d
  p ← at pattern_in (codes "value") d
  Some (record { id = x; value = p })

-- the value of a message, which may be absent or null
abbrev pub value_in : Data → Option (Option (PatternTree Text))
value_in d = maybe pattern_in (present (codes "value") d)

-- a message
abbrev pub message_in : Data → Option (MessageTree Text)
message_in d = do
  x ← at name_in (codes "id") d
  p ← value_in d
  attributes ← at (list_by attribute_in) (codes "attributes") d
  c ← attached_in d
  Some (record { id = x; value = p; attributes = attributes; comment = c })

-- a term
abbrev pub term_in : Data → Option (TermTree Text)
term_in d = do
  x ← at name_in (codes "id") d
  p ← at pattern_in (codes "value") d
  attributes ← at (list_by attribute_in) (codes "attributes") d
  c ← attached_in d
  Some (record { id = x; value = p; attributes = attributes; comment = c })

-- an entry, of which the name of its type is known
abbrev pub entry_of_type : Text → Data → Option (EntryTree Text)
entry_of_type t d =
    if bytes_eq t (codes "Message") then option_map message (message_in d)
    else (if bytes_eq t (codes "Term") then option_map term (term_in d)
    else (if bytes_eq t (codes "Comment") then option_map (comment regular) (comment_in d)
    else (if bytes_eq t (codes "GroupComment") then option_map (comment group) (comment_in d)
    else (if bytes_eq t (codes "ResourceComment") then option_map (comment resource) (comment_in d)
    else (if bytes_eq t (codes "Junk") then option_map junk (at as_str (codes "content") d)
    else None)))))

-- an entry
abbrev pub entry_in : Data → Option (EntryTree Text)
entry_in d = type_in d >>= λ t. entry_of_type t d

-- a resource
abbrev pub body_in : Data → Option (BodyTree Text)
body_in d = at (list_by entry_in) (codes "body") d
