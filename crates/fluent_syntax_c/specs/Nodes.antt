-- The nodes of a tree as rows: each before those that it holds. Each function puts the rows of its node before a tail.
use Rattle.std.specs.Prelude.{◌≡◌, ℕ, suc, ◌+◌, List, [], ◌∷◌, length, Bool, true, false, Option, Some, None}
use Rattle.fluent_syntax_tree.specs.Tree.{KeyTree, name_key, number_key, ExpressionTree, select, inline, InlineTree}
use Rattle.fluent_syntax_tree.specs.Tree.{string_literal, number_literal, function_reference, message_reference}
use Rattle.fluent_syntax_tree.specs.Tree.{term_reference, variable_reference, inline_placeable, ArgumentsTree}
use Rattle.fluent_syntax_tree.specs.Tree.{arguments, MaybeArguments, no_arguments, some_arguments, InlineTrees}
use Rattle.fluent_syntax_tree.specs.Tree.{no_inlines, inlines, NamedTree, named_argument, NamedTrees, no_named, nameds}
use Rattle.fluent_syntax_tree.specs.Tree.{ElementTree, text_element, placeable, PatternTree, no_elements, elements}
use Rattle.fluent_syntax_tree.specs.Tree.{VariantTree, variant, VariantTrees, no_variants, variants}
use Rattle.fluent_syntax_tree.specs.Entry.{AttributeTree, MessageTree, TermTree, EntryTree, message, term, comment}
use Rattle.fluent_syntax_tree.specs.Entry.{junk, Level, regular, group, resource, BodyTree}
use Rattle.fluent_syntax_tree.specs.declared.edition.Edition.{Edition}
use Rattle.fluent_syntax_tree.specs.declared.spans.Span.{Span}
use Rattle.fluent_syntax_grammar.specs.Body.{body}
use Rattle.fluent_syntax_grammar.specs.Tiling.{Tile}
use Rattle.fluent_syntax_c.specs.declared.nodes.FtlNode.{FtlNode}
use Rattle.fluent_syntax_c.specs.declared.nodes.NodeKind.{NodeKind}
use Rattle.fluent_syntax_c.specs.declared.nodes.NodeKind.TheVariants as kind

abbrev pub node_number : NodeKind → ℕ
node_number kind.Message = 1
node_number kind.Term = 2
node_number kind.Comment = 3
node_number kind.GroupComment = 4
node_number kind.ResourceComment = 5
node_number kind.Junk = 6
node_number kind.OwnComment = 7
node_number kind.CommentLine = 8
node_number kind.Attribute = 9
node_number kind.Pattern = 10
node_number kind.Text = 11
node_number kind.Placeable = 12
node_number kind.Select = 13
node_number kind.Variant = 14
node_number kind.DefaultVariant = 15
node_number kind.Identifier = 16
node_number kind.StringLiteral = 17
node_number kind.NumberLiteral = 18
node_number kind.MessageReference = 19
node_number kind.TermReference = 20
node_number kind.VariableReference = 21
node_number kind.FunctionReference = 22
node_number kind.CallArguments = 23
node_number kind.NamedArgument = 24

-- of a node without a name or a text of its own
abbrev pub no_text : Span
no_text = record { start = 0; end = 0 }

-- the row of a node with this name or text, which holds so many
abbrev pub node_row : NodeKind → Span → (held : ℕ) → FtlNode
node_row k s held = record { start = s.start; end = s.end; held = held; kind = node_number k }

abbrev pub Nodes : Type 0
Nodes = List FtlNode

-- ---- how many a node holds

abbrev pub option_count : {A : Type 0} → Option A → ℕ
option_count None = 0
option_count (Some x) = 1

abbrev pub maybe_count : {X : Type 0} → MaybeArguments X → ℕ
maybe_count no_arguments = 0
maybe_count (some_arguments a) = 1

abbrev pub elements_count : {X : Type 0} → PatternTree X → ℕ
elements_count no_elements = 0
elements_count (elements x xs) = suc (elements_count xs)

abbrev pub variants_count : {X : Type 0} → VariantTrees X → ℕ
variants_count no_variants = 0
variants_count (variants x xs) = suc (variants_count xs)

abbrev pub inlines_count : {X : Type 0} → InlineTrees X → ℕ
inlines_count no_inlines = 0
inlines_count (inlines x xs) = suc (inlines_count xs)

abbrev pub nameds_count : {X : Type 0} → NamedTrees X → ℕ
nameds_count no_named = 0
nameds_count (nameds x xs) = suc (nameds_count xs)

-- ---- the rows

abbrev pub key_node : KeyTree Span → FtlNode
key_node (name_key x) = node_row kind.Identifier x 0
key_node (number_key x) = node_row kind.NumberLiteral x 0

-- an attribute that is referred to, if one is
abbrev pub name_nodes : Option Span → Nodes → Nodes
name_nodes None tail = tail
name_nodes (Some x) tail = node_row kind.Identifier x 0 ∷ tail

abbrev pub variant_kind : Bool → NodeKind
variant_kind true = kind.DefaultVariant
variant_kind false = kind.Variant

abbrev mutual
  pub elements_nodes : PatternTree Span → Nodes → Nodes
  elements_nodes no_elements tail = tail
  elements_nodes (elements x xs) tail = element_nodes x (elements_nodes xs tail)

  pub element_nodes : ElementTree Span → Nodes → Nodes
  element_nodes (text_element x) tail = node_row kind.Text x 0 ∷ tail
  element_nodes (placeable e) tail = node_row kind.Placeable no_text 1 ∷ expression_nodes e tail

  pub expression_nodes : ExpressionTree Span → Nodes → Nodes
  expression_nodes (select e vs) tail =
      node_row kind.Select no_text (1 + variants_count vs) ∷ inline_nodes e (variants_nodes vs tail)
  expression_nodes (inline e) tail = inline_nodes e tail

  pub variants_nodes : VariantTrees Span → Nodes → Nodes
  variants_nodes no_variants tail = tail
  variants_nodes (variants x xs) tail = variant_nodes x (variants_nodes xs tail)

  pub variant_nodes : VariantTree Span → Nodes → Nodes
  variant_nodes (variant k p d) tail =
      node_row (variant_kind d) no_text 2 ∷ key_node k
      ∷ node_row kind.Pattern no_text (elements_count p) ∷ elements_nodes p tail

  pub inline_nodes : InlineTree Span → Nodes → Nodes
  inline_nodes (string_literal x) tail = node_row kind.StringLiteral x 0 ∷ tail
  inline_nodes (number_literal x) tail = node_row kind.NumberLiteral x 0 ∷ tail
  inline_nodes (function_reference x a) tail = node_row kind.FunctionReference x 1 ∷ arguments_nodes a tail
  inline_nodes (message_reference x a) tail =
      node_row kind.MessageReference x (option_count a) ∷ name_nodes a tail
  inline_nodes (term_reference x a c) tail =
      node_row kind.TermReference x (option_count a + maybe_count c) ∷ name_nodes a (maybe_nodes c tail)
  inline_nodes (variable_reference x) tail = node_row kind.VariableReference x 0 ∷ tail
  inline_nodes (inline_placeable e) tail = node_row kind.Placeable no_text 1 ∷ expression_nodes e tail

  pub maybe_nodes : MaybeArguments Span → Nodes → Nodes
  maybe_nodes no_arguments tail = tail
  maybe_nodes (some_arguments a) tail = arguments_nodes a tail

  pub arguments_nodes : ArgumentsTree Span → Nodes → Nodes
  arguments_nodes (arguments ps ns) tail =
      node_row kind.CallArguments no_text (inlines_count ps + nameds_count ns)
      ∷ inlines_nodes ps (nameds_nodes ns tail)

  pub inlines_nodes : InlineTrees Span → Nodes → Nodes
  inlines_nodes no_inlines tail = tail
  inlines_nodes (inlines x xs) tail = inline_nodes x (inlines_nodes xs tail)

  pub nameds_nodes : NamedTrees Span → Nodes → Nodes
  nameds_nodes no_named tail = tail
  nameds_nodes (nameds x xs) tail = named_nodes x (nameds_nodes xs tail)

  pub named_nodes : NamedTree Span → Nodes → Nodes
  named_nodes (named_argument x e) tail = node_row kind.NamedArgument x 1 ∷ inline_nodes e tail

abbrev pub pattern_nodes : PatternTree Span → Nodes → Nodes
pattern_nodes p tail = node_row kind.Pattern no_text (elements_count p) ∷ elements_nodes p tail

abbrev pub attribute_nodes : AttributeTree Span → Nodes → Nodes
attribute_nodes a tail = node_row kind.Attribute a.id 1 ∷ pattern_nodes a.value tail

abbrev pub attributes_nodes : List (AttributeTree Span) → Nodes → Nodes
attributes_nodes [] tail = tail
attributes_nodes (a ∷ as') tail = attribute_nodes a (attributes_nodes as' tail)

abbrev pub value_nodes : Option (PatternTree Span) → Nodes → Nodes
value_nodes None tail = tail
value_nodes (Some p) tail = pattern_nodes p tail

abbrev pub line_nodes : Span → Nodes → Nodes
line_nodes x tail = node_row kind.CommentLine x 0 ∷ tail

abbrev pub lines_nodes : List Span → Nodes → Nodes
lines_nodes [] tail = tail
lines_nodes (x ∷ xs) tail = line_nodes x (lines_nodes xs tail)

abbrev pub comment_nodes : NodeKind → List Span → Nodes → Nodes
comment_nodes k lines tail = node_row k no_text (length lines) ∷ lines_nodes lines tail

-- the comment of a message or a term, which comes before it
abbrev pub own_comment_nodes : Option (List Span) → Nodes → Nodes
own_comment_nodes None tail = tail
own_comment_nodes (Some lines) tail = comment_nodes kind.OwnComment lines tail

abbrev pub message_nodes : MessageTree Span → Nodes → Nodes
message_nodes m tail =
    own_comment_nodes m.comment (node_row kind.Message m.id (option_count m.value + length m.attributes)
    ∷ value_nodes m.value (attributes_nodes m.attributes tail))

abbrev pub term_nodes : TermTree Span → Nodes → Nodes
term_nodes m tail =
    own_comment_nodes m.comment (node_row kind.Term m.id (1 + length m.attributes)
    ∷ pattern_nodes m.value (attributes_nodes m.attributes tail))

abbrev pub level_kind : Level → NodeKind
level_kind regular = kind.Comment
level_kind group = kind.GroupComment
level_kind resource = kind.ResourceComment

abbrev pub entry_nodes : EntryTree Span → Nodes → Nodes
entry_nodes (message m) tail = message_nodes m tail
entry_nodes (term m) tail = term_nodes m tail
entry_nodes (comment level lines) tail = comment_nodes (level_kind level) lines tail
entry_nodes (junk x) tail = node_row kind.Junk x 0 ∷ tail

abbrev pub body_nodes : BodyTree Span → Nodes → Nodes
body_nodes [] tail = tail
body_nodes (e ∷ es) tail = entry_nodes e (body_nodes es tail)

-- The rows are those of the tree of the tiles.
abbrev pub are_nodes : Edition → List ℕ → List Tile → List FtlNode → Type 0
are_nodes edition t tiles rows = rows ≡ body_nodes (body tiles) []
