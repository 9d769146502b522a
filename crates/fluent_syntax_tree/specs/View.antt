-- The tree that a value of `ast` represents: each text is read by `text`.
use Rattle.std.specs.Prelude.{List, map, option_map}
use Rattle.fluent_syntax_tree.specs.Tree.{KeyTree, name_key, number_key, ExpressionTree, select, inline, InlineTree}
use Rattle.fluent_syntax_tree.specs.Tree.{string_literal, number_literal, function_reference, message_reference}
use Rattle.fluent_syntax_tree.specs.Tree.{term_reference, variable_reference, inline_placeable, ArgumentsTree}
use Rattle.fluent_syntax_tree.specs.Tree.{arguments, arguments_of, inlines_of, NamedTree, named_argument, nameds_of}
use Rattle.fluent_syntax_tree.specs.Tree.{ElementTree, text_element, placeable, PatternTree, elements_of, VariantTree}
use Rattle.fluent_syntax_tree.specs.Tree.{variant, variants_of}
use Rattle.fluent_syntax_tree.specs.Entry.{AttributeTree, MessageTree, TermTree, EntryTree, message, term, comment}
use Rattle.fluent_syntax_tree.specs.Entry.{junk, regular, group, resource, BodyTree}
use Rattle.fluent_syntax_tree.specs.declared.ast.Resource.{Resource}
use Rattle.fluent_syntax_tree.specs.declared.ast.Entry.{Entry}
use Rattle.fluent_syntax_tree.specs.declared.ast.Entry.TheVariants as entries
use Rattle.fluent_syntax_tree.specs.declared.ast.Message.{Message}
use Rattle.fluent_syntax_tree.specs.declared.ast.Term.{Term}
use Rattle.fluent_syntax_tree.specs.declared.ast.Attribute.{Attribute}
use Rattle.fluent_syntax_tree.specs.declared.ast.Comment.{Comment}
use Rattle.fluent_syntax_tree.specs.declared.ast.Identifier.{Identifier}
use Rattle.fluent_syntax_tree.specs.declared.ast.VariantKey.{VariantKey}
use Rattle.fluent_syntax_tree.specs.declared.ast.VariantKey.TheVariants as key
use Rattle.fluent_syntax_tree.specs.declared.ast.Expression.{Expression}
use Rattle.fluent_syntax_tree.specs.declared.ast.InlineExpression.{InlineExpression}
use Rattle.fluent_syntax_tree.specs.declared.ast.PatternElement.{PatternElement}
use Rattle.fluent_syntax_tree.specs.declared.ast.CallArguments.{CallArguments}
use Rattle.fluent_syntax_tree.specs.declared.ast.NamedArgument.{NamedArgument}
use Rattle.fluent_syntax_tree.specs.declared.ast.Pattern.{Pattern}
use Rattle.fluent_syntax_tree.specs.declared.ast.Variant.{Variant}
use Rattle.fluent_syntax_tree.specs.declared.ast.Expression.TheOpen as open'
use Rattle.fluent_syntax_tree.specs.declared.ast.Expression.TheOpen.{Expression-F, InlineExpression-F, PatternElement-F}
use Rattle.fluent_syntax_tree.specs.declared.ast.Expression.TheOpen.{CallArguments-F, NamedArgument-F, Pattern-F}
use Rattle.fluent_syntax_tree.specs.declared.ast.Expression.TheOpen.{Variant-F}
use Rattle.fluent_syntax_tree.specs.declared.ast.Expression.TheFolds.{fold-Expression, fold-InlineExpression}
use Rattle.fluent_syntax_tree.specs.declared.ast.Expression.TheFolds.{fold-PatternElement, fold-CallArguments}
use Rattle.fluent_syntax_tree.specs.declared.ast.Expression.TheFolds.{fold-NamedArgument, fold-Pattern, fold-Variant}

module _ {S X : Type 0} (text : S → X) where
  abbrev pub identifier_view : Identifier S → X
  identifier_view i = text i.name

  abbrev pub key_view : VariantKey S → KeyTree X
  key_view (key.Identifier x) = name_key (text x)
  key_view (key.NumberLiteral x) = number_key (text x)

  abbrev pub Layer : (F : (A B C D E G H : Type 0) → Type 0) → Type 0
  Layer F =
      F (ExpressionTree X) (InlineTree X) (ElementTree X) (ArgumentsTree X) (NamedTree X) (PatternTree X)
      (VariantTree X)

  -- one level, with the trees of what it holds in their places
  abbrev pub expression_step : Layer (Expression-F S) → ExpressionTree X
  expression_step (open'.Select e vs) = select e (variants_of vs.items)
  expression_step (open'.Inline e) = inline e

  abbrev pub inline_step : Layer (InlineExpression-F S) → InlineTree X
  inline_step (open'.StringLiteral x) = string_literal (text x)
  inline_step (open'.NumberLiteral x) = number_literal (text x)
  inline_step (open'.FunctionReference i a) = function_reference (text i.name) a
  inline_step (open'.MessageReference i a) = message_reference (text i.name) (option_map identifier_view a)
  inline_step (open'.TermReference i a c) = term_reference (text i.name) (option_map identifier_view a) (arguments_of c)
  inline_step (open'.VariableReference i) = variable_reference (text i.name)
  inline_step (open'.InlineExpression::Placeable e) = inline_placeable e.value

  abbrev pub element_step : Layer (PatternElement-F S) → ElementTree X
  element_step (open'.TextElement x) = text_element (text x)
  element_step (open'.PatternElement::Placeable e) = placeable e

  abbrev pub arguments_step : Layer (CallArguments-F S) → ArgumentsTree X
  arguments_step a = arguments (inlines_of a.positional.items) (nameds_of a.named.items)

  abbrev pub named_step : Layer (NamedArgument-F S) → NamedTree X
  named_step a = named_argument (text a.name.name) a.value

  abbrev pub pattern_step : Layer (Pattern-F S) → PatternTree X
  pattern_step p = elements_of p.elements.items

  abbrev pub variant_step : Layer (Variant-F S) → VariantTree X
  variant_step v = variant (key_view v.key) v.value v.default

  unfoldable pub expression_view : Expression S → ExpressionTree X
  expression_view =
      fold-Expression S _ _ _ _ _ _ _ expression_step inline_step element_step arguments_step named_step pattern_step
      variant_step

  unfoldable pub inline_view : InlineExpression S → InlineTree X
  inline_view =
      fold-InlineExpression S _ _ _ _ _ _ _ expression_step inline_step element_step arguments_step named_step
      pattern_step variant_step

  unfoldable pub element_view : PatternElement S → ElementTree X
  element_view =
      fold-PatternElement S _ _ _ _ _ _ _ expression_step inline_step element_step arguments_step named_step
      pattern_step variant_step

  unfoldable pub arguments_view : CallArguments S → ArgumentsTree X
  arguments_view =
      fold-CallArguments S _ _ _ _ _ _ _ expression_step inline_step element_step arguments_step named_step pattern_step
      variant_step

  unfoldable pub named_view : NamedArgument S → NamedTree X
  named_view =
      fold-NamedArgument S _ _ _ _ _ _ _ expression_step inline_step element_step arguments_step named_step pattern_step
      variant_step

  unfoldable pub pattern_view : Pattern S → PatternTree X
  pattern_view =
      fold-Pattern S _ _ _ _ _ _ _ expression_step inline_step element_step arguments_step named_step pattern_step
      variant_step

  unfoldable pub variant_view : Variant S → VariantTree X
  variant_view =
      fold-Variant S _ _ _ _ _ _ _ expression_step inline_step element_step arguments_step named_step pattern_step
      variant_step

  abbrev pub comment_view : Comment S → List X
  comment_view c = map text c.content.items

  abbrev pub attribute_view : Attribute S → AttributeTree X
  attribute_view a = record { id = text a.id.name; value = pattern_view a.value }

  abbrev pub message_view : Message S → MessageTree X
  message_view m = record {
    id = text m.id.name;
    value = option_map pattern_view m.value;
    attributes = map attribute_view m.attributes.items;
    comment = option_map comment_view m.comment;
  }

  abbrev pub term_view : Term S → TermTree X
  term_view m = record {
    id = text m.id.name;
    value = pattern_view m.value;
    attributes = map attribute_view m.attributes.items;
    comment = option_map comment_view m.comment;
  }

  abbrev pub entry_view : Entry S → EntryTree X
  entry_view (entries.Message m) = message (message_view m)
  entry_view (entries.Term m) = term (term_view m)
  entry_view (entries.Comment c) = comment regular (comment_view c)
  entry_view (entries.GroupComment c) = comment group (comment_view c)
  entry_view (entries.ResourceComment c) = comment resource (comment_view c)
  entry_view (entries.Junk x) = junk (text x)

  abbrev pub resource_view : Resource S → BodyTree X
  resource_view r = map entry_view r.body.items
