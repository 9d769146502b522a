-- That P holds of each text of a tree has one proof at most, where it has one of each text.
use Rattle.std.proofs.Common.{List, [], ◌∷◌, Option, Some, None}
use Rattle.fluent_syntax_tree.specs.Tree.{KeyTree, name_key, number_key, ExpressionTree, select, inline, InlineTree}
use Rattle.fluent_syntax_tree.specs.Tree.{string_literal, number_literal, function_reference, message_reference}
use Rattle.fluent_syntax_tree.specs.Tree.{term_reference, variable_reference, inline_placeable, ArgumentsTree}
use Rattle.fluent_syntax_tree.specs.Tree.{arguments, MaybeArguments, no_arguments, some_arguments, InlineTrees}
use Rattle.fluent_syntax_tree.specs.Tree.{no_inlines, inlines, NamedTree, named_argument, NamedTrees, no_named, nameds}
use Rattle.fluent_syntax_tree.specs.Tree.{ElementTree, text_element, placeable, PatternTree, no_elements, elements}
use Rattle.fluent_syntax_tree.specs.Tree.{VariantTree, variant, VariantTrees, no_variants, variants}
use Rattle.fluent_syntax_tree.specs.Entry.{AttributeTree, EntryTree, message, term, comment, junk}
use Rattle.fluent_syntax_tree.specs.Every.{key_every, option_every, list_every, expression_every, inline_every}
use Rattle.fluent_syntax_tree.specs.Every.{arguments_every, maybe_every, inlines_every, named_every, nameds_every}
use Rattle.fluent_syntax_tree.specs.Every.{element_every, pattern_every, variant_every, variants_every, attribute_every}
use Rattle.fluent_syntax_tree.specs.Every.{entry_every}

module _ {X : Type 0} (P : X → Type 0) (once : (x : X) → IsProp (P x)) where
  key_every-prop : (k : KeyTree X) → IsProp (key_every P k)
  key_every-prop (name_key x) = once x
  key_every-prop (number_key x) = once x

  option_every-prop : (x : Option X) → IsProp (option_every P x)
  option_every-prop None = hlevel once
  option_every-prop (Some x) = once x

  mutual
    expression_every-prop : (e : ExpressionTree X) → IsProp (expression_every P e)
    expression_every-prop (select e vs) = hlevel (inline_every-prop e, variants_every-prop vs)
    expression_every-prop (inline e) = inline_every-prop e

    inline_every-prop : (e : InlineTree X) → IsProp (inline_every P e)
    inline_every-prop (string_literal x) = once x
    inline_every-prop (number_literal x) = once x
    inline_every-prop (function_reference x a) = hlevel (once, arguments_every-prop a)
    inline_every-prop (message_reference x a) = hlevel (once, option_every-prop a)
    inline_every-prop (term_reference x a c) = hlevel (once, option_every-prop a, maybe_every-prop c)
    inline_every-prop (variable_reference x) = once x
    inline_every-prop (inline_placeable e) = expression_every-prop e

    arguments_every-prop : (a : ArgumentsTree X) → IsProp (arguments_every P a)
    arguments_every-prop (arguments ps ns) = hlevel (inlines_every-prop ps, nameds_every-prop ns)

    maybe_every-prop : (c : MaybeArguments X) → IsProp (maybe_every P c)
    maybe_every-prop no_arguments = hlevel once
    maybe_every-prop (some_arguments a) = arguments_every-prop a

    inlines_every-prop : (es : InlineTrees X) → IsProp (inlines_every P es)
    inlines_every-prop no_inlines = hlevel once
    inlines_every-prop (inlines e es) = hlevel (inline_every-prop e, inlines_every-prop es)

    named_every-prop : (n : NamedTree X) → IsProp (named_every P n)
    named_every-prop (named_argument x e) = hlevel (once, inline_every-prop e)

    nameds_every-prop : (ns : NamedTrees X) → IsProp (nameds_every P ns)
    nameds_every-prop no_named = hlevel once
    nameds_every-prop (nameds n ns) = hlevel (named_every-prop n, nameds_every-prop ns)

    element_every-prop : (e : ElementTree X) → IsProp (element_every P e)
    element_every-prop (text_element x) = once x
    element_every-prop (placeable e) = expression_every-prop e

    pattern_every-prop : (p : PatternTree X) → IsProp (pattern_every P p)
    pattern_every-prop no_elements = hlevel once
    pattern_every-prop (elements e es) = hlevel (element_every-prop e, pattern_every-prop es)

    variant_every-prop : (v : VariantTree X) → IsProp (variant_every P v)
    variant_every-prop (variant k p d) = hlevel (key_every-prop k, pattern_every-prop p)

    variants_every-prop : (vs : VariantTrees X) → IsProp (variants_every P vs)
    variants_every-prop no_variants = hlevel once
    variants_every-prop (variants v vs) = hlevel (variant_every-prop v, variants_every-prop vs)

  attribute_every-prop : (a : AttributeTree X) → IsProp (attribute_every P a)
  attribute_every-prop a = hlevel (once, pattern_every-prop a.value)

-- of each text of a list's elements
list_every-prop : {A : Type 0} (P : A → Type 0) → ((x : A) → IsProp (P x)) → (xs : List A) → IsProp (list_every P xs)
list_every-prop P once [] = hlevel once
list_every-prop P once (x ∷ xs) = hlevel (once x, list_every-prop P once xs)

module _ {X : Type 0} (P : X → Type 0) (once : (x : X) → IsProp (P x)) where
  attributes_every-prop : (xs : List (AttributeTree X)) → IsProp (list_every (attribute_every P) xs)
  attributes_every-prop = list_every-prop (attribute_every P) (attribute_every-prop P once)

  value_every-prop : (p : Option (PatternTree X)) → IsProp (option_every (pattern_every P) p)
  value_every-prop = option_every-prop (pattern_every P) (pattern_every-prop P once)

  lines_every-prop : (xs : List X) → IsProp (list_every P xs)
  lines_every-prop = list_every-prop P once

  comment_every-prop : (c : Option (List X)) → IsProp (option_every (list_every P) c)
  comment_every-prop = option_every-prop (list_every P) lines_every-prop

  pub entry_every-prop : (e : EntryTree X) → IsProp (entry_every P e)
  entry_every-prop (message m) =
      hlevel (once, value_every-prop m.value, attributes_every-prop m.attributes, comment_every-prop m.comment)
  entry_every-prop (term m) =
      hlevel (once, pattern_every-prop P once m.value, attributes_every-prop m.attributes, comment_every-prop m.comment)
  entry_every-prop (comment level lines) = lines_every-prop lines
  entry_every-prop (junk x) = once x
