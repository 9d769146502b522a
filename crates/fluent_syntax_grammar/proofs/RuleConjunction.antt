-- A tree obeys rules that are put together of others exactly where it obeys each of these.
use Rattle.std.proofs.Common.{◌≡◌, List, [], ◌∷◌, Option, Some, None, Bool, true, false, ◌&&◌, refl, sym, ap, ◌∙◌}
use Rattle.std.specs.List.{list_all}
use Rattle.fluent_syntax_tree.specs.Tree.{KeyTree, name_key, number_key, ExpressionTree, select, inline, InlineTree}
use Rattle.fluent_syntax_tree.specs.Tree.{string_literal, number_literal, function_reference, message_reference}
use Rattle.fluent_syntax_tree.specs.Tree.{term_reference, variable_reference, inline_placeable, ArgumentsTree}
use Rattle.fluent_syntax_tree.specs.Tree.{arguments, MaybeArguments, no_arguments, some_arguments, InlineTrees}
use Rattle.fluent_syntax_tree.specs.Tree.{no_inlines, inlines, NamedTree, NamedTrees, no_named, nameds, named_argument}
use Rattle.fluent_syntax_tree.specs.Tree.{ElementTree, text_element, placeable, PatternTree, no_elements, elements}
use Rattle.fluent_syntax_tree.specs.Tree.{VariantTree, VariantTrees, no_variants, variants, variant}
use Rattle.fluent_syntax_tree.specs.Entry.{EntryTree, message, term, comment, junk, AttributeTree, MessageTree}
use Rattle.fluent_syntax_tree.specs.Entry.{BodyTree}
use Rattle.fluent_syntax_grammar.specs.Written.{Text}
use Rattle.fluent_syntax_grammar.specs.Rules.{Rules, key_obeys, expression_obeys, inline_obeys, optional_arguments_obey}
use Rattle.fluent_syntax_grammar.specs.Rules.{arguments_obey, inlines_obey, named_arguments_obey, named_obeys}
use Rattle.fluent_syntax_grammar.specs.Rules.{pattern_obeys, elements_obey, element_obeys, variants_obey, variant_obeys}
use Rattle.fluent_syntax_grammar.specs.Rules.{option_obeys, attribute_obeys, entry_obeys, body_obeys}

and_swaps_inner : (a b c d : Bool) → ((a && b) && (c && d)) ≡ ((a && c) && (b && d))
and_swaps_inner true true c d = refl
and_swaps_inner true false true d = refl
and_swaps_inner true false false d = refl
and_swaps_inner false b c d = refl

module _ {K : Type 0} where
  -- each passes two tests exactly where each passes the one, and each the other
  pub all_of_both_is_both_of_all : (a b : K → Bool) (ks : List K) →
      list_all (λ k. a k && b k) ks ≡ (list_all a ks && list_all b ks)
  all_of_both_is_both_of_all a b [] = refl
  all_of_both_is_both_of_all a b (k ∷ ks) =
      ap (λ rest. (a k && b k) && rest) (all_of_both_is_both_of_all a b ks) ∙
      and_swaps_inner (a k) (b k) (list_all a ks) (list_all b ks)

  pub true_holds_of_all_parts : (ks : List K) → true ≡ list_all (λ (k : K). true) ks
  true_holds_of_all_parts [] = refl
  true_holds_of_all_parts (k ∷ ks) = true_holds_of_all_parts ks

-- Rules, and those that they are put together of.
module _ {K : Type 0} (ks : List K) (parts : K → Rules) (whole : Rules) where
  -- each test of the whole is that of all parts
  pub record ArePartsOf : Type 0 where
    pub junk_parts : whole.junk ≡ list_all (λ k. (parts k).junk) ks
    pub message_parts : (m : MessageTree Text) → whole.message m ≡ list_all (λ k. (parts k).message m) ks
    pub comment_parts : (content : List Text) → whole.comment content ≡ list_all (λ k. (parts k).comment content) ks
    pub pattern_parts : (p : PatternTree Text) → whole.pattern p ≡ list_all (λ k. (parts k).pattern p) ks
    pub expression_parts : (e : ExpressionTree Text) → whole.expression e ≡ list_all (λ k. (parts k).expression e) ks
    pub callee_parts : (v : Text) → whole.callee v ≡ list_all (λ k. (parts k).callee v) ks
    pub arguments_parts : (a : ArgumentsTree Text) → whole.arguments a ≡ list_all (λ k. (parts k).arguments a) ks
    pub string_parts : (v : Text) → whole.string v ≡ list_all (λ k. (parts k).string v) ks
    pub number_parts : (v : Text) → whole.number v ≡ list_all (λ k. (parts k).number v) ks
    pub name_parts : (v : Text) → whole.name v ≡ list_all (λ k. (parts k).name v) ks

  conjunction_of_all : {x y : Bool} (a b : K → Bool) → x ≡ list_all a ks → y ≡ list_all b ks
      → (x && y) ≡ list_all (λ k. a k && b k) ks
  conjunction_of_all a b e f = rw (e, f) (sym (all_of_both_is_both_of_all a b ks))

  option_test_is_all_of_parts : {X : Type 0} (test : X → Bool) (part : K → X → Bool)
      → ((x : X) → test x ≡ list_all (λ k. part k x) ks)
      → (o : Option X) → option_obeys test o ≡ list_all (λ k. option_obeys (part k) o) ks
  option_test_is_all_of_parts test part e None = true_holds_of_all_parts ks
  option_test_is_all_of_parts test part e (Some x) = e x

  list_test_is_all_of_parts : {X : Type 0} (test : X → Bool) (part : K → X → Bool)
      → ((x : X) → test x ≡ list_all (λ k. part k x) ks)
      → (xs : List X) → list_all test xs ≡ list_all (λ k. list_all (part k) xs) ks
  list_test_is_all_of_parts test part e [] = true_holds_of_all_parts ks
  list_test_is_all_of_parts test part e (x ∷ xs) =
      conjunction_of_all _ _ (e x) (list_test_is_all_of_parts test part e xs)

  module _ (are : ArePartsOf) where
    optional_name_test_is_all_of_parts : (o : Option Text)
        → option_obeys whole.name o ≡ list_all (λ k. option_obeys (parts k).name o) ks
    optional_name_test_is_all_of_parts o = option_test_is_all_of_parts whole.name (λ k. (parts k).name) are.name_parts o

    key_obeys_each : (key : KeyTree Text) → key_obeys whole key ≡ list_all (λ k. key_obeys (parts k) key) ks
    key_obeys_each (name_key v) = are.name_parts v
    key_obeys_each (number_key v) = are.number_parts v

    mutual
      expression_obeys_each : (e : ExpressionTree Text)
          → expression_obeys whole e ≡ list_all (λ k. expression_obeys (parts k) e) ks
      expression_obeys_each (select e vs) =
          conjunction_of_all _ _ (are.expression_parts (select e vs))
          (conjunction_of_all _ _ (inline_obeys_each e) (variants_obey_each vs))
      expression_obeys_each (inline e) = conjunction_of_all _ _ (are.expression_parts (inline e)) (inline_obeys_each e)

      inline_obeys_each : (e : InlineTree Text) → inline_obeys whole e ≡ list_all (λ k. inline_obeys (parts k) e) ks
      inline_obeys_each (string_literal v) = are.string_parts v
      inline_obeys_each (number_literal v) = are.number_parts v
      inline_obeys_each (function_reference id a) =
          conjunction_of_all _ _ (are.name_parts id)
          (conjunction_of_all _ _ (are.callee_parts id) (arguments_obey_each a))
      inline_obeys_each (message_reference id attribute) =
          conjunction_of_all _ _ (are.name_parts id) (optional_name_test_is_all_of_parts attribute)
      inline_obeys_each (term_reference id attribute a) =
          conjunction_of_all _ _ (are.name_parts id)
          (conjunction_of_all _ _ (optional_name_test_is_all_of_parts attribute) (maybe_obeys_each a))
      inline_obeys_each (variable_reference id) = are.name_parts id
      inline_obeys_each (inline_placeable e) = expression_obeys_each e

      maybe_obeys_each : (a : MaybeArguments Text) →
          optional_arguments_obey whole a ≡ list_all (λ k. optional_arguments_obey (parts k) a) ks
      maybe_obeys_each no_arguments = true_holds_of_all_parts ks
      maybe_obeys_each (some_arguments a) = arguments_obey_each a

      arguments_obey_each : (a : ArgumentsTree Text)
          → arguments_obey whole a ≡ list_all (λ k. arguments_obey (parts k) a) ks
      arguments_obey_each (arguments ps ns) =
          conjunction_of_all _ _ (are.arguments_parts (arguments ps ns))
          (conjunction_of_all _ _ (inlines_obey_each ps) (nameds_obey_each ns))

      inlines_obey_each : (es : InlineTrees Text) → inlines_obey whole es ≡ list_all (λ k. inlines_obey (parts k) es) ks
      inlines_obey_each no_inlines = true_holds_of_all_parts ks
      inlines_obey_each (inlines e es) = conjunction_of_all _ _ (inline_obeys_each e) (inlines_obey_each es)

      nameds_obey_each : (ns : NamedTrees Text) → named_arguments_obey whole ns
          ≡ list_all (λ k. named_arguments_obey (parts k) ns) ks
      nameds_obey_each no_named = true_holds_of_all_parts ks
      nameds_obey_each (nameds n ns) = conjunction_of_all _ _ (named_obeys_each n) (nameds_obey_each ns)

      named_obeys_each : (n : NamedTree Text) → named_obeys whole n ≡ list_all (λ k. named_obeys (parts k) n) ks
      named_obeys_each (named_argument name e) = conjunction_of_all _ _ (are.name_parts name) (inline_obeys_each e)

      pattern_obeys_each : (p : PatternTree Text) → pattern_obeys whole p ≡ list_all (λ k. pattern_obeys (parts k) p) ks
      pattern_obeys_each no_elements = are.pattern_parts no_elements
      pattern_obeys_each (elements e es) =
          conjunction_of_all _ _ (are.pattern_parts (elements e es))
          (conjunction_of_all _ _ (element_obeys_each e) (elements_obey_each es))

      elements_obey_each : (es : PatternTree Text) →
          elements_obey whole es ≡ list_all (λ k. elements_obey (parts k) es) ks
      elements_obey_each no_elements = true_holds_of_all_parts ks
      elements_obey_each (elements e es) = conjunction_of_all _ _ (element_obeys_each e) (elements_obey_each es)

      element_obeys_each : (e : ElementTree Text) → element_obeys whole e ≡ list_all (λ k. element_obeys (parts k) e) ks
      element_obeys_each (text_element v) = true_holds_of_all_parts ks
      element_obeys_each (placeable e) = expression_obeys_each e

      variants_obey_each : (vs : VariantTrees Text)
          → variants_obey whole vs ≡ list_all (λ k. variants_obey (parts k) vs) ks
      variants_obey_each no_variants = true_holds_of_all_parts ks
      variants_obey_each (variants v vs) = conjunction_of_all _ _ (variant_obeys_each v) (variants_obey_each vs)

      variant_obeys_each : (v : VariantTree Text) → variant_obeys whole v ≡ list_all (λ k. variant_obeys (parts k) v) ks
      variant_obeys_each (variant key value default) =
          conjunction_of_all _ _ (key_obeys_each key) (pattern_obeys_each value)

    attribute_obeys_each : (a : AttributeTree Text)
        → attribute_obeys whole a ≡ list_all (λ k. attribute_obeys (parts k) a) ks
    attribute_obeys_each a = conjunction_of_all _ _ (are.name_parts a.id) (pattern_obeys_each a.value)

    attributes_obey_each : (more : List (AttributeTree Text))
        → list_all (attribute_obeys whole) more ≡ list_all (λ k. list_all (attribute_obeys (parts k)) more) ks
    attributes_obey_each more =
        list_test_is_all_of_parts (attribute_obeys whole) (λ k. attribute_obeys (parts k)) attribute_obeys_each more

    comment_obeys_each : (content : Option (List Text))
        → option_obeys whole.comment content ≡ list_all (λ k. option_obeys (parts k).comment content) ks
    comment_obeys_each content =
        option_test_is_all_of_parts whole.comment (λ k. (parts k).comment) are.comment_parts content

    value_obeys_each : (value : Option (PatternTree Text))
        → option_obeys (pattern_obeys whole) value ≡ list_all (λ k. option_obeys (pattern_obeys (parts k)) value) ks
    value_obeys_each value =
        option_test_is_all_of_parts (pattern_obeys whole) (λ k. pattern_obeys (parts k)) pattern_obeys_each value

    pub entry_obeys_each : (e : EntryTree Text) → entry_obeys whole e ≡ list_all (λ k. entry_obeys (parts k) e) ks
    entry_obeys_each (message m) =
        conjunction_of_all _ _ (are.message_parts m)
        (conjunction_of_all _ _ (comment_obeys_each m.comment)
        (conjunction_of_all _ _ (are.name_parts m.id)
        (conjunction_of_all _ _ (value_obeys_each m.value) (attributes_obey_each m.attributes))))
    entry_obeys_each (term m) =
        conjunction_of_all _ _ (comment_obeys_each m.comment)
        (conjunction_of_all _ _ (are.name_parts m.id)
        (conjunction_of_all _ _ (pattern_obeys_each m.value) (attributes_obey_each m.attributes)))
    entry_obeys_each (comment level content) = are.comment_parts content
    entry_obeys_each (junk content) = are.junk_parts

    pub body_obeys_each : (es : BodyTree Text) → body_obeys whole es ≡ list_all (λ k. body_obeys (parts k) es) ks
    body_obeys_each es = list_test_is_all_of_parts (entry_obeys whole) (λ k. entry_obeys (parts k)) entry_obeys_each es
