-- A tree with f of each text in its place gives what the tree gives, with f of each text in its place. There is more
-- after it.
use Rattle.std.proofs.Common.{◌≡◌, List, [], ◌∷◌, ◌++◌, map, Option, Some, None, refl, ap, ◌∙◌}
use Rattle.fluent_syntax_tree.specs.Tree.{ExpressionTree, select, inline, InlineTree, string_literal, number_literal}
use Rattle.fluent_syntax_tree.specs.Tree.{function_reference, message_reference, term_reference, variable_reference}
use Rattle.fluent_syntax_tree.specs.Tree.{inline_placeable, ArgumentsTree, arguments, MaybeArguments, no_arguments}
use Rattle.fluent_syntax_tree.specs.Tree.{some_arguments, InlineTrees, no_inlines, inlines, NamedTree, named_argument}
use Rattle.fluent_syntax_tree.specs.Tree.{NamedTrees, no_named, nameds, ElementTree, text_element, placeable}
use Rattle.fluent_syntax_tree.specs.Tree.{PatternTree, no_elements, elements, VariantTree, variant, VariantTrees}
use Rattle.fluent_syntax_tree.specs.Tree.{no_variants, variants, expression_map, inline_map, arguments_map}
use Rattle.fluent_syntax_tree.specs.Tree.{maybe_map, option_texts, inlines_map, named_map, nameds_map, element_map}
use Rattle.fluent_syntax_tree.specs.Tree.{pattern_map, variant_map, variants_map, KeyTree, name_key, number_key}
use Rattle.fluent_syntax_tree.specs.Tree.{key_map}
use Rattle.fluent_syntax_tree.specs.Entry.{AttributeTree, EntryTree, message, term, comment, junk, attribute_map}
use Rattle.fluent_syntax_tree.specs.Entry.{entry_map}
use Rattle.std.specs.Prelude.{is_some, option_map}
use Rattle.fluent_syntax_names.specs.declared.mention.Mention.TheVariants as says
use Rattle.fluent_syntax_names.specs.Mentions.{Mentions, expression_mentions, inline_mentions, arguments_mentions}
use Rattle.fluent_syntax_names.specs.Mentions.{maybe_mentions, inlines_mentions, named_mentions, nameds_mentions}
use Rattle.fluent_syntax_names.specs.Mentions.{element_mentions, pattern_mentions, variant_mentions}
use Rattle.fluent_syntax_names.specs.Mentions.{variants_mentions, select_mentions, key_text, variant_key}
use Rattle.fluent_syntax_names.specs.Mentions.{attribute_mentions, attributes_mentions}
use Rattle.fluent_syntax_names.specs.Mentions.{value_mentions, entry_mentions, mention_map}

module _ {X Y : Type 0} (f : X → Y) (more : Mentions Y) where
  abbrev moved : Mentions X → Mentions Y
  moved ms = map (mention_map f) ms ++ more

  text_of_mapped_key_is_mapped : (k : KeyTree X) → key_text (key_map f k) ≡ f (key_text k)
  text_of_mapped_key_is_mapped (name_key x) = refl
  text_of_mapped_key_is_mapped (number_key x) = refl

  key_of_mapped_variant_is_mapped : (v : VariantTree X) → variant_key (variant_map f v) ≡ f (variant_key v)
  key_of_mapped_variant_is_mapped (variant k p d) = text_of_mapped_key_is_mapped k

  mutual
    mentions_of_mapped_expression_are_mapped : (e : ExpressionTree X) (tail : Mentions X) →
        expression_mentions (expression_map f e) (moved tail) ≡ moved (expression_mentions e tail)
    mentions_of_mapped_expression_are_mapped (select e vs) tail =
        ap (inline_mentions (inline_map f e)) (mentions_of_mapped_select_are_mapped vs tail)
        ∙ mentions_of_mapped_inline_are_mapped e (select_mentions vs tail)
    mentions_of_mapped_expression_are_mapped (inline e) tail = mentions_of_mapped_inline_are_mapped e tail

    mentions_of_mapped_inline_are_mapped : (e : InlineTree X) (tail : Mentions X) →
        inline_mentions (inline_map f e) (moved tail) ≡ moved (inline_mentions e tail)
    mentions_of_mapped_inline_are_mapped (string_literal x) tail = refl
    mentions_of_mapped_inline_are_mapped (number_literal x) tail = refl
    mentions_of_mapped_inline_are_mapped (function_reference x a) tail =
        ap (λ l. says.Function (f x) ∷ l) (mentions_of_mapped_arguments_are_mapped a tail)
    mentions_of_mapped_inline_are_mapped (message_reference x a) tail = refl
    mentions_of_mapped_inline_are_mapped (term_reference x a c) tail =
        ap (λ l. says.TermReference (f x) (option_texts f a) ∷ l) (mentions_of_mapped_call_are_mapped c tail)
    mentions_of_mapped_inline_are_mapped (variable_reference x) tail = refl
    mentions_of_mapped_inline_are_mapped (inline_placeable e) tail = mentions_of_mapped_expression_are_mapped e tail

    mentions_of_mapped_arguments_are_mapped : (a : ArgumentsTree X) (tail : Mentions X) →
        arguments_mentions (arguments_map f a) (moved tail) ≡ moved (arguments_mentions a tail)
    mentions_of_mapped_arguments_are_mapped (arguments ps ns) tail =
        ap (inlines_mentions (inlines_map f ps)) (mentions_of_mapped_nameds_are_mapped ns tail)
        ∙ mentions_of_mapped_inlines_are_mapped ps (nameds_mentions ns tail)

    mentions_of_mapped_call_are_mapped : (c : MaybeArguments X) (tail : Mentions X) →
        maybe_mentions (maybe_map f c) (moved tail) ≡ moved (maybe_mentions c tail)
    mentions_of_mapped_call_are_mapped no_arguments tail = refl
    mentions_of_mapped_call_are_mapped (some_arguments a) tail = mentions_of_mapped_arguments_are_mapped a tail

    mentions_of_mapped_inlines_are_mapped : (es : InlineTrees X) (tail : Mentions X) →
        inlines_mentions (inlines_map f es) (moved tail) ≡ moved (inlines_mentions es tail)
    mentions_of_mapped_inlines_are_mapped no_inlines tail = refl
    mentions_of_mapped_inlines_are_mapped (inlines e es) tail =
        ap (inline_mentions (inline_map f e)) (mentions_of_mapped_inlines_are_mapped es tail)
        ∙ mentions_of_mapped_inline_are_mapped e (inlines_mentions es tail)

    mentions_of_mapped_named_are_mapped : (n : NamedTree X) (tail : Mentions X) →
        named_mentions (named_map f n) (moved tail) ≡ moved (named_mentions n tail)
    mentions_of_mapped_named_are_mapped (named_argument x e) tail = mentions_of_mapped_inline_are_mapped e tail

    mentions_of_mapped_nameds_are_mapped : (ns : NamedTrees X) (tail : Mentions X) →
        nameds_mentions (nameds_map f ns) (moved tail) ≡ moved (nameds_mentions ns tail)
    mentions_of_mapped_nameds_are_mapped no_named tail = refl
    mentions_of_mapped_nameds_are_mapped (nameds n ns) tail =
        ap (named_mentions (named_map f n)) (mentions_of_mapped_nameds_are_mapped ns tail)
        ∙ mentions_of_mapped_named_are_mapped n (nameds_mentions ns tail)

    mentions_of_mapped_element_are_mapped : (e : ElementTree X) (tail : Mentions X) →
        element_mentions (element_map f e) (moved tail) ≡ moved (element_mentions e tail)
    mentions_of_mapped_element_are_mapped (text_element x) tail = refl
    mentions_of_mapped_element_are_mapped (placeable e) tail = mentions_of_mapped_expression_are_mapped e tail

    mentions_of_mapped_pattern_are_mapped : (p : PatternTree X) (tail : Mentions X) →
        pattern_mentions (pattern_map f p) (moved tail) ≡ moved (pattern_mentions p tail)
    mentions_of_mapped_pattern_are_mapped no_elements tail = refl
    mentions_of_mapped_pattern_are_mapped (elements e es) tail =
        ap (element_mentions (element_map f e)) (mentions_of_mapped_pattern_are_mapped es tail)
        ∙ mentions_of_mapped_element_are_mapped e (pattern_mentions es tail)

    mentions_of_mapped_variant_are_mapped : (first : X) (v : VariantTree X) (tail : Mentions X) →
        variant_mentions (f first) (variant_map f v) (moved tail) ≡ moved (variant_mentions first v tail)
    mentions_of_mapped_variant_are_mapped first (variant k p d) tail =
        ap (λ x. says.VariantKey x (f first) ∷ pattern_mentions (pattern_map f p) (moved tail))
        (text_of_mapped_key_is_mapped k)
        ∙ ap (λ l. says.VariantKey (f (key_text k)) (f first) ∷ l) (mentions_of_mapped_pattern_are_mapped p tail)

    mentions_of_mapped_variants_are_mapped : (first : X) (vs : VariantTrees X) (tail : Mentions X) →
        variants_mentions (f first) (variants_map f vs) (moved tail) ≡ moved (variants_mentions first vs tail)
    mentions_of_mapped_variants_are_mapped first no_variants tail = refl
    mentions_of_mapped_variants_are_mapped first (variants v vs) tail =
        ap (variant_mentions (f first) (variant_map f v)) (mentions_of_mapped_variants_are_mapped first vs tail)
        ∙ mentions_of_mapped_variant_are_mapped first v (variants_mentions first vs tail)

    mentions_of_mapped_select_are_mapped : (vs : VariantTrees X) (tail : Mentions X) →
        select_mentions (variants_map f vs) (moved tail) ≡ moved (select_mentions vs tail)
    mentions_of_mapped_select_are_mapped no_variants tail = refl
    mentions_of_mapped_select_are_mapped (variants v vs) tail =
        let first = variant_key v in
        ap (λ x. variant_mentions x (variant_map f v) (variants_mentions x (variants_map f vs) (moved tail)))
        (key_of_mapped_variant_is_mapped v)
        ∙ ap (variant_mentions (f first) (variant_map f v)) (mentions_of_mapped_variants_are_mapped first vs tail)
        ∙ mentions_of_mapped_variant_are_mapped first v (variants_mentions first vs tail)

  mentions_of_mapped_attributes_are_mapped : (as' : List (AttributeTree X)) (tail : Mentions X) →
      attributes_mentions (map (attribute_map f) as') (moved tail) ≡ moved (attributes_mentions as' tail)
  mentions_of_mapped_attributes_are_mapped [] tail = refl
  mentions_of_mapped_attributes_are_mapped (a ∷ as') tail =
      ap (λ l. attribute_mentions (attribute_map f a) l) (mentions_of_mapped_attributes_are_mapped as' tail)
      ∙ ap (λ l. says.Attribute (f a.id) ∷ l)
      (mentions_of_mapped_pattern_are_mapped a.value (attributes_mentions as' tail))

  mentions_of_mapped_value_are_mapped : (o : Option (PatternTree X)) (tail : Mentions X) →
      value_mentions (option_map (pattern_map f) o) (moved tail) ≡ moved (value_mentions o tail)
  mentions_of_mapped_value_are_mapped None tail = refl
  mentions_of_mapped_value_are_mapped (Some p) tail = mentions_of_mapped_pattern_are_mapped p tail

  mapping_keeps_has_value : (o : Option (PatternTree X)) → is_some (option_map (pattern_map f) o) ≡ is_some o
  mapping_keeps_has_value None = refl
  mapping_keeps_has_value (Some p) = refl

  pub mentions_of_mapped_entry_are_mapped : (e : EntryTree X) (tail : Mentions X) →
      entry_mentions (entry_map f e) (moved tail) ≡ moved (entry_mentions e tail)
  mentions_of_mapped_entry_are_mapped (message m) tail =
      let said = attributes_mentions (map (attribute_map f) m.attributes) (moved tail) in
      let first = says.Message (f m.id) (is_some m.value) in
      ap (λ b. says.Message (f m.id) b ∷ value_mentions (option_map (pattern_map f) m.value) said)
      (mapping_keeps_has_value m.value)
      ∙ ap (λ l. first ∷ value_mentions (option_map (pattern_map f) m.value) l)
      (mentions_of_mapped_attributes_are_mapped m.attributes tail)
      ∙ ap (λ l. first ∷ l) (mentions_of_mapped_value_are_mapped m.value (attributes_mentions m.attributes tail))
  mentions_of_mapped_entry_are_mapped (term t) tail =
      ap (λ l. says.Term (f t.id) ∷ pattern_mentions (pattern_map f t.value) l)
      (mentions_of_mapped_attributes_are_mapped t.attributes tail)
      ∙ ap (λ l. says.Term (f t.id) ∷ l)
      (mentions_of_mapped_pattern_are_mapped t.value (attributes_mentions t.attributes tail))
  mentions_of_mapped_entry_are_mapped (comment level lines) tail = refl
  mentions_of_mapped_entry_are_mapped (junk x) tail = refl
