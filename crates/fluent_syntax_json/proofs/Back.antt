-- The JSON form of a tree spells that tree.
use Rattle.std.proofs.Common.{◌≡◌, List, [], ◌∷◌, map, Option, Some, None, option_map, codes, refl, ap}
use Rattle.serde_json.specs.Data.{Data, string}
use Rattle.serde_json.specs.Find.{get, as_str}
use Rattle.serde_json.specs.View.{items_of}
use Rattle.fluent_syntax_tree.specs.Tree.{KeyTree, name_key, number_key, ExpressionTree, select, inline, InlineTree}
use Rattle.fluent_syntax_tree.specs.Tree.{string_literal, number_literal, function_reference, message_reference}
use Rattle.fluent_syntax_tree.specs.Tree.{term_reference, variable_reference, inline_placeable, ArgumentsTree}
use Rattle.fluent_syntax_tree.specs.Tree.{arguments, MaybeArguments, no_arguments, some_arguments, InlineTrees}
use Rattle.fluent_syntax_tree.specs.Tree.{no_inlines, inlines, inlines_of, NamedTree, named_argument, NamedTrees}
use Rattle.fluent_syntax_tree.specs.Tree.{no_named, nameds, nameds_of, ElementTree, text_element, placeable}
use Rattle.fluent_syntax_tree.specs.Tree.{PatternTree, no_elements, elements, elements_of, VariantTree, variant}
use Rattle.fluent_syntax_tree.specs.Tree.{VariantTrees, no_variants, variants, variants_of}
use Rattle.fluent_syntax_tree.specs.Entry.{AttributeTree, MessageTree, TermTree, EntryTree, message, term, comment}
use Rattle.fluent_syntax_tree.specs.Entry.{junk, regular, group, resource, BodyTree}
use Rattle.fluent_syntax_json.specs.Object.{Text}
use Rattle.fluent_syntax_json.specs.Form.{name_form, or_null, key_form, element_forms, element_form, expression_form}
use Rattle.fluent_syntax_json.specs.Form.{variant_forms, variant_form, inline_form, maybe_form, arguments_form}
use Rattle.fluent_syntax_json.specs.Form.{inline_forms, named_forms, named_form, pattern_form, lines_form, comment_form}
use Rattle.fluent_syntax_json.specs.Form.{attribute_form, message_form, term_form, entry_form, body_form}
use Rattle.fluent_syntax_json.specs.Reading.{items_by, unless_null, maybe, name_in, key_in, pattern_in, element_in}
use Rattle.fluent_syntax_json.specs.Reading.{expression_in, inline_in, arguments_in, named_in, variant_in}
use Rattle.fluent_syntax_json.specs.Reading.{maybe_arguments_rule, lines_in, comment_in, attribute_in, message_in}
use Rattle.fluent_syntax_json.specs.Reading.{term_in, entry_in, body_in}
use Rattle.fluent_syntax_json.proofs.Spelled.{pattern-is, element-is, expression-is, inline-is, arguments-is, named-is}
use Rattle.fluent_syntax_json.proofs.Spelled.{variant-is}

-- the lists of a tree as lists
inlines_list : InlineTrees Text → List (InlineTree Text)
inlines_list no_inlines = []
inlines_list (inlines x xs) = x ∷ inlines_list xs

nameds_list : NamedTrees Text → List (NamedTree Text)
nameds_list no_named = []
nameds_list (nameds x xs) = x ∷ nameds_list xs

elements_list : PatternTree Text → List (ElementTree Text)
elements_list no_elements = []
elements_list (elements x xs) = x ∷ elements_list xs

variants_list : VariantTrees Text → List (VariantTree Text)
variants_list no_variants = []
variants_list (variants x xs) = x ∷ variants_list xs

inlines_of_list_is_same : (xs : InlineTrees Text) → inlines_of (inlines_list xs) ≡ xs
unfolding inlines_list
inlines_of_list_is_same no_inlines = refl
inlines_of_list_is_same (inlines x xs) = ap (inlines x) (inlines_of_list_is_same xs)

nameds_of_list_is_same : (xs : NamedTrees Text) → nameds_of (nameds_list xs) ≡ xs
unfolding nameds_list
nameds_of_list_is_same no_named = refl
nameds_of_list_is_same (nameds x xs) = ap (nameds x) (nameds_of_list_is_same xs)

elements_of_list_is_same : (xs : PatternTree Text) → elements_of (elements_list xs) ≡ xs
unfolding elements_list
elements_of_list_is_same no_elements = refl
elements_of_list_is_same (elements x xs) = ap (elements x) (elements_of_list_is_same xs)

variants_of_list_is_same : (xs : VariantTrees Text) → variants_of (variants_list xs) ≡ xs
unfolding variants_list
variants_of_list_is_same no_variants = refl
variants_of_list_is_same (variants x xs) = ap (variants x) (variants_of_list_is_same xs)

key_form_reads_back : (k : KeyTree Text) → key_in (key_form k) ≡ Some k
key_form_reads_back (name_key x) = refl
key_form_reads_back (number_key x) = refl

attribute_name-back : (a : Option Text) → maybe name_in (unless_null (or_null name_form a)) ≡ Some a
attribute_name-back None = refl
attribute_name-back (Some x) = refl

-- an inline expression is no select
inline_form_has_no_selector : (e : InlineTree Text) → get (codes "selector") (inline_form e) ≡ None
inline_form_has_no_selector (string_literal x) = refl
inline_form_has_no_selector (number_literal x) = refl
inline_form_has_no_selector (function_reference x a) = refl
inline_form_has_no_selector (message_reference x a) = refl
inline_form_has_no_selector (term_reference x a c) = refl
inline_form_has_no_selector (variable_reference x) = refl
inline_form_has_no_selector (inline_placeable e) = refl

mutual
  unfolding elements_list inlines_list nameds_list variants_list

  elements-back : (p : PatternTree Text) → items_by element_in (element_forms p) ≡ Some (elements_list p)
  elements-back no_elements = refl
  elements-back (elements x xs) = rw (element-back x, elements-back xs)

  element-back : (e : ElementTree Text) → element_in (element_form e) ≡ Some e
  element-back (text_element x) = rw (element-is (element_form (text_element x)))
  element-back (placeable e) = rw (element-is (element_form (placeable e)), expression-back e)

  expression-back : (e : ExpressionTree Text) → expression_in (expression_form e) ≡ Some e
  expression-back (select e vs) =
      rw (expression-is (expression_form (select e vs)), inline-back e, variants-back vs, variants_of_list_is_same vs)
  expression-back (inline e) = rw (expression-is (inline_form e), inline_form_has_no_selector e, inline-back e)

  variants-back : (vs : VariantTrees Text) → items_by variant_in (variant_forms vs) ≡ Some (variants_list vs)
  variants-back no_variants = refl
  variants-back (variants x xs) = rw (variant-back x, variants-back xs)

  variant-back : (v : VariantTree Text) → variant_in (variant_form v) ≡ Some v
  variant-back (variant k p d) =
      rw (
        variant-is (variant_form (variant k p d)),
        key_form_reads_back k,
        pattern-is (pattern_form p),
        elements-back p,
        elements_of_list_is_same p,
      )

  inline-back : (e : InlineTree Text) → inline_in (inline_form e) ≡ Some e
  inline-back (string_literal x) = rw (inline-is (inline_form (string_literal x)))
  inline-back (number_literal x) = rw (inline-is (inline_form (number_literal x)))
  inline-back (function_reference x a) = rw (inline-is (inline_form (function_reference x a)), arguments-back a)
  inline-back (message_reference x a) = rw (inline-is (inline_form (message_reference x a)), attribute_name-back a)
  inline-back (term_reference x a c) =
      rw (inline-is (inline_form (term_reference x a c)), attribute_name-back a, maybe-back c)
  inline-back (variable_reference x) = rw (inline-is (inline_form (variable_reference x)))
  inline-back (inline_placeable e) = rw (inline-is (inline_form (inline_placeable e)), expression-back e)

  maybe-back : (c : MaybeArguments Text) →
      maybe_arguments_rule (unless_null (maybe_form c)) (arguments_in (maybe_form c)) ≡ Some c
  maybe-back no_arguments = refl
  maybe-back (some_arguments (arguments ps ns)) = rw (arguments-back (arguments ps ns))

  arguments-back : (a : ArgumentsTree Text) → arguments_in (arguments_form a) ≡ Some a
  arguments-back (arguments ps ns) =
      rw (
        arguments-is (arguments_form (arguments ps ns)),
        inlines-back ps,
        nameds-back ns,
        inlines_of_list_is_same ps,
        nameds_of_list_is_same ns,
      )

  inlines-back : (ps : InlineTrees Text) → items_by inline_in (inline_forms ps) ≡ Some (inlines_list ps)
  inlines-back no_inlines = refl
  inlines-back (inlines x xs) = rw (inline-back x, inlines-back xs)

  nameds-back : (ns : NamedTrees Text) → items_by named_in (named_forms ns) ≡ Some (nameds_list ns)
  nameds-back no_named = refl
  nameds-back (nameds x xs) = rw (named-back x, nameds-back xs)

  named-back : (a : NamedTree Text) → named_in (named_form a) ≡ Some a
  named-back (named_argument x e) = rw (named-is (named_form (named_argument x e)), inline-back e)

pattern_form_reads_back : (p : PatternTree Text) → pattern_in (pattern_form p) ≡ Some p
pattern_form_reads_back p = rw (pattern-is (pattern_form p), elements-back p, elements_of_list_is_same p)

items-back : {A : Type 0} (read : Data → Option A) (form : A → Data) → ((x : A) → read (form x) ≡ Some x) →
    (xs : List A) → items_by read (items_of (map form xs)) ≡ Some xs
items-back read form back [] = refl
items-back read form back (x ∷ xs) = rw (back x, items-back read form back xs)

lines_form_reads_back : (xs : List Text) → lines_in (lines_form xs) ≡ Some xs
lines_form_reads_back xs = items-back as_str string (λ x. refl) xs

attribute-back : (a : AttributeTree Text) → attribute_in (attribute_form a) ≡ Some a
attribute-back a = rw (pattern_form_reads_back a.value)

value-back : (o : Option (PatternTree Text)) → maybe pattern_in (unless_null (or_null pattern_form o)) ≡ Some o
value-back None = refl
value-back (Some p) = rw (pattern_form_reads_back p)

attached-back : (o : Option (List Text)) → maybe comment_in (unless_null (or_null comment_form o)) ≡ Some o
attached-back None = refl
attached-back (Some xs) = rw (lines_form_reads_back xs)

message_form_reads_back : (m : MessageTree Text) → message_in (message_form m) ≡ Some m
message_form_reads_back m =
    rw (value-back m.value, items-back attribute_in attribute_form attribute-back m.attributes, attached-back m.comment)

term_form_reads_back : (m : TermTree Text) → term_in (term_form m) ≡ Some m
term_form_reads_back m =
    rw (
      pattern_form_reads_back m.value,
      items-back attribute_in attribute_form attribute-back m.attributes,
      attached-back m.comment,
    )

entry_form_reads_back : (e : EntryTree Text) → entry_in (entry_form e) ≡ Some e
entry_form_reads_back (message m) = ap (option_map message) (message_form_reads_back m)
entry_form_reads_back (term m) = ap (option_map term) (term_form_reads_back m)
entry_form_reads_back (comment regular xs) = ap (option_map (comment regular)) (lines_form_reads_back xs)
entry_form_reads_back (comment group xs) = ap (option_map (comment group)) (lines_form_reads_back xs)
entry_form_reads_back (comment resource xs) = ap (option_map (comment resource)) (lines_form_reads_back xs)
entry_form_reads_back (junk x) = refl

pub body_form_reads_back : (r : BodyTree Text) → body_in (body_form r) ≡ Some r
body_form_reads_back r = items-back entry_in entry_form entry_form_reads_back r
