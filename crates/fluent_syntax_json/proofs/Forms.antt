-- The form of a list, from the forms of its items.
use Rattle.std.proofs.Common.{◌≡◌, ℕ, ◌≤◌, List, [], ◌∷◌, length, take, map, Vec, Global, refl, ap, ◌∙◌, rules}
use Rattle.std.specs.Prelude as std
use Rattle.serde_json.specs.Data.{Data, null, boolean, array, item}
use Rattle.serde_json.specs.View.{view, items_of}
use Rattle.serde_json.specs.declared.value.Value.{Value, Null, Bool, Array, the_lemmas}
use Rattle.serde_json.proofs.Views.{view-Array}
use Rattle.fluent_syntax_tree.specs.Tree.{ElementTree, elements_of, VariantTree, variants_of, InlineTree, inlines_of}
use Rattle.fluent_syntax_tree.specs.Tree.{NamedTree, nameds_of}
use Rattle.fluent_syntax_tree.proofs.Lists.{maps_of_whole_prefix_agree}
use Rattle.fluent_syntax_json.specs.Object.{Text}
use Rattle.fluent_syntax_json.specs.Form.{list_form, element_form, element_forms, variant_form, variant_forms}
use Rattle.fluent_syntax_json.specs.Form.{inline_form, inline_forms, named_form, named_forms}

pub view-Null : view Null ≡ null
view-Null = search (rules, the_lemmas)

pub view-Bool : (b : std.Bool) → view (Bool b) ≡ boolean b
view-Bool b = search (rules, the_lemmas)

items_of-map : {A B : Type 0} (g : B → Data) (f : A → B) (xs : List A) →
    items_of (map (λ x. g (f x)) xs) ≡ items_of (map g (map f xs))
items_of-map g f [] = refl
items_of-map g f (x ∷ xs) = ap (item (g (f x))) (items_of-map g f xs)

element_forms-map : {A : Type 0} (f : A → ElementTree Text) (xs : List A) →
    items_of (map (λ x. element_form (f x)) xs) ≡ element_forms (elements_of (map f xs))
element_forms-map f [] = refl
element_forms-map f (x ∷ xs) = ap (item (element_form (f x))) (element_forms-map f xs)

variant_forms-map : {A : Type 0} (f : A → VariantTree Text) (xs : List A) →
    items_of (map (λ x. variant_form (f x)) xs) ≡ variant_forms (variants_of (map f xs))
variant_forms-map f [] = refl
variant_forms-map f (x ∷ xs) = ap (item (variant_form (f x))) (variant_forms-map f xs)

inline_forms-map : {A : Type 0} (f : A → InlineTree Text) (xs : List A) →
    items_of (map (λ x. inline_form (f x)) xs) ≡ inline_forms (inlines_of (map f xs))
inline_forms-map f [] = refl
inline_forms-map f (x ∷ xs) = ap (item (inline_form (f x))) (inline_forms-map f xs)

named_forms-map : {A : Type 0} (f : A → NamedTree Text) (xs : List A) →
    items_of (map (λ x. named_form (f x)) xs) ≡ named_forms (nameds_of (map f xs))
named_forms-map f [] = refl
named_forms-map f (x ∷ xs) = ap (item (named_form (f x))) (named_forms-map f xs)

-- a list that a loop made
module _ {A : Type 0} (v : Vec Value Global) (items xs : List A) (n : ℕ) where
  abbrev Made : (A → Data) → Type 0
  Made form = map view v.items ≡ map form (take n items)

  items_written_give_whole_array : (form : A → Data) → Made form → length items ≤ n → items ≡ xs →
      view (Array v) ≡ array (items_of (map form xs))
  items_written_give_whole_array form e h same =
      view-Array v ∙ ap (λ l. array (items_of l)) (maps_of_whole_prefix_agree view form v.items xs items n e h same)

  pub list-made : {B : Type 0} (g : B → Data) (f : A → B) → Made (λ x. g (f x)) → length items ≤ n → items ≡ xs →
      view (Array v) ≡ list_form g (map f xs)
  list-made g f e h same = items_written_give_whole_array _ e h same ∙ ap array (items_of-map g f xs)

  pub elements-made : (f : A → ElementTree Text) → Made (λ x. element_form (f x)) → length items ≤ n → items ≡ xs →
      view (Array v) ≡ array (element_forms (elements_of (map f xs)))
  elements-made f e h same = items_written_give_whole_array _ e h same ∙ ap array (element_forms-map f xs)

  pub variants-made : (f : A → VariantTree Text) → Made (λ x. variant_form (f x)) → length items ≤ n → items ≡ xs →
      view (Array v) ≡ array (variant_forms (variants_of (map f xs)))
  variants-made f e h same = items_written_give_whole_array _ e h same ∙ ap array (variant_forms-map f xs)

  pub inlines-made : (f : A → InlineTree Text) → Made (λ x. inline_form (f x)) → length items ≤ n → items ≡ xs →
      view (Array v) ≡ array (inline_forms (inlines_of (map f xs)))
  inlines-made f e h same = items_written_give_whole_array _ e h same ∙ ap array (inline_forms-map f xs)

  pub nameds-made : (f : A → NamedTree Text) → Made (λ x. named_form (f x)) → length items ≤ n → items ≡ xs →
      view (Array v) ≡ array (named_forms (nameds_of (map f xs)))
  nameds-made f e h same = items_written_give_whole_array _ e h same ∙ ap array (named_forms-map f xs)
