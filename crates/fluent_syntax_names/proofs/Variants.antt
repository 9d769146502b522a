-- The mentions of a select's variants.
use Rattle.std.proofs.Common.{◌≡◌, List, [], ◌∷◌, map, Some, ap, ◌∙◌, sym}
use Rattle.std.specs.Prelude.{slice_get}
use Rattle.fluent_syntax_tree.specs.Tree.{variants_of}
use Rattle.fluent_syntax_tree.specs.View.{key_view, variant_view}
use Rattle.fluent_syntax_tree.specs.declared.ast.Variant.{Variant}
use Rattle.fluent_syntax_tree.proofs.Views.{view-Variant}
use Rattle.fluent_syntax_names.specs.Mentions.{Mentions, key_text, variant_key, variants_mentions}
use Rattle.fluent_syntax_names.specs.Mentions.{select_mentions}

module _ {S X : Type 0} (f : S → X) where
  abbrev pub all_variants : X → List (Variant S) → Mentions X → Mentions X
  all_variants first vs tail = variants_mentions first (variants_of (map (variant_view f) vs)) tail

  -- the first key of a select is that of its first variant
  pub mentions_of_select_begin_with_first_key : (vs : List (Variant S)) (v : Variant S) → slice_get vs 0 ≡ Some v
      → (tail : Mentions X) → all_variants (key_text (key_view f v.key)) vs tail
      ≡ select_mentions (variants_of (map (variant_view f) vs)) tail
  mentions_of_select_begin_with_first_key [] v e tail = cc
  mentions_of_select_begin_with_first_key (x ∷ xs) v e tail =
      let same : x ≡ v = cc in
      ap (λ y. all_variants (key_text (key_view f y.key)) (x ∷ xs) tail) (sym same)
      ∙ ap (λ y. all_variants (variant_key y) (x ∷ xs) tail) (sym (view-Variant f x))
