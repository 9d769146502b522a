-- Gathered variants before those of the rest of a select.
use Rattle.std.proofs.Common.{◌≡◌, ℕ, List, [], ◌∷◌, ◌++◌, Bool, false, map, refl, ap, sym, ◌∙◌}
use Rattle.std.proofs.lemmas.List.{map-append}
use Rattle.fluent_syntax_tree.specs.Tree.{VariantTree, VariantTrees, no_variants, variants, variants_of, variant_map}
use Rattle.fluent_syntax_tree.specs.Tree.{variants_map}
use Rattle.fluent_syntax_tree.specs.View.{variant_view}
use Rattle.fluent_syntax_tree.specs.declared.ast.Variant.{Variant}
use Rattle.fluent_syntax_tree.specs.declared.spans.Span.{Span}
use Rattle.fluent_syntax_grammar.specs.Construct.{Construct, Read, More, no_item, item, many}
use Rattle.fluent_syntax_grammar.specs.UniqueReading.{IsFunctional}
use Rattle.fluent_syntax_parser.specs.Gathered.{variants_view}
use Rattle.fluent_syntax_parser.specs.Made.{IsMade, made}
use Rattle.fluent_syntax_parser.proofs.readers.ContinuesFrom.{ContinuesFrom, whole_list_read, many_continues_after_item}

abbrev pub put_variants : List (VariantTree Span) → VariantTrees Span → VariantTrees Span
put_variants [] vs = vs
put_variants (x ∷ xs) vs = variants x (put_variants xs vs)

-- one more
put_variants-append : (xs : List (VariantTree Span)) (x : VariantTree Span) (vs : VariantTrees Span) →
    put_variants (xs ++ x ∷ []) vs ≡ put_variants xs (variants x vs)
put_variants-append [] x vs = refl
put_variants-append (y ∷ ys) x vs = ap (variants y) (put_variants-append ys x vs)

-- no others
put_variants-end : (xs : List (VariantTree Span)) → put_variants xs no_variants ≡ variants_of xs
put_variants-end [] = refl
put_variants-end (x ∷ xs) = ap (variants x) (put_variants-end xs)

variants_of-map : {X : Type 0} (f : Span → X) (xs : List (VariantTree Span)) →
    variants_of (map (variant_map f) xs) ≡ variants_map f (variants_of xs)
variants_of-map f [] = refl
variants_of-map f (x ∷ xs) = ap (variants (variant_map f x)) (variants_of-map f xs)

-- What was gathered represents what was read, with f of each text in its place.
pub record MadeVariants {S X : Type 0} (t : List ℕ) (next : Bool → Construct (More (VariantTree Span) Bool))
    (f : Span → X) (v : S → X) (i : ℕ) (xs : List (Variant S)) (starred : Bool) (j : ℕ) : Type 0 where
  pub items : List (VariantTree Span)
  pub same : map (variant_view v) xs ≡ map (variant_map f) items
  pub beyond : ContinuesFrom t next variants no_variants false i (put_variants items) starred j

module _ {S X : Type 0} {t : List ℕ} {next : Bool → Construct (More (VariantTree Span) Bool)} {f : Span → X}
    (v : S → X) {i : ℕ} where
  pub no_variants_are_made_at_start : MadeVariants t next f v i [] false i
  no_variants_are_made_at_start = record {
    items = [];
    same = refl;
    beyond = record { read = λ b end h. h; fails = λ e h. h };
  }

  module _ {j m : ℕ} {starred : Bool} where
    -- one more
    pub variant_is_made_next : (xs ys : List (Variant S)) (x : Variant S) → ys ≡ xs ++ x ∷ [] →
        MadeVariants t next f v i xs starred j → IsFunctional (next starred) → (a : VariantTree Span) (later : Bool) →
        next starred j (Read (item a later) m) → variant_view v x ≡ variant_map f a →
        MadeVariants t next f v i ys later m
    variant_is_made_next xs ys x all g h a later read same = record {
      items = g.items ++ a ∷ [];
      same =
          ap (map (variant_view v)) all ∙ map-append (variant_view v) xs (x ∷ [])
          ∙ ap (λ zs. zs ++ variant_view v x ∷ []) g.same
          ∙ ap (λ z. map (variant_map f) g.items ++ z ∷ []) same ∙ sym (map-append (variant_map f) g.items (a ∷ []));
      beyond =
          many_continues_after_item (put_variants (g.items ++ a ∷ [])) a later m g.beyond h
          (put_variants-append g.items a) read;
    }

    -- the list ends
    pub variants_made_to_end_are_all : (xs : List (Variant S)) → MadeVariants t next f v i xs starred j →
        next starred j (Read no_item m) →
        IsMade (variants_map f) (many next variants no_variants false) i (variants_view v xs) m
    variants_made_to_end_are_all xs g x =
        made (whole_list_read (variants_of g.items) m g.beyond (put_variants-end g.items) x)
        (ap variants_of g.same ∙ variants_of-map f g.items)
