-- Lists that are read item by item, and answers that are handed on.
use Rattle.std.proofs.Common.{◌≡◌, ℕ, zero, suc, ◌+◌, ◌<◌, ◌≤◌, List, [], ◌∷◌, ◌++◌, length, get_or, take, drop, map}
use Rattle.std.proofs.Common.{Option, Some, None, option_map, Result, Err, refl, sym, ap, ◌∙◌, arith}
use Rattle.std.proofs.lemmas.List.{map_more, map-append, take_all}
use Rattle.serde_json.specs.Data.{Data}
use Rattle.serde_json.specs.View.{view, items_of, items_view}
use Rattle.serde_json.specs.declared.value.Value.{Value}
use Rattle.fluent_syntax_json.specs.declared.fault.ValueFault.{ValueFault}
use Rattle.fluent_syntax_json.specs.declared.fault.ValueFault.TheVariants.{Shape, Memory}
use Rattle.fluent_syntax_json.specs.Answer.{ReadsValue}
use Rattle.fluent_syntax_json.specs.Reading.{◌>>=◌, one_more, items_by}

-- a fault that is handed on: where the part is not spelled, the whole is not
pub handed :
    {A U B : Type 0} (whole : U → B) (o : Option A) (p : Option B) (r : Result U ValueFault) (e y : ValueFault) →
    r ≡ Err y → y ≡ e → (o ≡ None → p ≡ None) → ReadsValue (λ (x : A). x) o (Err e) → ReadsValue whole p r
handed whole o p r Shape y is same none h = rw (is, same) (none h)
handed whole o p r Memory y is same none h = rw (is, same) tt

joins : {A : Type 0} → Option (List A) → Option (List A) → Option (List A)
joins p q = p >>= λ ys. option_map (λ zs. ys ++ zs) q

joins-nothing : {A : Type 0} (q : Option (List A)) → q ≡ joins (Some []) q
unfolding joins
joins-nothing None = refl
joins-nothing (Some zs) = refl

joins-one_more : {A : Type 0} (o : Option A) (p q : Option (List A)) → one_more o (joins p q) ≡ joins (one_more o p) q
unfolding joins
joins-one_more None p q = refl
joins-one_more (Some x) None q = refl
joins-one_more (Some x) (Some ys) None = refl
joins-one_more (Some x) (Some ys) (Some zs) = refl

module _ {A : Type 0} (read : Data → Option A) where
  items_of_append_are_joined : (cs bs : List Data) →
      items_by read (items_of (cs ++ bs)) ≡ joins (items_by read (items_of cs)) (items_by read (items_of bs))
  items_of_append_are_joined [] bs = joins-nothing (items_by read (items_of bs))
  items_of_append_are_joined (a ∷ cs) bs =
      ap (one_more (read a)) (items_of_append_are_joined cs bs)
      ∙ joins-one_more (read a) (items_by read (items_of cs)) (items_by read (items_of bs))

  -- what the values spell that were read so far
  abbrev pub so_far : List Value → ℕ → Option (List A)
  so_far xs n = items_by read (items_of (map view (take n xs)))

  pub pushed : {T : Type 0} (f : T → A) (ys zs : List T) (y : T) (xs : List Value) (i : ℕ) (v : Value) →
      so_far xs i ≡ Some (map f ys) → zs ≡ ys ++ y ∷ [] → i < length xs → v ≡ get_or xs i v →
      read (view v) ≡ Some (f y) → so_far xs (i + 1) ≡ Some (map f zs)
  unfolding joins
  pushed f ys zs y xs i v e made h is one =
      let here : read (view (get_or xs i v)) ≡ Some (f y) = ap (λ x. read (view x)) (sym is) ∙ one in
      ap (λ l. items_by read (items_of l)) (map_more view xs i v h)
      ∙ items_of_append_are_joined (map view (take i xs)) (view (get_or xs i v) ∷ [])
      ∙ rw (e, here, made, map-append f ys (y ∷ []))

  pub items_read_when_all_are_so_far : {T : Type 0} (f : T → A) (ys : List T) (xs items : List Value) (n : ℕ) →
      so_far items n ≡ Some (map f ys) → length items ≤ n → items ≡ xs → items_by read (items_view xs) ≡ Some (map f ys)
  items_read_when_all_are_so_far f ys xs items n e h same =
      ap (λ l. items_by read (items_of (map view l))) (sym same ∙ sym (take_all n items h)) ∙ e

  list_splits_at_its_item : (xs : List Value) (i : ℕ) (v : Value) → i < length xs →
      xs ≡ take i xs ++ get_or xs i v ∷ drop (suc i) xs
  list_splits_at_its_item [] i v h = absurd (omega arith)
  list_splits_at_its_item (x ∷ xs) zero v h = refl
  list_splits_at_its_item (x ∷ xs) (suc i) v h = ap (λ l. x ∷ l) (list_splits_at_its_item xs i v (omega arith))

  joining_with_none_is_none : (p : Option (List A)) → joins p None ≡ None
  unfolding joins
  joining_with_none_is_none None = refl
  joining_with_none_is_none (Some x) = refl

  pub item_that_fails_fails_items : (xs items : List Value) (i : ℕ) (v : Value) → i < length items →
      v ≡ get_or items i v → items ≡ xs →
      read (view v) ≡ None → items_by read (items_view xs) ≡ None
  item_that_fails_fails_items xs items i v h is same none =
      let here : read (view (get_or items i v)) ≡ None = ap (λ x. read (view x)) (sym is) ∙ none in
      let apart =
      ap (map view) (sym same ∙ list_splits_at_its_item items i v h)
      ∙ map-append view (take i items) (get_or items i v ∷ drop (suc i) items) in
      ap (λ l. items_by read (items_of l)) apart
      ∙ items_of_append_are_joined (map view (take i items)) (view (get_or items i v) ∷ map view (drop (suc i) items))
      ∙ rw here (joining_with_none_is_none (items_by read (items_of (map view (take i items)))))
