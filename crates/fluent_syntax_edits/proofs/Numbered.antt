-- Lists in which something is changed at a number, item by item.
use Rattle.std.proofs.Common.{◌≡◌, ℕ, zero, suc, ◌<◌, ◌≤◌, List, [], ◌∷◌, length, map, get_or, refl}
use Rattle.std.proofs.Common.{sym, ◌∙◌, ap, arith}
use Rattle.std.proofs.lemmas.List.{get_or-map, length-map}
use Rattle.std.specs.Prelude.{slice_set}
use Rattle.std.specs.List.{insert, remove}
use Rattle.fluent_syntax_edits.specs.Changes.{at_number}

module _ {X Y : Type 0} (v : X → Y) where
  -- no item has the number
  pub past_end_at_number_changes_nothing : (f : Y → Y) (n : ℕ) (xs : List X) → length xs ≤ n →
      map v xs ≡ at_number f n (map v xs)
  past_end_at_number_changes_nothing f n [] l = refl
  past_end_at_number_changes_nothing f zero (x ∷ xs) l = absurd (omega arith)
  past_end_at_number_changes_nothing f (suc n) (x ∷ xs) l =
      ap (λ ys. v x ∷ ys) (past_end_at_number_changes_nothing f n xs (omega arith))

  -- another item comes there
  pub setting_item_changes_it_at_number : (f : Y → Y) (n : ℕ) (xs : List X) (y d : X) → n < length xs →
      v y ≡ f (v (get_or xs n d)) →
      map v (slice_set xs n y) ≡ at_number f n (map v xs)
  setting_item_changes_it_at_number f n [] y d l e = absurd (omega arith)
  setting_item_changes_it_at_number f zero (x ∷ xs) y d l e = ap (λ z. z ∷ map v xs) e
  setting_item_changes_it_at_number f (suc n) (x ∷ xs) y d l e =
      ap (λ ys. v x ∷ ys) (setting_item_changes_it_at_number f n xs y d (omega arith) e)

  -- an item comes before it, or after the last
  pub insert_maps_to_insert : (n m : ℕ) (xs : List X) (y : X) → m ≤ n → m ≤ length xs → (m < n → length xs ≤ m) →
      map v (insert xs m y) ≡ insert (map v xs) n (v y)
  insert_maps_to_insert zero zero xs y a b l = refl
  insert_maps_to_insert (suc n) zero [] y a b l = refl
  insert_maps_to_insert (suc n) zero (x ∷ xs) y a b l = absurd (omega (arith, l (omega arith)))
  insert_maps_to_insert zero (suc m) xs y a b l = absurd (omega arith)
  insert_maps_to_insert (suc n) (suc m) [] y a b l = absurd (omega arith)
  insert_maps_to_insert (suc n) (suc m) (x ∷ xs) y a b l =
      ap (λ ys. v x ∷ ys)
      (insert_maps_to_insert n m xs y (omega arith) (omega arith) (λ k. omega (arith, l (omega arith))))

  -- the item goes, if it is there
  pub remove_maps_to_remove : (n : ℕ) (xs : List X) → map v (remove xs n) ≡ remove (map v xs) n
  remove_maps_to_remove n [] = none n
    where
      none : (n : ℕ) → map v (remove [] n) ≡ remove [] n
      none zero = refl
      none (suc n) = refl
  remove_maps_to_remove zero (x ∷ xs) = refl
  remove_maps_to_remove (suc n) (x ∷ xs) = ap (λ ys. v x ∷ ys) (remove_maps_to_remove n xs)

-- Where the images of two lists are the same up to a map, those of two items at one number are.
pub images_agree_at : {X Y : Type 0} (f : X → Y) (g : Y → Y) (xs ys : List X) (i : ℕ) (x y : X) → i < length xs →
    i < length ys → x ≡ get_or xs i x → y ≡ get_or ys i y → map f ys ≡ map g (map f xs) → f y ≡ g (f x)
images_agree_at f g xs ys i x y short long at_x at_y e =
    ap f at_y
    ∙ (sym (get_or-map f ys i y (f y) long)
    ∙ (ap (λ l. get_or l i (f y)) e
    ∙ (get_or-map g (map f xs) i (f x) (f y) (omega (arith, length-map xs f))
    ∙ (ap g (get_or-map f xs i x (f x) short) ∙ ap (λ z. g (f z)) (sym at_x)))))
