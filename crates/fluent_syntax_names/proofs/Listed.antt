-- Lists of lists, as they are read and written.
use Rattle.std.proofs.Common.{◌≡◌, ◌<◌, ℕ, List, [], ◌∷◌, ◌++◌, Vec, length, get_or, set, map, sym, ap, ◌∙◌}
use Rattle.std.specs.declared.alloc.Global.{Global}
use Rattle.std.proofs.lemmas.List.{get_or-map, length-map, map-set, map_push}

module _ {X : Type 0} (lists : List (Vec X Global)) where
  abbrev items : Vec X Global → List X
  items list = list.items

  pub length-items : length (map items lists) ≡ length lists
  length-items = length-map lists items

  pub list_at_index_has_its_items : (u : ℕ) (list : Vec X Global) → u < length lists → list ≡ get_or lists u list
      → get_or (map items lists) u [] ≡ list.items
  list_at_index_has_its_items u list within is = get_or-map items lists u list [] within ∙ ap items (sym is)

  -- an empty list more
  pub pushed_empty_list_has_no_items : (more : List (Vec X Global)) (list : Vec X Global) → more ≡ lists ++ list ∷ []
      → list.items ≡ [] → map items more ≡ map items lists ++ [] ∷ []
  pushed_empty_list_has_no_items more list is empty =
      ap (map items) is ∙ map_push items lists list ∙ ap (λ (l : List X). map items lists ++ l ∷ []) empty

  -- an item more in one of them
  pub pushed_item_is_last_of_its_list : (u : ℕ) (list longer : Vec X Global) (item : X) → u < length lists
      → list ≡ get_or lists u list → longer.items ≡ list.items ++ item ∷ []
      → map items (set lists u longer) ≡ set (map items lists) u (get_or (map items lists) u [] ++ item ∷ [])
  pushed_item_is_last_of_its_list u list longer item within is more =
      map-set items lists u longer
      ∙ ap (set (map items lists) u)
      (more ∙ ap (λ (l : List X). l ++ item ∷ []) (sym (list_at_index_has_its_items u list within is)))
