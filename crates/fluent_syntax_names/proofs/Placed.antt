-- What a table of names holds once a name was put in.
use Rattle.std.proofs.Common.{◌≡◌, ℕ, Bool, true, false, List, [], ◌∷◌, Option, Some, None, Vec, refl, sym, ap, ◌∙◌}
use Rattle.std.proofs.Common.{cond}
use Rattle.std.specs.Prelude.{if◌then◌else◌}
use Rattle.std.specs.BTreeMap.{is_at, insert_entry}
use Rattle.std.specs.Map.{lookup}
use Rattle.std.specs.Cmp.Lexicographic.{slice_cmp, bytes_decides}
use Rattle.std.specs.Ordering.{nat_cmp, is_eq}
use Rattle.std.specs.Str.{bytes_eq}
use Rattle.std.specs.declared.alloc.Global.{Global}
use Rattle.std.specs.declared.cmp.Ordering.{Ordering}
use Rattle.std.specs.declared.cmp.Ordering.TheVariants.{Equal, Greater, Less}
use Rattle.std.proofs.lemmas.Map.Text.{is_eq-slice_cmp}
use Rattle.fluent_syntax_names.specs.FirstPlaces.{first_of, place_where}

abbrev pub Key : Type 0
Key = Vec ℕ Global

abbrev pub Row : Type 0 → Type 0
Row X = Key × X

abbrev pub order : Key → Key → Ordering
order x y = slice_cmp nat_cmp x.items y.items

abbrev pub find : {X : Type 0} → List ℕ → List (Row X) → Option X
find name rows = lookup (is_at (λ k. slice_cmp nat_cmp name k.items)) rows

pub first_of-None : {X : Type 0} (o : Option X) → first_of o None ≡ o
first_of-None None = refl
first_of-None (Some x) = refl

module _ {X : Type 0} (key : Key) (place : X) (name : List ℕ) where
  abbrev wanted : List (Row X) → Type 0
  wanted rows =
      find name (insert_entry order rows key place) ≡ first_of (find name rows) (place_where name key.items place)

  -- in front of rows that do not have it
  place_in_front_is_found_first : (rows : List (Row X)) → find key.items rows ≡ None → (b : Bool)
      → bytes_eq name key.items ≡ b
      → cond b (Some place) (find name rows) ≡ first_of (find name rows) (if b then Some place else None)
  place_in_front_is_found_first rows absent true e =
      let same : name ≡ key.items = (bytes_decides name key.items).0 e in
      let nowhere : find name rows ≡ None = ap (λ n. find n rows) same ∙ absent in
      sym (ap (λ o. first_of o (Some place)) nowhere)
  place_in_front_is_found_first rows absent false e = sym (first_of-None (find name rows))

  row_put_in_front_is_found_first : (rows : List (Row X)) → find key.items rows ≡ None
      → find name ((key, place) ∷ rows) ≡ first_of (find name rows) (place_where name key.items place)
  row_put_in_front_is_found_first rows absent =
      ap (λ b. cond b (Some place) (find name rows)) (is_eq-slice_cmp name key.items)
      ∙ place_in_front_is_found_first rows absent (bytes_eq name key.items) refl

  -- after a row of another name
  row_put_beyond_is_found_after_first : (row : Row X) (rows : List (Row X)) (b : Bool) → wanted rows
      → cond b (Some row.1) (find name (insert_entry order rows key place))
      ≡ first_of (cond b (Some row.1) (find name rows)) (place_where name key.items place)
  row_put_beyond_is_found_after_first row rows true held = refl
  row_put_beyond_is_found_after_first row rows false held = held

  wanted_by_order_of_first_row : (row : Row X) (rows : List (Row X)) (o : Ordering) → order key row.0 ≡ o
      → find key.items (row ∷ rows) ≡ None
      → (find key.items rows ≡ None → wanted rows) → wanted (row ∷ rows)
  wanted_by_order_of_first_row row rows Less e absent held = rw e (row_put_in_front_is_found_first (row ∷ rows) absent)
  wanted_by_order_of_first_row row rows Equal e absent held =
      let there : find key.items (row ∷ rows) ≡ Some row.1 =
      ap (λ o. cond (is_eq o) (Some row.1) (find key.items rows)) e in
      let never : None ≡ Some row.1 = sym absent ∙ there in cc
  wanted_by_order_of_first_row row rows Greater e absent held =
      let rest : find key.items rows ≡ None =
      sym (ap (λ o. cond (is_eq o) (Some row.1) (find key.items rows)) e) ∙ absent in
      rw e (row_put_beyond_is_found_after_first row rows (is_at (λ k. slice_cmp nat_cmp name k.items) row.0)
      (held rest))

  -- a new name is put in
  pub inserted_key_is_found_after_others : (rows : List (Row X)) → find key.items rows ≡ None → wanted rows
  inserted_key_is_found_after_others [] absent = row_put_in_front_is_found_first [] absent
  inserted_key_is_found_after_others (row ∷ rows) absent =
      wanted_by_order_of_first_row row rows (order key row.0) refl absent (inserted_key_is_found_after_others rows)
