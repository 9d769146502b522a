-- Lists of names.
use Rattle.std.proofs.Common.{◌≡◌, ◌≢◌, ◌∙◌, List, [], ◌∷◌, ◌++◌, Some, inl, inr, map, refl, sym}
use Rattle.toml.specs.Data.{Data, array}
use Rattle.toml.specs.View.{items_of}
use Rattle.ftl_files.specs.Settings.{IsListed}

pub items_of_lists_are_injective : (xs ys : List Data) → items_of xs ≡ items_of ys → xs ≡ ys
items_of_lists_are_injective [] [] same = refl
items_of_lists_are_injective [] (y ∷ ys) same = cc
items_of_lists_are_injective (x ∷ xs) [] same = cc
items_of_lists_are_injective (x ∷ xs) (y ∷ ys) same =
    let others : items_of xs ≡ items_of ys = cc in
    let beyond = items_of_lists_are_injective xs ys others in
    cc

module _ {A : Type 0} (named : A → Data) where
  -- each value of a list of names is a name
  list_of_names_has_no_other_value : (before : List Data) (value : Data) (after : List Data) (things : List A) →
      before ++ value ∷ after ≡ map named things → ((thing : A) → value ≢ named thing) → ⊥
  list_of_names_has_no_other_value [] value after [] same other = cc
  list_of_names_has_no_other_value (x ∷ before) value after [] same other = cc
  list_of_names_has_no_other_value [] value after (k ∷ things) same other =
      let here : value ≡ named k = cc in
      other k here
  list_of_names_has_no_other_value (x ∷ before) value after (k ∷ things) same other =
      let others : before ++ value ∷ after ≡ map named things = cc in
      list_of_names_has_no_other_value before value after things others other

  -- no things are listed where one value is no name
  pub name_in_none_is_not_listed : (values : List Data) (before : List A) (value : Data) (after : List Data)
      (things : List A) →
      values ≡ map named before ++ value ∷ after → ((thing : A) → value ≢ named thing) →
      IsListed named (Some (array (items_of values))) things → ⊥
  name_in_none_is_not_listed values before value after things at other (inl none) = cc
  name_in_none_is_not_listed values before value after things at other (inr same) =
      let items : items_of values ≡ items_of (map named things) = cc in
      list_of_names_has_no_other_value (map named before) value after things
      (sym at ∙ items_of_lists_are_injective values (map named things) items) other

  pub list_of_names_is_listed : (values : List Data) (things : List A) → values ≡ map named things →
      IsListed named (Some (array (items_of values))) things
  list_of_names_is_listed values things same = rw same (inr refl)

pub some_is_injective : {X : Type 0} (x y : X) → Some x ≡ Some y → x ≡ y
some_is_injective x y same = cc
