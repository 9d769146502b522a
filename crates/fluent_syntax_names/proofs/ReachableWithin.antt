-- Lists of messages that are followed, as far as an index.
use Rattle.std.proofs.Common.{◌≡◌, ℕ, zero, suc, ◌+◌, ◌-◌, ◌<◌, ◌≤◌, List, [], ◌∷◌, ◌++◌, length, get_or, take, drop}
use Rattle.std.proofs.Common.{Option, Some, None, refl, sym, ap, ◌∙◌, arith}
use Rattle.std.specs.Prelude.{option_map}
use Rattle.std.proofs.lemmas.List.{append_assoc, append-nil, drop_all, take_more, take_all}
use Rattle.std.proofs.lemmas.List.{take-append-le, drop-append-le, length-append, length-drop}
use Rattle.fluent_syntax_names.proofs.Adding.{drop_one_node}
use Rattle.fluent_syntax_names.specs.MessageReferences.{reachable_within, reachable_by, followed_limit}
use Rattle.fluent_syntax_names.specs.QualifiedNames.{Text}

-- after one more name
front_then_one_is_longer_front : (front : List Text) (x : Text) (o : Option (List Text))
    → option_map (λ ys. front ++ ys) (option_map (λ ys. x ∷ ys) o) ≡ option_map (λ ys. (front ++ x ∷ []) ++ ys) o
front_then_one_is_longer_front front x None = refl
front_then_one_is_longer_front front x (Some ys) = ap Some (sym (append_assoc front (x ∷ []) ys))

module _ (targets : Text → List Text) where
  reachable_within-nil : (room : ℕ) → reachable_within targets room [] ≡ Some []
  reachable_within-nil zero = refl
  reachable_within-nil (suc room) = refl

  -- there is no list of more names than there is room for
  pub too_many_names_reach_nothing : (room : ℕ) (names : List Text) → room < length names
      → reachable_within targets room names ≡ None
  too_many_names_reach_nothing zero [] more = absurd (omega arith)
  too_many_names_reach_nothing zero (x ∷ xs) more = refl
  too_many_names_reach_nothing (suc room) [] more = absurd (omega arith)
  too_many_names_reach_nothing (suc room) (x ∷ xs) more =
      ap (option_map (λ ys. x ∷ ys))
      (too_many_names_reach_nothing room (xs ++ targets x) (omega (arith, length-append xs (targets x))))

  -- the names of a list up to an index are followed: what is left follows the others
  abbrev pub FollowedTo : (room : ℕ) → (whole : Option (List Text)) → (names : List Text) → ℕ → Type 0
  FollowedTo room whole names i =
      whole ≡ option_map (λ ys. take i names ++ ys) (reachable_within targets (room - i) (drop i names))

  module _ (room : ℕ) (whole : Option (List Text)) (names : List Text) (i : ℕ) (few : length names ≤ room)
      (before : FollowedTo room whole names i) where
    -- the next name is followed
    next_name_is_followed_in_its_place : (x : Text) → i < length names → x ≡ get_or names i []
        → whole ≡ option_map (λ ys. (take i names ++ x ∷ []) ++ ys)
        (reachable_within targets (room - (i + 1)) (drop (i + 1) names ++ targets x))
    next_name_is_followed_in_its_place x within is =
        let cut = drop_one_node names i x [] within is in
        let left : room - i ≡ suc (room - (i + 1)) = omega arith in
        let rest = reachable_within targets (room - (i + 1)) (drop (i + 1) names ++ targets x) in
        before
        ∙ ap (λ l. option_map (λ ys. take i names ++ ys) (reachable_within targets (room - i) l)) cut
        ∙ ap (λ r. option_map (λ ys. take i names ++ ys) (reachable_within targets r (x ∷ drop (i + 1) names))) left
        ∙ front_then_one_is_longer_front (take i names) x rest

    pub following_goes_on_with_targets : (x : Text) → i < length names → x ≡ get_or names i []
        → FollowedTo room whole (names ++ targets x) (i + 1)
    following_goes_on_with_targets x within is =
        let front : take i names ++ x ∷ [] ≡ take (i + 1) (names ++ targets x) =
        ap (λ y. take i names ++ y ∷ []) is
        ∙ sym (take_more names i [] within)
        ∙ sym (take-append-le (i + 1) names (targets x) (omega arith)) in
        let back : drop (i + 1) names ++ targets x ≡ drop (i + 1) (names ++ targets x) =
        sym (drop-append-le (i + 1) names (targets x) (omega arith)) in
        next_name_is_followed_in_its_place x within is
        ∙ ap (λ l. option_map (λ ys. l ++ ys)
        (reachable_within targets (room - (i + 1)) (drop (i + 1) names ++ targets x))) front
        ∙ ap (λ l. option_map (λ ys. take (i + 1) (names ++ targets x) ++ ys)
        (reachable_within targets (room - (i + 1)) l)) back

    pub too_many_targets_reach_nothing : (x : Text) → i < length names → x ≡ get_or names i []
        → room < length names + length (targets x) → whole ≡ None
    too_many_targets_reach_nothing x within is more =
        let rest = drop (i + 1) names ++ targets x in
        let long : room - (i + 1) < length rest =
        omega (arith, length-append (drop (i + 1) names) (targets x), length-drop (i + 1) names) in
        next_name_is_followed_in_its_place x within is
        ∙ ap (option_map (λ ys. (take i names ++ x ∷ []) ++ ys))
        (too_many_names_reach_nothing (room - (i + 1)) rest long)

    pub followed_names_are_all_reachable : length names ≤ i → whole ≡ Some names
    followed_names_are_all_reachable end =
        before
        ∙ ap (λ l. option_map (λ ys. take i names ++ ys) (reachable_within targets (room - i) l)) (drop_all i names end)
        ∙ ap (option_map (λ ys. take i names ++ ys)) (reachable_within-nil (room - i))
        ∙ ap Some (append-nil (take i names) ∙ take_all i names end)

-- ---- What is followed depends on what is referred to alone

pub reachable_within_equal_lists : (f g : Text → List Text) → ((x : Text) → f x ≡ g x) → (room : ℕ) (names : List Text)
    → reachable_within f room names ≡ reachable_within g room names
reachable_within_equal_lists f g same zero [] = refl
reachable_within_equal_lists f g same zero (x ∷ xs) = refl
reachable_within_equal_lists f g same (suc room) [] = refl
reachable_within_equal_lists f g same (suc room) (x ∷ xs) =
    ap (λ l. option_map (λ ys. x ∷ ys) (reachable_within f room (xs ++ l))) (same x)
    ∙ ap (option_map (λ ys. x ∷ ys)) (reachable_within_equal_lists f g same room (xs ++ g x))

pub reachable_by_equal_lists : (f g : Text → List Text) → ((x : Text) → f x ≡ g x) → (name : Text)
    → reachable_by f name ≡ reachable_by g name
reachable_by_equal_lists f g same name =
    reachable_within_equal_lists f g same followed_limit (f name) ∙ ap (reachable_within g followed_limit) (same name)
