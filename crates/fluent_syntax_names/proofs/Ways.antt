-- What reaches what, and the test that computes it.
use Rattle.std.proofs.Common.{◌≡◌, ◌↔◌, inl, inr, Bool, true, false, List, [], ◌∷◌, refl, sym, ap, ◌∙◌}
use Rattle.std.specs.Prelude.{◌||◌, ◌&&◌}
use Rattle.std.specs.List.{list_any}
use Rattle.std.specs.Str.{bytes_eq}
use Rattle.std.proofs.lemmas.Bool.{or_cases}
use Rattle.std.proofs.lemmas.Slice.Eq.{bytes_eq-Decides}
use Rattle.fluent_syntax_names.specs.Cycles.{Link, is_link, links_to, Reaches, next, onward, reaches_by, targets}
use Rattle.fluent_syntax_names.specs.Cycles.{reaches}
use Rattle.fluent_syntax_names.specs.QualifiedNames.{Text}

-- ---- Tests

pub or_from_left : (a b : Bool) → a ≡ true → (a || b) ≡ true
or_from_left a b e = ap (λ x. x || b) e

pub true_right_makes_or_true : (a b : Bool) → b ≡ true → (a || b) ≡ true
true_right_makes_or_true true b e = refl
true_right_makes_or_true false b e = e

pub and_is_true : (a b : Bool) → a ≡ true → b ≡ true → (a && b) ≡ true
and_is_true a b e f = ap (λ x. x && b) e ∙ f

pub true_and_has_true_parts : (a b : Bool) → (a && b) ≡ true → (a ≡ true) × (b ≡ true)
true_and_has_true_parts true b e = (refl, e)
true_and_has_true_parts false b e = absurd (cc)

pub name_equals_itself : (x : Text) → bytes_eq x x ≡ true
name_equals_itself x = (bytes_eq-Decides x x).1 refl

-- the names of a link, by its test
pub link_test_gives_names : (x y : Text) (link : Link) → is_link x y link ≡ true → (x ≡ link.from) × (y ≡ link.to)
link_test_gives_names x y link e =
    let parts = true_and_has_true_parts (bytes_eq x link.from) (bytes_eq y link.to) e in
    ((bytes_eq-Decides x link.from).0 parts.0, (bytes_eq-Decides y link.to).0 parts.1)

pub link_is_link_between_its_ends : (link : Link) → is_link link.from link.to link ≡ true
link_is_link_between_its_ends link =
    and_is_true (bytes_eq link.from link.from) (bytes_eq link.to link.to) (name_equals_itself link.from)
    (name_equals_itself link.to)

-- what is led to is a target
link_leads_to_one_of_targets : (all : List Link) (x y : Text) → links_to all x y ≡ true
    → list_any (bytes_eq y) (targets all) ≡ true
link_leads_to_one_of_targets [] x y e = e
link_leads_to_one_of_targets (link ∷ all) x y e = elim (or_cases (is_link x y link) (links_to all x y) e) [
  | inl w ↦
      or_from_left (bytes_eq y link.to) (list_any (bytes_eq y) (targets all))
      ((bytes_eq-Decides y link.to).1 (link_test_gives_names x y link w).1)
  | inr w ↦
      true_right_makes_or_true (bytes_eq y link.to) (list_any (bytes_eq y) (targets all))
      (link_leads_to_one_of_targets all x y w)
]

module _ (all : List Link) where
  -- by way of these names alone
  data Via (ways : List Text) : Text → Text → Type 0 where
    hop : (x y : Text) → links_to all x y ≡ true → Via ways x y
    through : (x w y : Text) → links_to all x w ≡ true → list_any (bytes_eq w) ways ≡ true → Via ways w y → Via ways x y

  way_stays_with_more_names : (way : Text) (ways : List Text) (x y : Text) → Via ways x y → Via (way ∷ ways) x y
  way_stays_with_more_names way ways x y (hop x' y' e) = hop x y e
  way_stays_with_more_names way ways x y (through x' w y' e among rest) =
      through x w y e (true_right_makes_or_true (bytes_eq w way) (list_any (bytes_eq w) ways) among)
      (way_stays_with_more_names way ways w y rest)

  ways_join_at_allowed_name : (ways : List Text) (x w y : Text) → Via ways x w → list_any (bytes_eq w) ways ≡ true
      → Via ways w y → Via ways x y
  ways_join_at_allowed_name ways x w y (hop x' w' e) among second = through x w y e among second
  ways_join_at_allowed_name ways x w y (through x' v w' e v_among rest) among second =
      through x v y e v_among (ways_join_at_allowed_name ways v w y rest among second)

  reaches_by_gives_a_way : (ways : List Text) (x y : Text) → reaches_by all ways x y ≡ true → Via ways x y
  reaches_by_gives_a_way [] x y e = hop x y e
  reaches_by_gives_a_way (way ∷ ways) x y e =
      elim (or_cases (reaches_by all ways x y) (reaches_by all ways x way && reaches_by all ways way y) e) [
        | inl w ↦ way_stays_with_more_names way ways x y (reaches_by_gives_a_way ways x y w)
        | inr w ↦
            let parts = true_and_has_true_parts (reaches_by all ways x way) (reaches_by all ways way y) w in
            ways_join_at_allowed_name (way ∷ ways) x way y
            (way_stays_with_more_names way ways x way (reaches_by_gives_a_way ways x way parts.0))
            (or_from_left (bytes_eq way way) (list_any (bytes_eq way) ways) (name_equals_itself way))
            (way_stays_with_more_names way ways way y (reaches_by_gives_a_way ways way y parts.1))
      ]

  -- one way more, where the test is right for the others
  way_by_more_names_makes_reaches_by_true : (way : Text) (ways : List Text)
      → ((x y : Text) → Via ways x y → reaches_by all ways x y ≡ true)
      → (x y : Text) → Via (way ∷ ways) x y → reaches_by all (way ∷ ways) x y ≡ true
  way_by_more_names_makes_reaches_by_true way ways complete x y (hop x' y' e) =
      or_from_left (reaches_by all ways x y) (reaches_by all ways x way && reaches_by all ways way y)
      (complete x y (hop x y e))
  way_by_more_names_makes_reaches_by_true way ways complete x y (through x' w y' e among rest) =
      let left : Text → Bool = λ v. reaches_by all ways v y in
      let right : Text → Bool = λ v. reaches_by all ways v way && reaches_by all ways way y in
      let later : (left w || right w) ≡ true = way_by_more_names_makes_reaches_by_true way ways complete w y rest in
      elim (or_cases (bytes_eq w way) (list_any (bytes_eq w) ways) among) [
        | inl is ↦
            let same : w ≡ way = (bytes_eq-Decides w way).0 is in
            let to_way : reaches_by all ways x way ≡ true =
            complete x way (hop x way (ap (λ (v : Text). links_to all x v) (sym same) ∙ e)) in
            elim (or_cases (left w) (right w) later) [
              | inl v ↦
                  true_right_makes_or_true (left x) (right x)
                  (and_is_true (reaches_by all ways x way) (reaches_by all ways way y) to_way (ap left (sym same) ∙ v))
              | inr v ↦
                  let parts = true_and_has_true_parts (reaches_by all ways w way) (reaches_by all ways way y) v in
                  true_right_makes_or_true (left x) (right x)
                  (and_is_true (reaches_by all ways x way) (reaches_by all ways way y) to_way parts.1)
            ]
        | inr is ↦
            let before : (t : Text) → reaches_by all ways w t ≡ true → reaches_by all ways x t ≡ true =
            λ t h. complete x t (through x w t e is (reaches_by_gives_a_way ways w t h)) in
            elim (or_cases (left w) (right w) later) [
              | inl v ↦ or_from_left (left x) (right x) (before y v)
              | inr v ↦
                  let parts = true_and_has_true_parts (reaches_by all ways w way) (reaches_by all ways way y) v in
                  true_right_makes_or_true (left x) (right x)
                  (and_is_true (reaches_by all ways x way) (reaches_by all ways way y) (before way parts.0) parts.1)
            ]
      ]

  way_makes_reaches_by_true : (ways : List Text) (x y : Text) → Via ways x y → reaches_by all ways x y ≡ true
  way_makes_reaches_by_true [] x y (hop x' y' e) = e
  way_makes_reaches_by_true [] x y (through x' w y' e among rest) = let never : false ≡ true = among in absurd (cc)
  way_makes_reaches_by_true (way ∷ ways) x y via =
      way_by_more_names_makes_reaches_by_true way ways (way_makes_reaches_by_true ways) x y via

  way_gives_reach : (ways : List Text) (x y : Text) → Via ways x y → Reaches all x y
  way_gives_reach ways x y (hop x' y' e) = next x y e
  way_gives_reach ways x y (through x' w y' e among rest) = onward x w y e (way_gives_reach ways w y rest)

  reach_gives_way_over_targets : (x y : Text) → Reaches all x y → Via (targets all) x y
  reach_gives_way_over_targets x y (next x' y' e) = hop x y e
  reach_gives_way_over_targets x y (onward x' w y' e rest) =
      through x w y e (link_leads_to_one_of_targets all x w e) (reach_gives_way_over_targets w y rest)

  -- the test says what is reached
  pub reaches_decides_reach : (x y : Text) → (reaches all x y ≡ true) ↔ Reaches all x y
  reaches_decides_reach x y = (
    λ e. way_gives_reach (targets all) x y (reaches_by_gives_a_way (targets all) x y e),
    λ r. way_makes_reaches_by_true (targets all) x y (reach_gives_way_over_targets x y r),
  )
