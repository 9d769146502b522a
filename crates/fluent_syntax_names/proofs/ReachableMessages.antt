-- The list of the messages that an entry leads to has exactly what the entry reaches.
use Rattle.std.proofs.Common.{◌≡◌, ◌↔◌, ◌⊎◌, inl, inr, ℕ, zero, suc, Bool, true, false, List, [], ◌∷◌, ◌++◌, map}
use Rattle.std.proofs.Common.{Option, Some, None, refl, sym, ap, ◌∙◌, subst}
use Rattle.std.specs.Prelude.{◌&&◌, ◌||◌, cond, filter, option_map}
use Rattle.std.specs.List.{list_any}
use Rattle.std.specs.Str.{bytes_eq}
use Rattle.std.proofs.lemmas.Bool.{or_cases}
use Rattle.std.proofs.lemmas.List.Folds.{list_any-append}
use Rattle.std.proofs.lemmas.Slice.Eq.{bytes_eq-Decides}
use Rattle.fluent_syntax_names.specs.Cycles.{Link, links_to, Reaches, next, onward}
use Rattle.fluent_syntax_names.specs.MessageReferences.{reachable_within, reachable_messages, followed_limit}
use Rattle.fluent_syntax_names.specs.MessageReferences.{messages_of}
use Rattle.fluent_syntax_names.specs.QualifiedNames.{Text}
use Rattle.fluent_syntax_names.proofs.Ways.{or_from_left, true_right_makes_or_true, name_equals_itself}

abbrev IsAmong : List Text → Text → Type 0
IsAmong names name = list_any (bytes_eq name) names ≡ true

no_name_is_among_none : (name : Text) → IsAmong [] name → ⊥
no_name_is_among_none name among = let never : false ≡ true = among in cc

name_among_is_first_or_among_rest : (x name : Text) (xs : List Text) → IsAmong (x ∷ xs) name → (name ≡ x) ⊎
    IsAmong xs name
name_among_is_first_or_among_rest x name xs among =
    elim (or_cases (bytes_eq name x) (list_any (bytes_eq name) xs) among) [
      | inl is ↦ inl ((bytes_eq-Decides name x).0 is)
      | inr is ↦ inr is
    ]

first_is_among : (x : Text) (xs : List Text) → IsAmong (x ∷ xs) x
first_is_among x xs = or_from_left (bytes_eq x x) (list_any (bytes_eq x) xs) (name_equals_itself x)

IsAmong-more : (x name : Text) (xs : List Text) → IsAmong xs name → IsAmong (x ∷ xs) name
IsAmong-more x name xs among = true_right_makes_or_true (bytes_eq name x) (list_any (bytes_eq name) xs) among

-- of a list with one put before it
put_before_some : (x : Text) (o : Option (List Text)) (xs : List Text) → option_map (λ ys. x ∷ ys) o ≡ Some xs
    → (ys : List Text) × (o ≡ Some ys) × (x ∷ ys ≡ xs)
put_before_some x None xs e = absurd (cc)
put_before_some x (Some ys) xs e = (ys, refl, cc)

module _ (all : List Link) where
  -- the messages that an entry refers to are those that its links lead to
  target_is_among_link_or_rest : (link : Link) (rest : List Link) (x y : Text) (b : Bool)
      → list_any (bytes_eq y) (map (λ (l : Link). l.to) rest) ≡ links_to all x y
      → list_any (bytes_eq y) (map (λ (l : Link). l.to) (cond b (link ∷ rest) rest))
      ≡ ((b && bytes_eq y link.to) || links_to all x y)
  target_is_among_link_or_rest link rest x y true e = ap (λ c. bytes_eq y link.to || c) e
  target_is_among_link_or_rest link rest x y false e = e

referred_messages_are_link_targets : (all : List Link) (x y : Text)
    → list_any (bytes_eq y) (messages_of all x) ≡ links_to all x y
referred_messages_are_link_targets [] x y = refl
referred_messages_are_link_targets (link ∷ all) x y =
    target_is_among_link_or_rest all link (filter (λ (l : Link). bytes_eq x l.from) all) x y (bytes_eq x link.from)
    (referred_messages_are_link_targets all x y)

module _ (all : List Link) where
  reach_extends_by_link : (x y z : Text) → Reaches all x y → links_to all y z ≡ true → Reaches all x z
  reach_extends_by_link x y z (next x' y' e) last = onward x y z e (next y z last)
  reach_extends_by_link x y z (onward x' w y' e rest) last = onward x w z e (reach_extends_by_link w y z rest last)

  -- what is followed from names that are reached is reached
  names_reachable_within_are_reached : (from : Text) (room : ℕ) (names reachable : List Text)
      → reachable_within (messages_of all) room names ≡ Some reachable
      → ((x : Text) → IsAmong names x → Reaches all from x) → (y : Text) → IsAmong reachable y → Reaches all from y
  names_reachable_within_are_reached from zero [] reachable e reached y among =
      let none : [] ≡ reachable = cc in
      absurd (no_name_is_among_none y (subst (λ (l : List Text). IsAmong l y) (sym none) among))
  names_reachable_within_are_reached from zero (x ∷ xs) reachable e reached y among = absurd (cc)
  names_reachable_within_are_reached from (suc room) [] reachable e reached y among =
      let none : [] ≡ reachable = cc in
      absurd (no_name_is_among_none y (subst (λ (l : List Text). IsAmong l y) (sym none) among))
  names_reachable_within_are_reached from (suc room) (x ∷ xs) reachable e reached y among =
      let beyond = put_before_some x (reachable_within (messages_of all) room (xs ++ messages_of all x)) reachable e in
      let here : Reaches all from x = reached x (first_is_among x xs) in
      let reached_too : (z : Text) → IsAmong (xs ++ messages_of all x) z → Reaches all from z =
      λ z is.
      elim (or_cases (list_any (bytes_eq z) xs) (list_any (bytes_eq z) (messages_of all x))
      (sym (list_any-append (bytes_eq z) xs (messages_of all x)) ∙ is)) [
        | inl w ↦ reached z (IsAmong-more x z xs w)
        | inr w ↦ reach_extends_by_link from x z here (sym (referred_messages_are_link_targets all x z) ∙ w)
      ] in
      elim (name_among_is_first_or_among_rest x y beyond.0
      (subst (λ (l : List Text). IsAmong l y) (sym beyond.2) among)) [
        | inl is ↦ subst (Reaches all from) (sym is) here
        | inr w ↦
            names_reachable_within_are_reached from room (xs ++ messages_of all x) beyond.0 beyond.1 reached_too y w
      ]

  -- the list has the names and what each of its own refers to
  abbrev IsClosed : (names reachable : List Text) → Type 0
  IsClosed names reachable = ((x : Text) → IsAmong names x → IsAmong reachable x)
      × ((x y : Text) → IsAmong reachable x → links_to all x y ≡ true → IsAmong reachable y)

  empty_names_are_closed : IsClosed [] []
  empty_names_are_closed = (λ x among. among, λ x y among e. absurd (no_name_is_among_none x among))

  closed_names_extend_by_name : (x : Text) (xs ys : List Text) → IsClosed (xs ++ messages_of all x) ys
      → IsClosed (x ∷ xs) (x ∷ ys)
  closed_names_extend_by_name x xs ys closed =
      let has : (z : Text) → (list_any (bytes_eq z) xs || list_any (bytes_eq z) (messages_of all x)) ≡ true
      → IsAmong ys z =
      λ z is. closed.0 z (list_any-append (bytes_eq z) xs (messages_of all x) ∙ is) in (
        λ z among. elim (name_among_is_first_or_among_rest x z xs among) [
          | inl is ↦ subst (IsAmong (x ∷ ys)) (sym is) (first_is_among x ys)
          | inr w ↦
              let first = or_from_left (list_any (bytes_eq z) xs) (list_any (bytes_eq z) (messages_of all x)) w in
              IsAmong-more x z ys (has z first)
        ],
        λ z y among e. elim (name_among_is_first_or_among_rest x z ys among) [
          | inl is ↦
              let first : links_to all x y ≡ true = ap (λ (w : Text). links_to all w y) (sym is) ∙ e in
              IsAmong-more x y ys
              (has y (true_right_makes_or_true (list_any (bytes_eq y) xs) (list_any (bytes_eq y) (messages_of all x))
              (referred_messages_are_link_targets all x y ∙ first)))
          | inr w ↦ IsAmong-more x y ys (closed.1 z y w e)
        ],
      )

  reachable_messages_are_closed : (room : ℕ) (names reachable : List Text) →
      reachable_within (messages_of all) room names ≡ Some reachable
      → IsClosed names reachable
  reachable_messages_are_closed zero [] reachable e = let none : [] ≡ reachable = cc in
      subst (IsClosed []) none empty_names_are_closed
  reachable_messages_are_closed zero (x ∷ xs) reachable e = absurd (cc)
  reachable_messages_are_closed (suc room) [] reachable e =
      let none : [] ≡ reachable = cc in subst (IsClosed []) none empty_names_are_closed
  reachable_messages_are_closed (suc room) (x ∷ xs) reachable e =
      let beyond = put_before_some x (reachable_within (messages_of all) room (xs ++ messages_of all x)) reachable e in
      subst (IsClosed (x ∷ xs)) beyond.2
      (closed_names_extend_by_name x xs beyond.0
      (reachable_messages_are_closed room (xs ++ messages_of all x) beyond.0 beyond.1))

  -- so it has what they reach
  name_reached_from_closed_is_among_them : (names reachable : List Text) → IsClosed names reachable → (x y : Text)
      → IsAmong reachable x → Reaches all x y
      → IsAmong reachable y
  name_reached_from_closed_is_among_them names reachable closed x y among (next x' y' e) = closed.1 x y among e
  name_reached_from_closed_is_among_them names reachable closed x y among (onward x' w y' e rest) =
      name_reached_from_closed_is_among_them names reachable closed w y (closed.1 x w among e) rest

  reached_name_is_among_reachable : (from : Text) (reachable : List Text) → IsClosed (messages_of all from) reachable
      → (y : Text) → Reaches all from y → IsAmong reachable y
  reached_name_is_among_reachable from reachable closed y (next x' y' e) =
      closed.0 y (referred_messages_are_link_targets all from y ∙ e)
  reached_name_is_among_reachable from reachable closed y (onward x' w y' e rest) =
      name_reached_from_closed_is_among_them (messages_of all from) reachable closed w y
      (closed.0 w (referred_messages_are_link_targets all from w ∙ e)) rest

  pub reachable_messages_decide_reach : (from to : Text) (reachable : List Text)
      → reachable_messages all from ≡ Some reachable → IsAmong reachable to ↔ Reaches all from to
  reachable_messages_decide_reach from to reachable e = (
    λ among.
        names_reachable_within_are_reached from followed_limit (messages_of all from) reachable e
        (λ x is. next from x (sym (referred_messages_are_link_targets all from x) ∙ is)) to among,
    λ reached. reached_name_is_among_reachable from reachable
        (reachable_messages_are_closed followed_limit (messages_of all from) reachable e) to reached,
  )
