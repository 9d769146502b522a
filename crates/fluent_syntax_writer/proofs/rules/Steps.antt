-- Loops over a list, by what a function gives of what is left.
use Rattle.std.proofs.Common.{◌≡◌, ℕ, ◌+◌, ◌<◌, List, ◌∷◌, length, get_or, drop, Bool, true, false, ◌&&◌, sym, ap, ◌∙◌}
use Rattle.std.proofs.lemmas.List.{at_drop_more}
use Rattle.fluent_syntax_writer.proofs.rules.Sets.{and_is_associative}

pub drop_is_cons : {X Y : Type 0} (F : List X → Y) (xs : List X) (i : ℕ) (x : X) → i < length xs → x ≡ get_or xs i x
    → F (drop i xs) ≡ F (x ∷ drop (i + 1) xs)
drop_is_cons F xs i x within is = at_drop_more F xs i x within ∙ ap (λ y. F (y ∷ drop (i + 1) xs)) (sym is)

-- A test of a list, in a state, that is a test of its first item and one of the others in the next state.
module _ {S X : Type 0} (all : S → List X → Bool) (one : S → X → List X → Bool) (next : S → X → S)
    (step : (s : S) (x : X) (xs : List X) → all s (x ∷ xs) ≡ (one s x xs && all (next s x) xs)) where
  pub rest_decides_after_item_that_passes : (s : S) (xs : List X) (i : ℕ) (x : X) (whole : Bool) → i < length xs →
      x ≡ get_or xs i x
      → one s x (drop (i + 1) xs) ≡ true → all s (drop i xs) ≡ whole → all (next s x) (drop (i + 1) xs) ≡ whole
  rest_decides_after_item_that_passes s xs i x whole within is passes rest =
      let others = drop (i + 1) xs in
      let same : all s (drop i xs) ≡ all (next s x) others =
      drop_is_cons (all s) xs i x within is ∙ step s x others ∙ ap (λ b. b && all (next s x) others) passes in
      sym same ∙ rest

  pub item_that_breaks_decides_rest : (s : S) (xs : List X) (i : ℕ) (x : X) (whole : Bool) → i < length xs →
      x ≡ get_or xs i x
      → one s x (drop (i + 1) xs) ≡ false → all s (drop i xs) ≡ whole → false ≡ whole
  item_that_breaks_decides_rest s xs i x whole within is fails rest =
      let others = drop (i + 1) xs in
      let same : all s (drop i xs) ≡ false =
      drop_is_cons (all s) xs i x within is ∙ step s x others ∙ ap (λ b. b && all (next s x) others) fails in
      sym same ∙ rest

  -- What is kept so far and by what is left is kept by all, with an item more.
  pub item_joins_what_came_before : (s : S) (xs : List X) (i : ℕ) (x : X) (before after whole : Bool) → i < length xs
      → x ≡ get_or xs i x → after ≡ (before && one s x (drop (i + 1) xs)) → (before && all s (drop i xs)) ≡ whole
      → (after && all (next s x) (drop (i + 1) xs)) ≡ whole
  item_joins_what_came_before s xs i x before after whole within is joined rest =
      let others = drop (i + 1) xs in
      let same : all s (drop i xs) ≡ (one s x others && all (next s x) others) =
      drop_is_cons (all s) xs i x within is ∙ step s x others in
      ap (λ b. b && all (next s x) others) joined ∙ and_is_associative before (one s x others) (all (next s x) others)
      ∙ ap (λ b. before && b) (sym same) ∙ rest
