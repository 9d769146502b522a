-- Lists that a loop gathers: what the construct gives from here on, it gives from the start on, after what was
-- gathered.
use Rattle.std.proofs.Common.{◌≡◌, ℕ, List, [], ◌∷◌, ◌++◌, append_assoc, map, refl, sym, ap, ◌∙◌, append-nil}
use Rattle.std.proofs.lemmas.List.{map-append}
use Rattle.fluent_syntax_grammar.specs.Construct.{Construct, Read}
use Rattle.fluent_syntax_parser.specs.Made.{IsMade, made}

-- What was gathered represents what was read, with f of each text in its place.
pub record MadeList {A B X : Type 0} (c : Construct (List A)) (f : A → B) (v : X → B) (i : ℕ) (xs : List X) (j : ℕ) :
    Type 0 where
  pub items : List A
  pub same : map v xs ≡ map f items
  pub read : (more : List A) (end : ℕ) → c j (Read more end) → c i (Read (items ++ more) end)

module _ {A B X : Type 0} (c : Construct (List A)) (f : A → B) (v : X → B) (i : ℕ) where
  pub no_list_is_made_at_start : MadeList c f v i [] i
  no_list_is_made_at_start = record { items = []; same = refl; read = λ more end h. h }

  -- one more
  pub list_with_one_more_is_made : (xs ys : List X) (x : X) (j m : ℕ) → ys ≡ xs ++ x ∷ [] → MadeList c f v i xs j →
      (a : A) → v x ≡ f a → ((more : List A) (end : ℕ) → c m (Read more end) → c j (Read (a ∷ more) end)) →
      MadeList c f v i ys m
  list_with_one_more_is_made xs ys x j m all g a same read = record {
    items = g.items ++ a ∷ [];
    same =
        ap (map v) all ∙ map-append v xs (x ∷ []) ∙ ap (λ zs. zs ++ v x ∷ []) g.same
        ∙ ap (λ z. map f g.items ++ z ∷ []) same ∙ sym (map-append f g.items (a ∷ []));
    read = λ more end h. rw (append_assoc g.items (a ∷ []) more) (g.read (a ∷ more) end (read more end h));
  }

  -- the list ends
  pub list_made_to_end_is_whole : (xs : List X) (j end : ℕ) → MadeList c f v i xs j → c j (Read [] end) →
      IsMade (map f) c i (map v xs) end
  list_made_to_end_is_whole xs j end g h = made (rw (← append-nil g.items) (g.read [] end h)) g.same
