-- Lists that grow by one node after another.
use Rattle.std.proofs.Common.{◌≡◌, ℕ, ◌+◌, ◌<◌, ◌≤◌, List, [], ◌∷◌, ◌++◌, length, get_or, drop, sym, ap, ◌∙◌}
use Rattle.std.proofs.Common.{Result, Ok, Err}
use Rattle.std.specs.Prelude.{OnOk, if◌then◌else◌, is_ok}
use Rattle.std.proofs.lemmas.List.{append_assoc, drop_more, drop_all}
use Rattle.fluent_syntax_names.specs.Growing.{Adds, Leaves}

-- the node that a loop takes next, and those after it
pub drop_one_node : {A : Type 0} (nodes : List A) (i : ℕ) (x d : A) → i < length nodes → x ≡ get_or nodes i d
    → drop i nodes ≡ x ∷ drop (i + 1) nodes
drop_one_node nodes i x d within is = drop_more nodes i d within ∙ ap (λ y. y ∷ drop (i + 1) nodes) (sym is)

module _ {X : Type 0} where
  pub pushed_item_is_added : (old new : List X) (x : X) → new ≡ old ++ x ∷ [] → Adds old new (λ tail. x ∷ tail)
  pushed_item_is_added old new x e = λ rest. ap (λ l. l ++ rest) e ∙ append_assoc old (x ∷ []) rest

  -- a list that was appended where there was memory for it
  pub appended_list_is_added : {A E : Type 0} (r : Result A E) (old new found more : List X)
      → new ≡ (if is_ok r then old ++ found else old) → found ≡ more → OnOk r (Adds old new (λ tail. more ++ tail))
  appended_list_is_added (Ok x) old new found more is same =
      λ rest. ap (λ l. l ++ rest) (is ∙ ap (λ l. old ++ l) same) ∙ append_assoc old more rest
  appended_list_is_added (Err e) old new found more is same = tt

  pub adding_twice_adds_both : (a b c : List X) (f g : List X → List X) → Adds a b f → Adds b c g
      → Adds a c (λ tail. f (g tail))
  adding_twice_adds_both a b c f g first second = λ rest. second rest ∙ first (g rest)

  -- the second where it was made
  pub adding_on_ok_adds_both : {A E : Type 0} (r : Result A E) (a b c : List X) (f g : List X → List X) → Adds a b f
      → OnOk r (Adds b c g) → OnOk r (Adds a c (λ tail. f (g tail)))
  adding_on_ok_adds_both (Ok x) a b c f g first second = adding_twice_adds_both a b c f g first second
  adding_on_ok_adds_both (Err e) a b c f g first second = second

  -- what was left, without what it put first, which was added
  pub rest_is_left_after_one : (old now next : List X) (left one rest all : List X → List X)
      → ((tail : List X) → left tail ≡ one (rest tail)) → Leaves old now left all → Adds now next one
      → Leaves old next rest all
  rest_is_left_after_one old now next left one rest all same leaves adds = λ tail.
      adds (rest tail) ∙ ap (λ l. now ++ l) (sym (same tail)) ∙ leaves tail

  -- nothing is left
  pub nothing_left_means_all_added : (old now : List X) (left all : List X → List X)
      → ((tail : List X) → left tail ≡ tail) → Leaves old now left all → Adds old now all
  nothing_left_means_all_added old now left all none leaves = λ tail. ap (λ l. now ++ l) (sym (none tail)) ∙ leaves tail

  -- ---- Loops over nodes

  module _ {A : Type 0} (all : List A → List X → List X) (one : A → List X → List X) (old now : List X)
      (nodes : List A) (i : ℕ) where
    pub items_are_left_after_next : ((x : A) (xs : List A) (tail : List X) → all (x ∷ xs) tail ≡ one x (all xs tail))
        → (next : List X) (x d : A) → i < length nodes → x ≡ get_or nodes i d
        → Leaves old now (all (drop i nodes)) (all nodes) → Adds now next (one x)
        → Leaves old next (all (drop (i + 1) nodes)) (all nodes)
    items_are_left_after_next each next x d within is =
        rest_is_left_after_one old now next (all (drop i nodes)) (one x) (all (drop (i + 1) nodes)) (all nodes)
        (λ tail. ap (λ ns. all ns tail) (drop_one_node nodes i x d within is) ∙ each x (drop (i + 1) nodes) tail)

    pub leaves_next : ((x : A) (xs : List A) (tail : List X) → all (x ∷ xs) tail ≡ one x (all xs tail))
        → (next : List X) (x : A) → i < length nodes → x ≡ get_or nodes i x
        → Leaves old now (all (drop i nodes)) (all nodes) → Adds now next (one x)
        → Leaves old next (all (drop (i + 1) nodes)) (all nodes)
    leaves_next each next x = items_are_left_after_next each next x x

    pub leaves_none : ((tail : List X) → all [] tail ≡ tail) → length nodes ≤ i
        → Leaves old now (all (drop i nodes)) (all nodes) → Adds old now (all nodes)
    leaves_none none end =
        nothing_left_means_all_added old now (all (drop i nodes)) (all nodes)
        (λ tail. ap (λ ns. all ns tail) (drop_all i nodes end) ∙ none tail)
