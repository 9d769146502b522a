-- What a table of names holds.
use Rattle.std.proofs.Common.{◌≡◌, ◌∙◌, ℕ, Bool, true, false, List, [], ◌∷◌, ◌++◌, ap, refl, sym}
use Rattle.std.specs.Prelude.{◌||◌}
use Rattle.std.specs.BTreeMap.{is_at}
use Rattle.std.specs.BTreeSet.{insert_key}
use Rattle.std.specs.Cmp.Lexicographic.{slice_cmp}
use Rattle.std.specs.List.{list_any}
use Rattle.std.specs.Ordering.{nat_cmp}
use Rattle.std.specs.Str.{bytes_eq}
use Rattle.std.specs.declared.cmp.Ordering.{Ordering}
use Rattle.std.specs.declared.cmp.Ordering.TheVariants.{Equal, Greater, Less}
use Rattle.std.proofs.lemmas.Map.Text.{is_eq-slice_cmp}
use Rattle.fluent_syntax_grammar.specs.Arguments.{is_used}
use Rattle.fluent_syntax_grammar.specs.NameKeys.{NotesAll, is_key}

or_absorbs_repetition : (b c : Bool) → (b || c) ≡ (b || (b || c))
or_absorbs_repetition true c = refl
or_absorbs_repetition false c = refl

or_swaps_first_two : (a b c : Bool) → (a || (b || c)) ≡ (b || (a || c))
or_swaps_first_two true true c = refl
or_swaps_first_two true false c = refl
or_swaps_first_two false true c = refl
or_swaps_first_two false false c = refl

-- one more name after others
is_used-append : (name n : List ℕ) (names : List (List ℕ)) →
    is_used name (names ++ n ∷ []) ≡ (bytes_eq name n || is_used name names)
is_used-append name n [] = refl
is_used-append name n (x ∷ xs) =
    ap (λ b. bytes_eq name x || b) (is_used-append name n xs)
    ∙ or_swaps_first_two (bytes_eq name x) (bytes_eq name n) (is_used name xs)

module _ {K : Type 0} (text : K → List ℕ) where
  -- the table has the name where a key is the name
  pub some_key_equals_name_if_is_key : (name : List ℕ) (keys : List K) →
      list_any (is_at (λ k. slice_cmp nat_cmp name (text k))) keys ≡ is_key text keys name
  some_key_equals_name_if_is_key name [] = refl
  some_key_equals_name_if_is_key name (k ∷ keys) =
      rw (is_eq-slice_cmp name (text k), some_key_equals_name_if_is_key name keys) refl

  module _ (cmp : K → K → Ordering) (same : (x y : K) → cmp x y ≡ Equal → text x ≡ text y) (name : List ℕ) (k : K) where
    by_order : (x : K) (keys : List K) (o : Ordering) → cmp k x ≡ o →
        is_key text (insert_key cmp keys k) name ≡ (bytes_eq name (text k) || is_key text keys name) →
        is_key text (insert_key cmp (x ∷ keys) k) name
        ≡ (bytes_eq name (text k) || (bytes_eq name (text x) || is_key text keys name))
    by_order x keys Less e more = rw e refl
    by_order x keys Equal e more =
        rw (e, same k x e) (or_absorbs_repetition (bytes_eq name (text x)) (is_key text keys name))
    by_order x keys Greater e more =
        rw (e, more) (or_swaps_first_two (bytes_eq name (text x)) (bytes_eq name (text k)) (is_key text keys name))

    inserted_key_is_key : (keys : List K) →
        is_key text (insert_key cmp keys k) name ≡ (bytes_eq name (text k) || is_key text keys name)
    inserted_key_is_key [] = refl
    inserted_key_is_key (x ∷ keys) = by_order x keys (cmp k x) refl (inserted_key_is_key keys)

  -- one name more
  pub inserted_key_notes_its_name : (cmp : K → K → Ordering) → ((x y : K) → cmp x y ≡ Equal → text x ≡ text y) →
      (keys : List K) (names : List (List ℕ)) (k : K) → NotesAll text keys names →
      NotesAll text (insert_key cmp keys k) (names ++ text k ∷ [])
  inserted_key_notes_its_name cmp same keys names k all = λ name.
      inserted_key_is_key cmp same name k keys ∙ ap (λ b. bytes_eq name (text k) || b) (all name)
      ∙ sym (is_used-append name (text k) names)
