-- The tail of a pattern's items.
use Rattle.std.proofs.Common.{◌≡◌, ℕ, List, [], ◌∷◌, ◌++◌, map, true, false, refl, sym, ap, ◌∙◌}
use Rattle.std.proofs.lemmas.List.{map-append}
use Rattle.fluent_syntax_tree.specs.Tree.{ExpressionTree}
use Rattle.fluent_syntax_grammar.specs.Elements.{ItemOf, stays, cut_before, cut}
use Rattle.fluent_syntax_parser.specs.Elements.{item_view}
use Rattle.fluent_syntax_parser.specs.declared.pattern.line.Piece.{Piece}

module _ {S X : Type 0} (v : S → X) (t : List ℕ) where
  cut_before_some_item_keeps_item : (y x : ItemOf (ExpressionTree X)) (xs : List (ItemOf (ExpressionTree X))) →
      cut_before t y (xs ++ x ∷ []) ≡ y ∷ (xs ++ x ∷ [])
  cut_before_some_item_keeps_item y x [] = refl
  cut_before_some_item_keeps_item y x (z ∷ xs) = refl

  -- what stays ends the list
  cut_keeps_last_item_that_stays : (xs : List (ItemOf (ExpressionTree X))) (x : ItemOf (ExpressionTree X)) →
      stays t x ≡ true → cut t (xs ++ x ∷ []) ≡ xs ++ x ∷ []
  cut_keeps_last_item_that_stays [] x e = rw e refl
  cut_keeps_last_item_that_stays (y ∷ xs) x e =
      ap (cut_before t y) (cut_keeps_last_item_that_stays xs x e) ∙ cut_before_some_item_keeps_item y x xs

  -- what falls is dropped
  cut_drops_last_item_that_falls : (xs : List (ItemOf (ExpressionTree X))) (x : ItemOf (ExpressionTree X)) →
      stays t x ≡ false → cut t (xs ++ x ∷ []) ≡ cut t xs
  cut_drops_last_item_that_falls [] x e = rw e refl
  cut_drops_last_item_that_falls (y ∷ xs) x e = ap (cut_before t y) (cut_drops_last_item_that_falls xs x e)

  module _ (all items left : List (Piece S)) (x : Piece S) (last : items ≡ left ++ x ∷ []) where
    items_split_before_last : map (item_view v) items ≡ map (item_view v) left ++ (item_view v) x ∷ []
    items_split_before_last = ap (map (item_view v)) last ∙ map-append (item_view v) left (x ∷ [])

    pub popped_item_that_stays_ends_cut : stays t ((item_view v) x) ≡ true → cut t (map (item_view v) items) ≡ cut t
        (map (item_view v) all) →
        cut t (map (item_view v) all) ≡ map (item_view v) left ++ (item_view v) x ∷ []
    popped_item_that_stays_ends_cut e same = sym same ∙ ap (cut t) items_split_before_last
        ∙ cut_keeps_last_item_that_stays (map (item_view v) left) ((item_view v) x) e

    pub popped_item_that_falls_leaves_cut : stays t ((item_view v) x) ≡ false → cut t (map (item_view v) items) ≡ cut t
        (map (item_view v) all) →
        cut t (map (item_view v) left) ≡ cut t (map (item_view v) all)
    popped_item_that_falls_leaves_cut e same = sym (cut_drops_last_item_that_falls (map (item_view v) left)
        ((item_view v) x) e) ∙ ap (cut t) (sym items_split_before_last) ∙ same
