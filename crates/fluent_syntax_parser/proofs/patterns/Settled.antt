-- Pieces with a placeable after each run: what they spell doesn't depend on what follows.
use Rattle.std.proofs.Common.{◌≡◌, ℕ, List, [], ◌∷◌, ◌++◌, map, refl, sym, ap, ◌∙◌}
use Rattle.fluent_syntax_tree.specs.Tree.{ExpressionTree, placeable, text_element}
use Rattle.fluent_syntax_tree.specs.declared.spans.Span.{Span}
use Rattle.fluent_syntax_grammar.specs.Elements.{ItemOf, cut, cut_before, placeable_item, text, with_ending}
use Rattle.fluent_syntax_grammar.specs.Layout.{Ending, PieceOf, placed, run}
use Rattle.fluent_syntax_parser.specs.Elements.{element_of, spelled}
use Rattle.fluent_syntax_parser.specs.Layouts.{piece_map}
use Rattle.fluent_syntax_parser.specs.Opened.{Settled, as_item, none, by_placeable, by_run}

module _ {E : Type 0} where
  -- one more placeable, and one after a run
  pub pieces_with_placeable_last_are_settled : {ps : List (PieceOf E)} (e : E) → Settled ps →
      Settled (ps ++ placed e ∷ [])
  pieces_with_placeable_last_are_settled e none = by_placeable none
  pieces_with_placeable_last_are_settled e (by_placeable s) = by_placeable (pieces_with_placeable_last_are_settled e s)
  pieces_with_placeable_last_are_settled e (by_run s) = by_run (pieces_with_placeable_last_are_settled e s)

  pub run_and_placed_settled : {ps : List (PieceOf E)} (from to : ℕ) (e : E) → Settled ps →
      Settled (ps ++ run from to ∷ placed e ∷ [])
  run_and_placed_settled from to e none = by_run (by_placeable none)
  run_and_placed_settled from to e (by_placeable s) = by_placeable (run_and_placed_settled from to e s)
  run_and_placed_settled from to e (by_run s) = by_run (run_and_placed_settled from to e s)

  -- they are items, before those of what follows them
  pub settled_pieces_go_before_ending : {ps : List (PieceOf E)} → Settled ps → (qs : List (PieceOf E)) (end : Ending) →
      with_ending (ps ++ qs) end ≡ map as_item ps ++ with_ending qs end
  settled_pieces_go_before_ending none qs end = refl
  settled_pieces_go_before_ending (by_placeable {e = e} s) qs end =
      ap (λ xs. placeable_item e ∷ xs) (settled_pieces_go_before_ending s qs end)
  settled_pieces_go_before_ending (by_run {from = from} {to = to} s) qs end =
      ap (λ xs. text from to ∷ xs) (settled_pieces_go_before_ending s qs end)

  cut_keeps_placeable_item : (t : List ℕ) (e : E) (xs : List (ItemOf E)) →
      cut_before t (placeable_item e) xs ≡ placeable_item e ∷ xs
  cut_keeps_placeable_item t e [] = refl
  cut_keeps_placeable_item t e (x ∷ xs) = refl

pub Settled-map : {E F : Type 0} (h : E → F) {ps : List (PieceOf E)} → Settled ps → Settled (map (piece_map h) ps)
Settled-map h none = none
Settled-map h (by_placeable s) = by_placeable (Settled-map h s)
Settled-map h (by_run s) = by_run (Settled-map h s)

-- they are elements, before those of what follows them
module _ {X : Type 0} (f : Span → X) (t : List ℕ) where
  pub settled_pieces_are_spelled_as_elements : {ps : List (PieceOf (ExpressionTree X))} → Settled ps →
      (ys : List (ItemOf (ExpressionTree X))) →
      spelled f t (cut t (map as_item ps ++ ys)) ≡ map (element_of f) (map as_item ps) ++ spelled f t (cut t ys)
  settled_pieces_are_spelled_as_elements none ys = refl
  settled_pieces_are_spelled_as_elements (by_placeable {e = e} {ps = ps} s) ys =
      ap (spelled f t) (cut_keeps_placeable_item t e (cut t (map as_item ps ++ ys)))
      ∙ ap (λ xs. placeable e ∷ xs) (settled_pieces_are_spelled_as_elements s ys)
  settled_pieces_are_spelled_as_elements (by_run {from = from} {to = to} {e = e} {ps = ps} s) ys =
      let beyond = cut t (map as_item ps ++ ys) in
      ap (λ xs. spelled f t (cut_before t (text from to) xs)) (cut_keeps_placeable_item t e beyond)
      ∙ ap (λ xs. text_element (f (record { start = from; end = to })) ∷ xs)
      (ap (spelled f t) (sym (cut_keeps_placeable_item t e beyond)) ∙ settled_pieces_are_spelled_as_elements s ys)
