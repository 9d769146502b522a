-- The elements that are made of a layout.
use Rattle.std.proofs.Common.{◌≡◌, ℕ, List, [], ◌∷◌, ◌++◌, append_assoc, map, Some, None, option_map, refl}
use Rattle.std.proofs.Common.{sym, ap, ◌∙◌}
use Rattle.std.specs.List.{flat_map}
use Rattle.std.proofs.lemmas.List.{append-nil}
use Rattle.fluent_syntax_tree.specs.Tree.{ElementTree, ExpressionTree, expression_map, text_element, placeable}
use Rattle.fluent_syntax_tree.specs.Tree.{elements_of, elements, element_map, pattern_map}
use Rattle.fluent_syntax_tree.specs.View.{element_view, pattern_view}
use Rattle.fluent_syntax_tree.proofs.Views.{view-Pattern}
use Rattle.fluent_syntax_tree.specs.declared.ast.Pattern.{Pattern}
use Rattle.fluent_syntax_tree.specs.declared.ast.PatternElement.{PatternElement}
use Rattle.fluent_syntax_tree.specs.declared.edition.Edition.{Edition}
use Rattle.fluent_syntax_tree.specs.declared.spans.Span.{Span}
use Rattle.fluent_syntax_grammar.specs.Elements as grammar
use Rattle.fluent_syntax_grammar.specs.Elements.{if_any, Item, ItemOf, items, text, placeable_item}
use Rattle.fluent_syntax_grammar.specs.Elements.{cut, line_items, opening_items}
use Rattle.fluent_syntax_grammar.specs.Layout.{Layout, LineOf, PieceOf}
use Rattle.fluent_syntax_parser.specs.Elements.{dedented_items, element_of, last_of, spelled}
use Rattle.fluent_syntax_parser.specs.Layouts.{item_of, line_of}
use Rattle.fluent_syntax_parser.specs.Opened.{Settled, as_item}
use Rattle.fluent_syntax_parser.proofs.patterns.Layouts.{mapping_keeps_common_indent, cut_of_mapped_items_is_mapped}
use Rattle.fluent_syntax_parser.proofs.patterns.Layouts.{items_of_mapped_layout_are_mapped}
use Rattle.fluent_syntax_parser.proofs.patterns.Settled.{settled_pieces_are_spelled_as_elements}

if_any-nonempty : {S X : Type 0} (v : S → X) (xs : List (PatternElement S)) → (xs ≡ [] → ⊥) →
    Some (elements_of (map (element_view v) xs)) ≡ if_any (map (element_view v) xs)
if_any-nonempty v [] some = absurd (some refl)
if_any-nonempty v (x ∷ xs) some = refl

module _ {X : Type 0} (f : Span → X) where
  mapped_elements_make_mapped_pattern : (es : List (ElementTree Span)) →
      pattern_map f (elements_of es) ≡ elements_of (map (element_map f) es)
  mapped_elements_make_mapped_pattern [] = refl
  mapped_elements_make_mapped_pattern (e ∷ es) =
      ap (elements (element_map f e)) (mapped_elements_make_mapped_pattern es)

  pattern_if_any_is_mapped : (es : List (ElementTree Span)) →
      option_map (pattern_map f) (if_any es) ≡ if_any (map (element_map f) es)
  pattern_if_any_is_mapped [] = refl
  pattern_if_any_is_mapped (e ∷ es) = ap Some (mapped_elements_make_mapped_pattern (e ∷ es))

  -- the pattern that elements are, if there are some
  module _ {S : Type 0} (v : S → X) (es : List (ElementTree Span)) where
    pub no_elements_spell_no_pattern : (xs : List (PatternElement S)) →
        map (element_view v) xs ≡ map (element_map f) es → xs ≡ [] → None ≡ option_map (pattern_map f) (if_any es)
    no_elements_spell_no_pattern xs made none =
        sym (pattern_if_any_is_mapped es ∙ ap if_any (sym made) ∙ ap (λ ys. if_any (map (element_view v) ys)) none)

    pub some_elements_spell_pattern : (p : Pattern S) → map (element_view v) p.elements.items ≡ map (element_map f) es →
        (p.elements.items ≡ [] → ⊥) → Some (pattern_view v p) ≡ option_map (pattern_map f) (if_any es)
    some_elements_spell_pattern p made some =
        ap Some (view-Pattern v p) ∙ if_any-nonempty v p.elements.items some ∙ ap if_any made
        ∙ sym (pattern_if_any_is_mapped es)

module _ {X : Type 0} (f : Span → X) (t : List ℕ) where
  spelled_items_map_to_elements : (xs : List Item) →
      map (element_map f) (grammar.spelled t xs) ≡ spelled f t (map (item_of f) xs)
  spelled_items_map_to_elements [] = refl
  spelled_items_map_to_elements (text from to ∷ []) = refl
  spelled_items_map_to_elements (text from to ∷ text a b ∷ xs) =
      ap (λ zs. text_element (f (record { start = from; end = to })) ∷ zs)
      (spelled_items_map_to_elements (text a b ∷ xs))
  spelled_items_map_to_elements (text from to ∷ placeable_item e ∷ xs) =
      ap (λ zs. text_element (f (record { start = from; end = to })) ∷ zs)
      (spelled_items_map_to_elements (placeable_item e ∷ xs))
  spelled_items_map_to_elements (placeable_item e ∷ xs) =
      ap (λ zs. element_map f (placeable e) ∷ zs) (spelled_items_map_to_elements xs)

  spelled_items_end_with_last_spelled : (xs : List (ItemOf (ExpressionTree X))) (x : ItemOf (ExpressionTree X)) →
      spelled f t (xs ++ x ∷ []) ≡ map (element_of f) xs ++ last_of f t x ∷ []
  spelled_items_end_with_last_spelled [] (text from to) = refl
  spelled_items_end_with_last_spelled [] (placeable_item e) = refl
  spelled_items_end_with_last_spelled (text from to ∷ []) x =
      ap (λ zs. text_element (f (record { start = from; end = to })) ∷ zs) (spelled_items_end_with_last_spelled [] x)
  spelled_items_end_with_last_spelled (text from to ∷ y ∷ ys) x =
      ap (λ zs. text_element (f (record { start = from; end = to })) ∷ zs)
      (spelled_items_end_with_last_spelled (y ∷ ys) x)
  spelled_items_end_with_last_spelled (placeable_item e ∷ xs) x =
      ap (λ zs. placeable e ∷ zs) (spelled_items_end_with_last_spelled xs x)

  -- what is added for items that were cut
  module _ (zs : List (ItemOf (ExpressionTree X))) (es : List (ElementTree X)) where
    pub cut_without_items_adds_no_elements : cut t zs ≡ [] → es ≡ es ++ spelled f t (cut t zs)
    cut_without_items_adds_no_elements none = sym (ap (λ xs. es ++ spelled f t xs) none ∙ append-nil es)

    pub cut_with_items_adds_their_elements : (xs : List (ItemOf (ExpressionTree X))) (x : ItemOf (ExpressionTree X)) →
        cut t zs ≡ xs ++ x ∷ [] →
        (es ++ map (element_of f) xs) ++ last_of f t x ∷ [] ≡ es ++ spelled f t (cut t zs)
    cut_with_items_adds_their_elements xs x cuts =
        append_assoc es (map (element_of f) xs) (last_of f t x ∷ [])
        ∙ ap (λ ys. es ++ ys) (sym (spelled_items_end_with_last_spelled xs x) ∙ ap (spelled f t) (sym cuts))

  -- the elements of a layout: those of its opening line up to the last placeable there, and those of the rest
  pub layout_is_spelled_by_settled_pieces : (edition : Edition) (y : Layout) {ps : List (PieceOf (ExpressionTree X))} →
      Settled ps →
      (rest : List (ItemOf (ExpressionTree X))) →
      opening_items (option_map (line_of f) y.opening) ≡ map as_item ps ++ rest →
      (seen : List (LineOf (ExpressionTree X))) → seen ≡ map (line_of f) y.lines →
      map (element_of f) (map as_item ps) ++ spelled f t (cut t (rest ++ dedented_items edition seen))
      ≡ map (element_map f) (grammar.spelled t (cut t (items edition y)))
  layout_is_spelled_by_settled_pieces edition y {ps = ps} settled rest opening seen lines =
      let beyond = dedented_items edition seen in
      let first = opening_items (option_map (line_of f) y.opening) in
      sym (settled_pieces_are_spelled_as_elements f t settled (rest ++ beyond))
      ∙ ap (λ xs. spelled f t (cut t xs))
      (sym (append_assoc (map as_item ps) rest beyond)
      ∙ ap (λ xs. xs ++ beyond) (sym opening)
      ∙ ap (λ ls. first ++ dedented_items edition ls) lines
      ∙ ap (λ common. first ++ flat_map (line_items edition common) (map (line_of f) y.lines))
      (mapping_keeps_common_indent (expression_map f) edition y)
      ∙ items_of_mapped_layout_are_mapped (expression_map f) edition y)
      ∙ ap (spelled f t) (cut_of_mapped_items_is_mapped (expression_map f) t (items edition y))
      ∙ sym (spelled_items_map_to_elements (cut t (items edition y)))
