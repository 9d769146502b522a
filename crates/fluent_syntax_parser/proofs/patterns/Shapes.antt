-- What a reader has made of a line, as its expressions are seen.
use Rattle.std.proofs.Common.{◌≡◌, ℕ, List, [], ◌∷◌, ◌++◌, map, Option, refl, ap, ◌∙◌}
use Rattle.std.specs.List.{flat_map}
use Rattle.std.proofs.lemmas.List.{map-append}
use Rattle.fluent_syntax_tree.specs.declared.edition.Edition.{Edition}
use Rattle.fluent_syntax_parser.specs.Boxed.{boxed_expression_view}
use Rattle.fluent_syntax_parser.specs.Elements.{dedented_items, item_shape, item_view, rest_items}
use Rattle.fluent_syntax_grammar.specs.Elements.{line_items}
use Rattle.fluent_syntax_grammar.specs.Layout.{counted, least}
use Rattle.fluent_syntax_parser.specs.Layouts.{piece_map, line_map, item_map}
use Rattle.fluent_syntax_parser.specs.Lines.{ending_view, line_shape, line_view, piece_shape, piece_view}
use Rattle.fluent_syntax_parser.proofs.patterns.Layouts.{items_of_mapped_lines_are_mapped}
use Rattle.fluent_syntax_parser.proofs.patterns.Rest.{run_with_ending_maps_to_itself}
use Rattle.fluent_syntax_parser.specs.declared.pattern.line.Line as rows
use Rattle.fluent_syntax_parser.specs.declared.pattern.line.OpeningEnd.{OpeningEnd}
use Rattle.fluent_syntax_parser.specs.declared.pattern.line.Piece as parts
use Rattle.fluent_syntax_parser.specs.declared.pattern.line.Piece.TheVariants as part

-- ---- what a reader has made, as its expressions are seen

module _ {S X : Type 0} (v : S → X) where
  view_of_item_maps_its_shape : (x : parts.Piece S) → item_view v x ≡ item_map (boxed_expression_view v) (item_shape x)
  view_of_item_maps_its_shape (part.Run from to) = refl
  view_of_item_maps_its_shape (part.Placed e) = refl

  views_of_items_map_their_shapes : (xs : List (parts.Piece S)) →
      map (item_view v) xs ≡ map (item_map (boxed_expression_view v)) (map item_shape xs)
  views_of_items_map_their_shapes [] = refl
  views_of_items_map_their_shapes (x ∷ xs) = rw (view_of_item_maps_its_shape x, views_of_items_map_their_shapes xs) refl

  view_of_piece_maps_its_shape : (p : parts.Piece S) →
      piece_view v p ≡ piece_map (boxed_expression_view v) (piece_shape p)
  view_of_piece_maps_its_shape (part.Run from to) = refl
  view_of_piece_maps_its_shape (part.Placed e) = refl

  views_of_pieces_map_their_shapes : (ps : List (parts.Piece S)) →
      map (piece_view v) ps ≡ map (piece_map (boxed_expression_view v)) (map piece_shape ps)
  views_of_pieces_map_their_shapes [] = refl
  views_of_pieces_map_their_shapes (p ∷ ps) =
      rw (view_of_piece_maps_its_shape p, views_of_pieces_map_their_shapes ps) refl

  view_of_line_maps_its_shape : (l : rows.Line S) → line_view v l ≡ line_map (boxed_expression_view v) (line_shape l)
  view_of_line_maps_its_shape l = rw (views_of_pieces_map_their_shapes l.pieces.items) refl

  views_of_lines_map_their_shapes : (ls : List (rows.Line S)) →
      map (line_view v) ls ≡ map (line_map (boxed_expression_view v)) (map line_shape ls)
  views_of_lines_map_their_shapes [] = refl
  views_of_lines_map_their_shapes (l ∷ ls) = rw (view_of_line_maps_its_shape l, views_of_lines_map_their_shapes ls) refl

  -- the items of what is left of the line on which a pattern opens
  pub views_of_rest_are_rest_items : (rest : OpeningEnd) (all : List (parts.Piece S)) →
      map item_shape all ≡ rest_items rest → map (item_view v) all ≡ rest_items rest
  views_of_rest_are_rest_items rest all same =
      views_of_items_map_their_shapes all ∙ ap (map (item_map (boxed_expression_view v))) same
      ∙ run_with_ending_maps_to_itself (boxed_expression_view v) rest.run (ending_view rest.ending)

  -- the items of the other lines after these
  pub views_of_items_are_items_of_lines : (edition : Edition) (common : Option ℕ) (opening all : List (parts.Piece S))
      (lines : List (rows.Line S)) →
      map item_shape all ≡ map item_shape opening ++ flat_map (line_items edition common) (map line_shape lines) →
      map (item_view v) all
      ≡ map (item_view v) opening ++ flat_map (line_items edition common) (map (line_view v) lines)
  views_of_items_are_items_of_lines edition common opening all lines same =
      let h = boxed_expression_view v in
      views_of_items_map_their_shapes all
      ∙ ap (map (item_map h)) same
      ∙ map-append (item_map h) (map item_shape opening) (flat_map (line_items edition common) (map line_shape lines))
      ∙ rw (
        views_of_items_map_their_shapes opening,
        views_of_lines_map_their_shapes lines,
        items_of_mapped_lines_are_mapped h edition common (map line_shape lines),
      ) refl

  -- the items of both, where the indent is that which the other lines have in common
  pub views_of_tail_are_rest_and_lines : (edition : Edition) (rest : OpeningEnd) (lines : List (rows.Line S))
      (opening all : List (parts.Piece S)) {slice : List (rows.Line S)} {common : Option ℕ} →
      slice ≡ lines → common ≡ least (flat_map (counted edition) (map (line_view v) slice)) →
      map item_shape opening ≡ rest_items rest →
      map item_shape all ≡ map item_shape opening ++ flat_map (line_items edition common) (map line_shape lines) →
      map (item_view v) all ≡ rest_items rest ++ dedented_items edition (map (line_view v) lines)
  views_of_tail_are_rest_and_lines edition rest lines opening all {common = common} same indent opened added =
      let seen = map (line_view v) lines in
      views_of_items_are_items_of_lines edition common opening all lines added
      ∙ ap (λ xs. xs ++ flat_map (line_items edition common) seen) (views_of_rest_are_rest_items rest opening opened)
      ∙ ap (λ common. rest_items rest ++ flat_map (line_items edition common) seen)
      (indent ∙ ap (λ ls. least (flat_map (counted edition) (map (line_view v) ls))) same)
