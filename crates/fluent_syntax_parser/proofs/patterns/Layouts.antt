-- What a layout spells with h of what represents each placeable, it spells before, with h of that.
use Rattle.std.proofs.Common.{◌≡◌, ℕ, ◌+◌, List, [], ◌∷◌, ◌++◌, map, Option, Some, None, option_map, Bool, true, false}
use Rattle.std.proofs.Common.{refl, sym, ap, ◌∙◌}
use Rattle.std.specs.Prelude.{nat_lt, if◌then◌else◌}
use Rattle.std.specs.List.{flat_map}
use Rattle.std.proofs.lemmas.List.{map-append}
use Rattle.fluent_syntax_tree.specs.declared.edition.Edition.{Edition}
use Rattle.fluent_syntax_tree.specs.declared.edition.Edition.TheVariants.{One, Two}
use Rattle.fluent_syntax_grammar.specs.Elements.{ItemOf, text, placeable_item, with_ending, common_indent_end, indented}
use Rattle.fluent_syntax_grammar.specs.Elements.{items_from, line_items, opening_items, items, stays, cut_before, cut}
use Rattle.fluent_syntax_grammar.specs.Layout.{PieceOf, run, placed, Ending, lf_at, crlf_at, text_end, LineOf, LayoutOf}
use Rattle.fluent_syntax_grammar.specs.Layout.{counted_spaces, counted, least, common_indent}
use Rattle.fluent_syntax_parser.specs.Layouts.{piece_map, line_map, item_map}

module _ {E F : Type 0} (h : E → F) where
  mapping_keeps_counted_spaces : (edition : Edition) (spaces : ℕ) (ps : List (PieceOf E)) →
      counted_spaces edition spaces (map (piece_map h) ps) ≡ counted_spaces edition spaces ps
  mapping_keeps_counted_spaces edition spaces [] = refl
  mapping_keeps_counted_spaces edition spaces (run from to ∷ ps) = refl
  mapping_keeps_counted_spaces One spaces (placed e ∷ ps) = refl
  mapping_keeps_counted_spaces Two spaces (placed e ∷ ps) = refl

  mapping_keeps_counted_lines : (edition : Edition) (ls : List (LineOf E)) →
      flat_map (counted edition) (map (line_map h) ls) ≡ flat_map (counted edition) ls
  mapping_keeps_counted_lines edition [] = refl
  mapping_keeps_counted_lines edition (l ∷ ls) =
      rw (mapping_keeps_counted_spaces edition l.spaces l.pieces, mapping_keeps_counted_lines edition ls) refl

  pub mapping_keeps_common_indent : (edition : Edition) (y : LayoutOf E) →
      least (flat_map (counted edition) (map (line_map h) y.lines)) ≡ common_indent edition y
  mapping_keeps_common_indent edition y = ap least (mapping_keeps_counted_lines edition y.lines)

  pub mapped_pieces_keep_their_ending : (ps : List (PieceOf E)) (end : Ending) →
      with_ending (map (piece_map h) ps) end ≡ map (item_map h) (with_ending ps end)
  mapped_pieces_keep_their_ending [] (lf_at p) = refl
  mapped_pieces_keep_their_ending [] (crlf_at p) = refl
  mapped_pieces_keep_their_ending [] text_end = refl
  mapped_pieces_keep_their_ending (run from to ∷ []) (lf_at p) = refl
  mapped_pieces_keep_their_ending (run from to ∷ []) (crlf_at p) = refl
  mapped_pieces_keep_their_ending (run from to ∷ []) text_end = refl
  mapped_pieces_keep_their_ending (run from to ∷ run a b ∷ ps) end =
      ap (λ xs. text from to ∷ xs) (mapped_pieces_keep_their_ending (run a b ∷ ps) end)
  mapped_pieces_keep_their_ending (run from to ∷ placed e ∷ ps) end =
      ap (λ xs. text from to ∷ xs) (mapped_pieces_keep_their_ending (placed e ∷ ps) end)
  mapped_pieces_keep_their_ending (placed e ∷ ps) end =
      ap (λ xs. placeable_item (h e) ∷ xs) (mapped_pieces_keep_their_ending ps end)

  mapping_keeps_common_indent_end : (common : Option ℕ) (l : LineOf E)
      → common_indent_end common (line_map h l) ≡ common_indent_end common l
  mapping_keeps_common_indent_end None l = refl
  mapping_keeps_common_indent_end (Some common) l = refl

  optional_text_item_maps_to_itself : (b : Bool) (kept first : ℕ) →
      (if b then text kept first ∷ [] else []) ≡ map (item_map h) (if b then text kept first ∷ [] else [])
  optional_text_item_maps_to_itself true kept first = refl
  optional_text_item_maps_to_itself false kept first = refl

  indent_items_map_to_themselves : (edition : Edition) (kept first : ℕ) →
      indented edition kept first ≡ map (item_map h) (indented edition kept first)
  indent_items_map_to_themselves One kept first = refl
  indent_items_map_to_themselves Two kept first = optional_text_item_maps_to_itself (nat_lt kept first) kept first

  items_from_mapped_pieces_are_mapped : (edition : Edition) (kept first : ℕ) (ps : List (PieceOf E)) (end : Ending) →
      items_from edition kept first (map (piece_map h) ps) end
      ≡ map (item_map h) (items_from edition kept first ps end)
  items_from_mapped_pieces_are_mapped edition kept first [] (lf_at p) = refl
  items_from_mapped_pieces_are_mapped edition kept first [] (crlf_at p) = refl
  items_from_mapped_pieces_are_mapped edition kept first [] text_end = refl
  items_from_mapped_pieces_are_mapped edition kept first (run from to ∷ ps) end =
      mapped_pieces_keep_their_ending (run kept to ∷ ps) end
  items_from_mapped_pieces_are_mapped edition kept first (placed e ∷ ps) end =
      rw (indent_items_map_to_themselves edition kept first, mapped_pieces_keep_their_ending (placed e ∷ ps) end)
      (sym (map-append (item_map h) (indented edition kept first) (with_ending (placed e ∷ ps) end)))

  items_of_mapped_line_are_mapped : (edition : Edition) (common : Option ℕ) (l : LineOf E) →
      line_items edition common (line_map h l) ≡ map (item_map h) (line_items edition common l)
  items_of_mapped_line_are_mapped edition common l =
      ap (λ kept. items_from edition kept (l.start + l.spaces) (map (piece_map h) l.pieces) l.ending)
      (mapping_keeps_common_indent_end common l)
      ∙ items_from_mapped_pieces_are_mapped edition (common_indent_end common l) (l.start + l.spaces) l.pieces l.ending

  pub items_of_mapped_lines_are_mapped : (edition : Edition) (common : Option ℕ) (ls : List (LineOf E)) →
      flat_map (line_items edition common) (map (line_map h) ls)
      ≡ map (item_map h) (flat_map (line_items edition common) ls)
  items_of_mapped_lines_are_mapped edition common [] = refl
  items_of_mapped_lines_are_mapped edition common (l ∷ ls) =
      rw (items_of_mapped_line_are_mapped edition common l, items_of_mapped_lines_are_mapped edition common ls)
      (sym (map-append (item_map h) (line_items edition common l) (flat_map (line_items edition common) ls)))

  items_of_mapped_opening_are_mapped : (o : Option (LineOf E)) →
      opening_items (option_map (line_map h) o) ≡ map (item_map h) (opening_items o)
  items_of_mapped_opening_are_mapped None = refl
  items_of_mapped_opening_are_mapped (Some l) = mapped_pieces_keep_their_ending l.pieces l.ending

  pub items_of_mapped_layout_are_mapped : (edition : Edition) (y : LayoutOf E) →
      opening_items (option_map (line_map h) y.opening)
      ++ flat_map (line_items edition (common_indent edition y)) (map (line_map h) y.lines)
      ≡ map (item_map h) (items edition y)
  items_of_mapped_layout_are_mapped edition y =
      let common = common_indent edition y in
      rw (items_of_mapped_opening_are_mapped y.opening, items_of_mapped_lines_are_mapped edition common y.lines)
      (sym (map-append (item_map h) (opening_items y.opening) (flat_map (line_items edition common) y.lines)))

  module _ (t : List ℕ) where
    mapping_keeps_which_items_stay : (x : ItemOf E) → stays t (item_map h x) ≡ stays t x
    mapping_keeps_which_items_stay (text from to) = refl
    mapping_keeps_which_items_stay (placeable_item e) = refl

    optional_mapped_item_is_mapped : (x : ItemOf E) (b : Bool) →
        (if b then item_map h x ∷ [] else []) ≡ map (item_map h) (if b then x ∷ [] else [])
    optional_mapped_item_is_mapped x true = refl
    optional_mapped_item_is_mapped x false = refl

    cut_before_mapped_item_is_mapped : (x : ItemOf E) (xs : List (ItemOf E)) →
        cut_before t (item_map h x) (map (item_map h) xs) ≡ map (item_map h) (cut_before t x xs)
    cut_before_mapped_item_is_mapped x [] =
        rw (mapping_keeps_which_items_stay x) (optional_mapped_item_is_mapped x (stays t x))
    cut_before_mapped_item_is_mapped x (y ∷ ys) = refl

    pub cut_of_mapped_items_is_mapped : (xs : List (ItemOf E)) →
        cut t (map (item_map h) xs) ≡ map (item_map h) (cut t xs)
    cut_of_mapped_items_is_mapped [] = refl
    cut_of_mapped_items_is_mapped (x ∷ xs) = ap (cut_before t (item_map h x)) (cut_of_mapped_items_is_mapped xs)
        ∙ cut_before_mapped_item_is_mapped x (cut t xs)
