-- The elements that a layout spells lie in the text, if the layout does.
use Rattle.std.proofs.Common.{◌≡◌, ℕ, zero, suc, ◌+◌, ◌-◌, ◌<◌, ◌≤◌, min, List, [], ◌∷◌, length, drop, get_or, Option}
use Rattle.std.proofs.Common.{Some, None, Bool, true, false, refl, sym, ◌∙◌, subst, ap, arith}
use Rattle.std.specs.Prelude.{slice_range, nat_lt, if◌then◌else◌}
use Rattle.std.specs.List.{flat_map}
use Rattle.std.proofs.lemmas.Bool.Decides.{nat_tests}
use Rattle.std.proofs.lemmas.Option.{slice_get-get_or}
use Rattle.std.proofs.lemmas.List.{get_or-drop, get_or-take}
use Rattle.std.proofs.Common.{length-drop, length-take}
use Rattle.fluent_syntax_tree.specs.Text.{is_trimmed, trimmed_len_below}
use Rattle.fluent_syntax_tree.specs.Tree.{ElementTree, elements_of}
use Rattle.fluent_syntax_tree.specs.Every.{expression_every, element_every, pattern_every, option_every, list_every}
use Rattle.fluent_syntax_grammar.specs.Layout.{Piece, run, placed, Ending, lf_at, crlf_at, text_end, Line, Layout}
use Rattle.fluent_syntax_grammar.specs.Layout.{common_indent}
use Rattle.fluent_syntax_grammar.specs.Elements.{Item, text, placeable_item, with_ending, common_indent_end, indented}
use Rattle.fluent_syntax_grammar.specs.Elements.{items_from, line_items, opening_items, items, stays, cut_before, cut}
use Rattle.fluent_syntax_grammar.specs.Elements.{trimmed_end, spelled, if_any, pattern_of}
use Rattle.fluent_syntax_tree.specs.declared.edition.Edition.{Edition}
use Rattle.fluent_syntax_tree.specs.declared.edition.Edition.TheVariants.{One, Two}
use Rattle.fluent_syntax_tree.specs.declared.spans.Span.{Span}
use Rattle.fluent_syntax_grammar.proofs.Cuts.{AsciiAt, AreBoundaries}
use Rattle.fluent_syntax_grammar.proofs.Sound.{IsSpan}
use Rattle.fluent_syntax_tree.proofs.Every.{list_every-append}

module _ (P : ℕ → Type 0) where
  -- a piece that lies between two places
  abbrev pub PieceInBounds : (s e : ℕ) → Piece → Type 0
  PieceInBounds s e (run from to) = (s ≤ from) × (from ≤ to) × (to ≤ e) × P from × P to
  PieceInBounds s e (placed x) = expression_every (IsSpan P) x

  -- an ending that is not before a place
  abbrev pub EndingInBounds : (e : ℕ) → Ending → Type 0
  EndingInBounds e (lf_at p) = (e ≤ p) × P p × P (p + 1)
  EndingInBounds e (crlf_at p) = (e ≤ p) × P (p + 1) × P (p + 2)
  EndingInBounds e text_end = Unit {0}

  pub record LineInBounds (l : Line) : Type 0 where
    pub leading : (m : ℕ) → m ≤ l.spaces → P (l.start + m)
    pub end : ℕ
    pub late : l.start + l.spaces ≤ end
    pub pieces : list_every (PieceInBounds (l.start + l.spaces) end) l.pieces
    pub ending : EndingInBounds end l.ending

  pub record LayoutInBounds (y : Layout) : Type 0 where
    pub opening : option_every LineInBounds y.opening
    pub lines : list_every LineInBounds y.lines

  abbrev pub ItemInBounds : Item → Type 0
  ItemInBounds (text from to) = (from ≤ to) × P from × P to
  ItemInBounds (placeable_item x) = expression_every (IsSpan P) x

  piece_is_in_earlier_bounds : (s s' e : ℕ) → s' ≤ s → (p : Piece) → PieceInBounds s e p → PieceInBounds s' e p
  piece_is_in_earlier_bounds s s' e l (run from to) (a, b, c, d, f) = (omega arith, b, c, d, f)
  piece_is_in_earlier_bounds s s' e l (placed x) g = g

  pub piece_is_in_later_bounds : (s e e' : ℕ) → e ≤ e' → (p : Piece) → PieceInBounds s e p → PieceInBounds s e' p
  piece_is_in_later_bounds s e e' l (run from to) (a, b, c, d, f) = (a, b, omega arith, d, f)
  piece_is_in_later_bounds s e e' l (placed x) g = g

  pub pieces_are_in_earlier_bounds : (s s' e : ℕ) → s' ≤ s → (ps : List Piece) → list_every (PieceInBounds s e) ps →
      list_every (PieceInBounds s' e) ps
  pieces_are_in_earlier_bounds s s' e l [] g = tt
  pieces_are_in_earlier_bounds s s' e l (p ∷ ps) (g, h) =
      (piece_is_in_earlier_bounds s s' e l p g, pieces_are_in_earlier_bounds s s' e l ps h)

  with_in_bounds : (s e : ℕ) → s ≤ e → (ps : List Piece) (x : Ending) → list_every (PieceInBounds s e) ps →
      EndingInBounds e x →
      list_every ItemInBounds (with_ending ps x)
  with_in_bounds s e l [] (lf_at p) g (a, b, c) = ((omega arith, b, c), tt)
  with_in_bounds s e l [] (crlf_at p) g (a, b, c) = ((omega arith, b, c), tt)
  with_in_bounds s e l [] text_end g h = tt
  with_in_bounds s e l (run from to ∷ []) (lf_at p) ((a, b, c, d, f), g) (h, m, n) = ((omega arith, d, n), tt)
  with_in_bounds s e l (run from to ∷ []) (crlf_at p) ((a, b, c, d, f), g) (h, m, n) =
      ((b, d, f), ((omega arith, m, n), tt))
  with_in_bounds s e l (run from to ∷ []) text_end ((a, b, c, d, f), g) h = ((b, d, f), tt)
  with_in_bounds s e l (run from to ∷ p ∷ ps) x ((a, b, c, d, f), g) h =
      ((b, d, f), with_in_bounds s e l (p ∷ ps) x g h)
  with_in_bounds s e l (placed y ∷ ps) x (g, h) m = (g, with_in_bounds s e l ps x h m)

  flat_map_holds_of_every_item : {X Y : Type 0} (Q : X → Type 0) (R : Y → Type 0) (f : X → List Y) →
      ((x : X) → Q x → list_every R (f x)) → (xs : List X) → list_every Q xs → list_every R (flat_map f xs)
  flat_map_holds_of_every_item Q R f g [] h = tt
  flat_map_holds_of_every_item Q R f g (x ∷ xs) (h, k) =
      list_every-append R (f x) (flat_map f xs) (g x h) (flat_map_holds_of_every_item Q R f g xs k)

  text_if_in_bounds : (b : Bool) (from to : ℕ) → from ≤ to → P from → P to →
      list_every ItemInBounds (if b then text from to ∷ [] else [])
  text_if_in_bounds true from to l p q = ((l, p, q), tt)
  text_if_in_bounds false from to l p q = tt

  indent_items_are_in_bounds : (edition : Edition) (kept first : ℕ) → kept ≤ first → P kept → P first →
      list_every ItemInBounds (indented edition kept first)
  indent_items_are_in_bounds One kept first l p q = tt
  indent_items_are_in_bounds Two kept first l p q = text_if_in_bounds (nat_lt kept first) kept first l p q

  items_from_in_bounds : (edition : Edition) (kept first e : ℕ) → kept ≤ first → first ≤ e → P kept → P first →
      (ps : List Piece) (x : Ending) → list_every (PieceInBounds first e) ps → EndingInBounds e x →
      list_every ItemInBounds (items_from edition kept first ps x)
  items_from_in_bounds edition kept first e l m p q [] (lf_at n) g (a, b, c) = ((omega arith, p, c), tt)
  items_from_in_bounds edition kept first e l m p q [] (crlf_at n) g (a, b, c) = ((omega arith, b, c), tt)
  items_from_in_bounds edition kept first e l m p q [] text_end g h = tt
  items_from_in_bounds edition kept first e l m p q (run from to ∷ ps) x ((a, b, c, d, f), g) h =
      with_in_bounds kept e (omega arith) (run kept to ∷ ps) x
      ((omega arith, omega arith, c, p, f), pieces_are_in_earlier_bounds first kept e l ps g) h
  items_from_in_bounds edition kept first e l m p q (placed y ∷ ps) x (g, h) k =
      list_every-append ItemInBounds (indented edition kept first) (placeable_item y ∷ with_ending ps x)
      (indent_items_are_in_bounds edition kept first l p q) (g, with_in_bounds first e m ps x h k)

  kept_indent_is_in_bounds : (common : Option ℕ) (l : Line) → LineInBounds l →
      (common_indent_end common l ≤ l.start + l.spaces) × P (common_indent_end common l)
  kept_indent_is_in_bounds None l g = (omega arith, g.leading l.spaces (omega arith))
  kept_indent_is_in_bounds (Some c) l g = (omega arith, g.leading (min l.spaces c) (omega arith))

  line_items_in_bounds : (edition : Edition) (common : Option ℕ) (l : Line) → LineInBounds l →
      list_every ItemInBounds (line_items edition common l)
  line_items_in_bounds edition common l g =
      let k = kept_indent_is_in_bounds common l g in
      items_from_in_bounds edition (common_indent_end common l) (l.start + l.spaces) g.end k.0 g.late k.1
      (g.leading l.spaces (omega arith)) l.pieces l.ending g.pieces g.ending

  opening_items_are_in_bounds : (o : Option Line) → option_every LineInBounds o →
      list_every ItemInBounds (opening_items o)
  opening_items_are_in_bounds None g = tt
  opening_items_are_in_bounds (Some l) g =
      with_in_bounds (l.start + l.spaces) g.end g.late l.pieces l.ending g.pieces g.ending

  items_of_layout_are_in_bounds : (edition : Edition) (y : Layout) → LayoutInBounds y →
      list_every ItemInBounds (items edition y)
  items_of_layout_are_in_bounds edition y g =
      list_every-append ItemInBounds (opening_items y.opening)
      (flat_map (line_items edition (common_indent edition y)) y.lines)
      (opening_items_are_in_bounds y.opening g.opening)
      (flat_map_holds_of_every_item LineInBounds ItemInBounds (line_items edition (common_indent edition y))
      (line_items_in_bounds edition (common_indent edition y)) y.lines g.lines)

trimmed_byte_is_ascii : (b : ℕ) → is_trimmed b ≡ true → b < 128
trimmed_byte_is_ascii b e = grind (arith, nat_tests)

either_place_holds : (P : ℕ → Type 0) (from : ℕ) (test : Bool) (m n : ℕ) → (test ≡ true → P (from + m)) → P (from + n) →
    P (from + (if test then m else n))
either_place_holds P from true m n f p = f refl
either_place_holds P from false m n f p = p

module _ (t : List ℕ) (P : ℕ → Type 0) (cuts : AreBoundaries t P) where
  optional_item_is_in_bounds : (b : Bool) (x : Item) → ItemInBounds P x →
      list_every (ItemInBounds P) (if b then x ∷ [] else [])
  optional_item_is_in_bounds true x g = (g, tt)
  optional_item_is_in_bounds false x g = tt

  items_before_cut_are_in_bounds : (x : Item) (xs : List Item) → ItemInBounds P x → list_every (ItemInBounds P) xs →
      list_every (ItemInBounds P) (cut_before t x xs)
  items_before_cut_are_in_bounds x [] g h = optional_item_is_in_bounds (stays t x) x g
  items_before_cut_are_in_bounds x (y ∷ ys) g h = (g, h)

  cut_items_are_in_bounds : (xs : List Item) → list_every (ItemInBounds P) xs → list_every (ItemInBounds P) (cut t xs)
  cut_items_are_in_bounds [] g = tt
  cut_items_are_in_bounds (x ∷ xs) (g, h) = items_before_cut_are_in_bounds x (cut t xs) g (cut_items_are_in_bounds xs h)

  -- the bytes of a text, by their places in the whole
  place_of_trimmed_byte_has_ascii_byte : (from to n : ℕ) → to ≤ length t → n < to - from →
      is_trimmed (get_or (slice_range t from to) n 0) ≡ true → AsciiAt t (from + n)
  place_of_trimmed_byte_has_ascii_byte from to n l m e =
      let same : get_or (slice_range t from to) n 0 ≡ get_or t (from + n) 0 =
      get_or-take (to - from) (drop from t) n 0 m ∙ get_or-drop from t n 0 in
      let small : get_or t (from + n) 0 < 128 =
      trimmed_byte_is_ascii (get_or t (from + n) 0) (ap is_trimmed (sym same) ∙ e) in
      record { byte = get_or t (from + n) 0; in_place = slice_get-get_or t (from + n) 0 (omega arith); ascii = small }

  trimmed_end_is_boundary : (from to n : ℕ) → to ≤ length t → n ≤ to - from → P from → P (from + n) →
      P (from + trimmed_len_below (slice_range t from to) n)
  trimmed_end_is_boundary from to zero l m p q = q
  trimmed_end_is_boundary from to (suc n) l m p q =
      let test = is_trimmed (get_or (slice_range t from to) n 0) in
      let more =
      λ (e : test ≡ true). trimmed_end_is_boundary from to n l (omega arith) p
      (cuts.before (from + n) (place_of_trimmed_byte_has_ascii_byte from to n l (omega arith) e)) in
      either_place_holds P from test (trimmed_len_below (slice_range t from to) n) (suc n) more q

  end_in_bounds : (from to : ℕ) → from ≤ to → P from → P to → (from ≤ trimmed_end t from to) × P (trimmed_end t from to)
  end_in_bounds from to l p q =
      let inside = cuts.in_text to q in
      let n : length (slice_range t from to) ≡ to - from = simp (length-take, length-drop) (omega arith) in
      let end : to ≡ from + length (slice_range t from to) = omega arith in (
        omega arith,
        trimmed_end_is_boundary from to (length (slice_range t from to)) inside (omega arith) p (subst P end q),
      )

  spelled_items_are_in_bounds : (xs : List Item) → list_every (ItemInBounds P) xs →
      list_every (element_every (IsSpan P)) (spelled t xs)
  spelled_items_are_in_bounds [] g = tt
  spelled_items_are_in_bounds (text from to ∷ []) ((a, b, c), g) =
      let e = end_in_bounds from to a b c in ((e.0, b, e.1), tt)
  spelled_items_are_in_bounds (text from to ∷ x ∷ xs) (g, h) = (g, spelled_items_are_in_bounds (x ∷ xs) h)
  spelled_items_are_in_bounds (placeable_item x ∷ xs) (g, h) = (g, spelled_items_are_in_bounds xs h)

elements_in_bounds : (P : ℕ → Type 0) (es : List (ElementTree Span)) → list_every (element_every (IsSpan P)) es →
    pattern_every (IsSpan P) (elements_of es)
elements_in_bounds P [] g = tt
elements_in_bounds P (e ∷ es) (g, h) = (g, elements_in_bounds P es h)

optional_pattern_of_elements_is_in_bounds : (P : ℕ → Type 0) (es : List (ElementTree Span)) →
    list_every (element_every (IsSpan P)) es →
    option_every (pattern_every (IsSpan P)) (if_any es)
optional_pattern_of_elements_is_in_bounds P [] g = tt
optional_pattern_of_elements_is_in_bounds P (e ∷ es) g = elements_in_bounds P (e ∷ es) g

-- the texts of a pattern lie in the source, if its layout does
pub pattern_in_bounds : (t : List ℕ) (P : ℕ → Type 0) → AreBoundaries t P → (edition : Edition) (y : Layout) →
    LayoutInBounds P y →
    option_every (pattern_every (IsSpan P)) (pattern_of edition t y)
pattern_in_bounds t P cuts edition y g =
    optional_pattern_of_elements_is_in_bounds P (spelled t (cut t (items edition y)))
    (spelled_items_are_in_bounds t P cuts (cut t (items edition y))
    (cut_items_are_in_bounds t P cuts (items edition y) (items_of_layout_are_in_bounds P edition y g)))
