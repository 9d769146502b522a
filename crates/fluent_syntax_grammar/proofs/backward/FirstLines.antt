-- Where the first line of a pattern keeps spaces, another line has fewer: so the pattern spans lines.
use Rattle.std.proofs.Common.{◌≡◌, ℕ, ◌+◌, ◌≤◌, List, [], ◌∷◌, ◌++◌, Option, None, Bool, true, false, refl, sym, ◌∙◌}
use Rattle.std.proofs.Common.{subst, ap, arith, inl, inr, append-nil}
use Rattle.std.specs.Prelude.{◌==◌, ◌||◌, ◌⊎◌, slice_range}
use Rattle.std.specs.List.{list_any, flat_map}
use Rattle.std.proofs.lemmas.List.Folds.{list_any-append}
use Rattle.fluent_syntax_tree.specs.Spans.{bytes_at}
use Rattle.fluent_syntax_tree.specs.declared.edition.Edition.TheVariants.{One}
use Rattle.fluent_syntax_tree.specs.Tree.{expression_map, PatternTree}
use Rattle.fluent_syntax_grammar.specs.Bytes.{lf, cr}
use Rattle.fluent_syntax_grammar.specs.Places.{has_byte}
use Rattle.fluent_syntax_grammar.specs.Layout.{Piece, run, placed, Ending, lf_at, crlf_at, text_end, Line, Layout}
use Rattle.fluent_syntax_grammar.specs.Layout.{counted_spaces, counted, least, common_indent}
use Rattle.fluent_syntax_grammar.specs.Elements.{Item, text, placeable_item, with_ending, common_indent_end, items_from}
use Rattle.fluent_syntax_grammar.specs.Elements.{line_items, items, is_nonblank, stays, cut_before, cut}
use Rattle.fluent_syntax_grammar.specs.Written.{Text, has_lf, is_select, is_multiline}
use Rattle.fluent_syntax_grammar.specs.Joined.{joined_pattern}
use Rattle.fluent_syntax_grammar.specs.RoundTrip.{HasNoBareCr}
use Rattle.fluent_syntax_grammar.proofs.backward.Texts.{line_end, nonblank_is_shows}
use Rattle.fluent_syntax_grammar.proofs.backward.Shapes.{items_tree}
use Rattle.fluent_syntax_grammar.proofs.backward.Lines.{range_ends_with_its_last_byte, tested_byte_is_at_place}
use Rattle.fluent_syntax_grammar.proofs.backward.Lines.{PiecesAt, no_piece}
use Rattle.fluent_syntax_grammar.proofs.backward.Lines.{a_run, a_placeable}
use Rattle.fluent_syntax_grammar.proofs.backward.Lines.{EndingAt, lf_ends, crlf_ends, text_ends, LineAt, LinesAt}
use Rattle.fluent_syntax_grammar.proofs.backward.Lines.{a_line, LayoutAt, on_line, below}
use Rattle.fluent_syntax_grammar.proofs.backward.Layouts.{LineText, HeadAt, line_has_head_at_kept_indent}
use Rattle.fluent_syntax_grammar.proofs.backward.Layouts.{run_at_head_is_line_text, no_line_at_end, IsSpare}
use Rattle.fluent_syntax_grammar.proofs.JoinedLines.{joining_keeps_is_multiline}
use Rattle.fluent_syntax_grammar.proofs.Tests.{or_has_true_side, true_by_left, true_by_right}

-- ---- the cut keeps what is before an item that stays

pub record Cons (xs : List Item) : Type 0 where
  pub head : Item
  pub rest : List Item
  pub is : xs ≡ head ∷ rest

or_true_by_implication : (x y z : Bool) → (x || y) ≡ true → (y ≡ true → z ≡ true) → (x || z) ≡ true
or_true_by_implication true y z e f = refl
or_true_by_implication false y z e f = f e

module _ (t : List ℕ) where
  cut_before_staying_or_kept_has_items : (x : Item) (ys : List Item) (b z : Bool) → stays t x ≡ b → (b || z) ≡ true →
      (z ≡ true → Cons ys) → Cons (cut_before t x ys)
  cut_before_staying_or_kept_has_items x (y ∷ ys) b z e f g = record { head = x; rest = y ∷ ys; is = refl }
  cut_before_staying_or_kept_has_items x [] true z e f g = record { head = x; rest = []; is = rw e refl }
  cut_before_staying_or_kept_has_items x [] false z e f g = let c = g f in let wrong = c.is in absurd cc

  cut_of_items_with_staying_one_has_items : (xs : List Item) → list_any (stays t) xs ≡ true → Cons (cut t xs)
  cut_of_items_with_staying_one_has_items [] e = absurd cc
  cut_of_items_with_staying_one_has_items (x ∷ xs) e = cut_before_staying_or_kept_has_items x (cut t xs) (stays t x)
      (list_any (stays t) xs) refl e (cut_of_items_with_staying_one_has_items xs)

  cut_before_items_keeps_item : (x : Item) (xs : List Item) (z : Item) (zs : List Item) →
      cut_before t x (xs ++ (z ∷ zs)) ≡ x ∷ (xs ++ (z ∷ zs))
  cut_before_items_keeps_item x [] z zs = refl
  cut_before_items_keeps_item x (y ∷ ys) z zs = refl

  cut_keeps_items_before_kept_ones : (xs ys : List Item) (z : Item) (zs : List Item) → cut t ys ≡ z ∷ zs →
      cut t (xs ++ ys) ≡ xs ++ (z ∷ zs)
  cut_keeps_items_before_kept_ones [] ys z zs e = e
  cut_keeps_items_before_kept_ones (x ∷ xs) ys z zs e =
      ap (cut_before t x) (cut_keeps_items_before_kept_ones xs ys z zs e) ∙ cut_before_items_keeps_item x xs z zs

  -- a text with an LF
  abbrev pub spans : Item → Bool
  spans (text from to) = has_lf (slice_range t from to)
  spans (placeable_item e) = false

  -- a text with an LF that is not the last item makes the pattern span lines
  tree_of_spanning_item_is_multiline : (xs : List Item) (z : Item) (zs : List Item) → list_any spans xs ≡ true →
      is_multiline (items_tree t (xs ++ (z ∷ zs))) ≡ true
  tree_of_spanning_item_is_multiline [] z zs e = cc
  tree_of_spanning_item_is_multiline (text from to ∷ []) z zs e =
      elim (or_has_true_side (has_lf (slice_range t from to)) false e)
      [ inl f ↦ true_by_left (has_lf (slice_range t from to)) _ f | inr f ↦ absurd cc ]
  tree_of_spanning_item_is_multiline (text from to ∷ y ∷ ys) z zs e =
      or_true_by_implication (has_lf (slice_range t from to)) (list_any spans (y ∷ ys))
      (is_multiline (items_tree t ((y ∷ ys) ++ (z ∷ zs))))
      e (tree_of_spanning_item_is_multiline (y ∷ ys) z zs)
  tree_of_spanning_item_is_multiline (placeable_item x ∷ ys) z zs e =
      true_by_right (is_select (expression_map (bytes_at t) x)) _ (tree_of_spanning_item_is_multiline ys z zs e)

module _ (t : List ℕ) (bare : HasNoBareCr t) (Joins : Type 0) (crs : (i : ℕ) → has_byte t cr i ≡ true → Joins)
    (m : Bool) where
  -- a line that a line end ends gives a text with an LF
  abbrev IsLine : Ending → Type 0
  IsLine (lf_at p) = Unit {0}
  IsLine (crlf_at p) = Unit {0}
  IsLine text_end = ⊥

  range_over_lf_has_lf : (i j : ℕ) → i ≤ j → has_byte t lf j ≡ true → has_lf (slice_range t i (j + 1)) ≡ true
  range_over_lf_has_lf i j l e =
      ap has_lf (range_ends_with_its_last_byte t i j lf l (tested_byte_is_at_place t lf j e))
      ∙ (list_any-append (λ b. b == lf) (slice_range t i j) (lf ∷ []) ∙ true_by_right (has_lf (slice_range t i j)) true
      refl)

  range_of_lone_lf_has_lf : (p : ℕ) → has_byte t lf (p + 1) ≡ true → has_lf (slice_range t (p + 1) (p + 2)) ≡ true
  range_of_lone_lf_has_lf p e = let s : (p + 1) + 1 ≡ p + 2 = omega arith in
      subst (λ k. has_lf (slice_range t (p + 1) k) ≡ true) s (range_over_lf_has_lf (p + 1) (p + 1) (omega arith) e)

  mutual
    pieces_with_eol_span : (i : ℕ) (ps : List Piece) (n : ℕ) (e : Ending) (j : ℕ) → PiecesAt t Joins i ps n →
        EndingAt t Joins n e j → IsLine e → list_any (spans t) (with_ending ps e) ≡ true
    pieces_with_eol_span i [] n e j (no_piece x) (lf_ends h) l =
        true_by_left (has_lf (slice_range t n (n + 1))) false (range_over_lf_has_lf n n (omega arith) h)
    pieces_with_eol_span i [] n e j (no_piece x) (crlf_ends c h) l =
        true_by_left (has_lf (slice_range t (n + 1) (n + 2))) false (range_of_lone_lf_has_lf n h)
    pieces_with_eol_span i [] n e j (no_piece x) (text_ends h) l = absurd l
    pieces_with_eol_span i (run from to ∷ ps) n e j (a_run m w x) h l =
        run_with_eol_spans i to ps n e j (omega arith) x h l
    pieces_with_eol_span i (placed z ∷ ps) n e j (a_placeable {m = k} g x) h l = pieces_with_eol_span k ps n e j x h l

    run_with_eol_spans : (kept to : ℕ) (ps : List Piece) (n : ℕ) (e : Ending) (j : ℕ) → kept ≤ to →
        PiecesAt t Joins to ps n →
        EndingAt t Joins n e j → IsLine e → list_any (spans t) (with_ending (run kept to ∷ ps) e) ≡ true
    run_with_eol_spans kept to [] n e j m (no_piece x) (lf_ends h) l =
        true_by_left (has_lf (slice_range t kept (n + 1))) false (range_over_lf_has_lf kept n m h)
    run_with_eol_spans kept to [] n e j m (no_piece x) (crlf_ends c h) l =
        true_by_right (has_lf (slice_range t kept n))
        _ (true_by_left (has_lf (slice_range t (n + 1) (n + 2))) false (range_of_lone_lf_has_lf n h))
    run_with_eol_spans kept to [] n e j m (no_piece x) (text_ends h) l = absurd l
    run_with_eol_spans kept to (run from to' ∷ ps) n e j m (a_run o w x) h l =
        true_by_right (has_lf (slice_range t kept to)) _ (run_with_eol_spans to to' ps n e j (omega arith) x h l)
    run_with_eol_spans kept to (placed z ∷ ps) n e j m (a_placeable {m = k} g x) h l =
        true_by_right (has_lf (slice_range t kept to)) _ (pieces_with_eol_span k ps n e j x h l)

  -- a line with a run first gives an item that stays
  text_with_shown_byte_stays : (kept first to b : ℕ) (c : Bool) (end : ℕ) → LineText t bare kept first to b →
      slice_range t kept end ≡ slice_range t kept to ++ line_end c → is_nonblank (slice_range t kept end) ≡ true
  text_with_shown_byte_stays kept first to b c end x e =
      ap is_nonblank e ∙ (nonblank_is_shows (slice_range t kept to) c x.plain ∙ x.shown)

  line_of_run_has_item_that_stays : (kept first to b : ℕ) (ps : List Piece) (n : ℕ) (e : Ending) (j : ℕ) → kept ≤ to →
      LineText t bare kept first to b → PiecesAt t Joins to ps n → EndingAt t Joins n e j →
      list_any (stays t) (with_ending (run kept to ∷ ps) e) ≡ true
  line_of_run_has_item_that_stays kept first to b [] n e j l x (no_piece y) (lf_ends h) =
      true_by_left _ false (text_with_shown_byte_stays kept first to b true (n + 1) x
      (range_ends_with_its_last_byte t kept n lf l (tested_byte_is_at_place t lf n h)))
  line_of_run_has_item_that_stays kept first to b [] n e j l x (no_piece y) (crlf_ends c h) =
      true_by_left _ _
      (text_with_shown_byte_stays kept first to b false n x (sym (append-nil (slice_range t kept n))))
  line_of_run_has_item_that_stays kept first to b [] n e j l x (no_piece y) (text_ends h) =
      true_by_left _ _
      (text_with_shown_byte_stays kept first to b false n x (sym (append-nil (slice_range t kept n))))
  line_of_run_has_item_that_stays kept first to b (p ∷ ps) n e j l x y h =
      true_by_left _ _
      (text_with_shown_byte_stays kept first to b false to x (sym (append-nil (slice_range t kept to))))

  -- a line does not count, or gives an item that stays
  counted_line_has_item_that_stays : (kept first byte spaces : ℕ) (ps : List Piece) (n : ℕ) (e : Ending) (j at : ℕ) →
      HeadAt t bare Joins crs m kept first byte → PiecesAt t Joins first ps n → EndingAt t Joins n e j →
      (counted_spaces One spaces ps ≡ []) ⊎ (list_any (stays t) (items_from One kept at ps e) ≡ true)
  counted_line_has_item_that_stays kept first byte spaces [] n e j at h x y = inl refl
  counted_line_has_item_that_stays kept first byte spaces (run from to ∷ ps) n e j at h (a_run l w x) y =
      let z = run_at_head_is_line_text t bare Joins crs m kept first byte to h l w in
      let on = h.on in
      inr (line_of_run_has_item_that_stays kept first to byte ps n e j (omega arith) z x y)
  counted_line_has_item_that_stays kept first byte spaces (placed z ∷ ps) n e j at h x y = inr refl

  staying_item_on_left_is_in_append : (xs ys : List Item) → list_any (stays t) xs ≡ true →
      list_any (stays t) (xs ++ ys) ≡ true
  staying_item_on_left_is_in_append xs ys e =
      list_any-append (stays t) xs ys ∙ true_by_left (list_any (stays t) xs) (list_any (stays t) ys) e

  staying_item_on_right_is_in_append : (xs ys : List Item) → list_any (stays t) ys ≡ true →
      list_any (stays t) (xs ++ ys) ≡ true
  staying_item_on_right_is_in_append xs ys e =
      list_any-append (stays t) xs ys ∙ true_by_right (list_any (stays t) xs) (list_any (stays t) ys) e

  counted_lines_have_item_that_stays : (common : Option ℕ) (i : ℕ) (ls : List Line) (k : ℕ) (ks : List ℕ) →
      LinesAt t Joins i ls →
      flat_map (counted One) ls ≡ k ∷ ks → list_any (stays t) (flat_map (line_items One common) ls) ≡ true
  counted_lines_have_item_that_stays common i [] k ks h e = absurd cc
  counted_lines_have_item_that_stays common i (l ∷ ls) k ks (a_line {j = j} x h) e =
      elim (counted_line_has_item_that_stays
      (common_indent_end common l) x.first x.byte l.spaces l.pieces x.end l.ending j
      (l.start + l.spaces)
      (line_has_head_at_kept_indent t bare Joins crs m common i j l x) x.pieces x.ending) [
        | inl f ↦ staying_item_on_right_is_in_append (line_items One common l) (flat_map (line_items One common) ls)
            (counted_lines_have_item_that_stays common j ls k ks h
            (sym (ap (λ ns. ns ++ flat_map (counted One) ls) f) ∙ e))
        | inr f ↦ staying_item_on_left_is_in_append (line_items One common l) (flat_map (line_items One common) ls) f
      ]

  -- the first line's items have a text with an LF, if another line follows
  line_ends_here : (n : ℕ) (e : Ending) (j : ℕ) (l : Line) (ls : List Line) → EndingAt t Joins n e j →
      LinesAt t Joins j (l ∷ ls) → IsLine e
  line_ends_here n e j l ls (lf_ends h) x = tt
  line_ends_here n e j l ls (crlf_ends c h) x = tt
  line_ends_here n e j l ls (text_ends h) (a_line x y) =
      no_line_at_end t bare Joins crs m j x.first x.byte h x.leading x.in_place

  line_before_counted_lines_ends_in_eol : (n : ℕ) (e : Ending) (j : ℕ) (ls : List Line) (k : ℕ) (ks : List ℕ) →
      EndingAt t Joins n e j → LinesAt t Joins j ls → flat_map (counted One) ls ≡ k ∷ ks → IsLine e
  line_before_counted_lines_ends_in_eol n e j [] k ks h x f = absurd cc
  line_before_counted_lines_ends_in_eol n e j (l ∷ ls) k ks h x f = line_ends_here n e j l ls h x

  items_of_line_with_eol_span : (kept first at : ℕ) (ps : List Piece) (n : ℕ) (e : Ending) (j from to : ℕ)
      (qs : List Piece) →
      kept ≤ first → ps ≡ run from to ∷ qs → PiecesAt t Joins first ps n → EndingAt t Joins n e j → IsLine e →
      list_any (spans t) (items_from One kept at ps e) ≡ true
  items_of_line_with_eol_span kept first at [] n e j from to qs l f x y z = absurd cc
  items_of_line_with_eol_span kept first at (placed v ∷ ps) n e j from to qs l f x y z = absurd cc
  items_of_line_with_eol_span kept first at (run from' to' ∷ ps) n e j from to qs l f (a_run m w x) y z =
      run_with_eol_spans kept to' ps n e j (omega arith) x y z

  -- the pattern that the lines below give, joined
  abbrev pub Joined : Layout → PatternTree Text
  Joined y = joined_pattern (items_tree t (cut t (items One y)))

  abbrev Below : List Line → Layout
  Below ls = record { opening = None; lines = ls }

  run_before_counted_lines_is_multiline : (i j : ℕ) (l : Line) (ls : List Line) (k : ℕ) (ks : List ℕ) (from to : ℕ)
      (qs : List Piece) → (x : LineAt t Joins i l j) → LinesAt t Joins j ls → l.pieces ≡ run from to ∷ qs →
      flat_map (counted One) ls ≡ k ∷ ks → is_multiline (Joined (Below (l ∷ ls))) ≡ true
  run_before_counted_lines_is_multiline i j l ls k ks from to qs x h f e =
      let common = common_indent One (Below (l ∷ ls)) in
      let g = line_has_head_at_kept_indent t bare Joins crs m common i j l x in
      let s =
      items_of_line_with_eol_span (common_indent_end common l) x.first
      (l.start + l.spaces) l.pieces x.end l.ending j from to qs g.on f
      x.pieces x.ending (line_before_counted_lines_ends_in_eol x.end l.ending j ls k ks x.ending h e) in
      let c = cut_of_items_with_staying_one_has_items t (flat_map (line_items One common) ls)
      (counted_lines_have_item_that_stays common j ls k ks h e) in
      let whole = cut_keeps_items_before_kept_ones t (line_items One common l)
      (flat_map (line_items One common) ls) c.head c.rest c.is in
      joining_keeps_is_multiline (items_tree t (cut t (items One (Below (l ∷ ls)))))
      ∙ (ap (λ xs. is_multiline (items_tree t xs)) whole
      ∙ tree_of_spanning_item_is_multiline t (line_items One common l) c.head c.rest s)

  -- the first line alone counts
  indent_of_lone_run_is_kept : (start spaces from to : ℕ) (ps qs : List Piece) (e : Ending) (ns : List ℕ) →
      ps ≡ run from to ∷ qs → ns ≡ [] → common_indent_end (least (counted_spaces One spaces ps ++ ns))
      (record { start = start; spaces = spaces; pieces = ps; ending = e }) ≡ start + spaces
  indent_of_lone_run_is_kept start spaces from to ps qs e ns f g = rw (f, g) (omega arith)

  line_of_run_is_spare : (i j : ℕ) (l : Line) (ls : List Line) (from to : ℕ) (qs : List Piece) (ns : List ℕ) →
      LineAt t Joins i l j → LinesAt t Joins j ls → l.pieces ≡ run from to ∷ qs → flat_map (counted One) ls ≡ ns →
      (is_multiline (Joined (Below (l ∷ ls))) ≡ true) ⊎
      (common_indent_end (common_indent One (Below (l ∷ ls))) l ≡ l.start + l.spaces)
  line_of_run_is_spare i j l ls from to qs [] x h f e =
      inr (indent_of_lone_run_is_kept l.start l.spaces from to l.pieces qs l.ending (flat_map (counted One) ls) f e)
  line_of_run_is_spare i j l ls from to qs (k ∷ ks) x h f e =
      inl (run_before_counted_lines_is_multiline i j l ls k ks from to qs x h f e)

  -- so the first line keeps spaces only where the pattern spans lines
  pub layout_there_is_spare : (y : Layout) → LayoutAt t Joins y → IsSpare t bare Joins crs (is_multiline (Joined y)) y
  layout_there_is_spare y (on_line f g x z h) = tt
  layout_there_is_spare y (below {ls = []} w e h) = tt
  layout_there_is_spare y (below {i = i} {ls = l ∷ ls} w e (a_line {j = j} x h)) =
      λ from to qs f. line_of_run_is_spare i j l ls from to qs (flat_map (counted One) ls) x h f refl
