-- The items of a layout that was read have their shape: where an LF follows every CR.
use Rattle.std.proofs.Common.{◌≡◌, ℕ, zero, suc, ◌+◌, ◌-◌, ◌<◌, ◌≤◌, List, [], ◌∷◌, ◌++◌, Option, Some, None, Bool}
use Rattle.std.proofs.Common.{true, false, refl, sym, ◌∙◌, subst, ap, arith, inl, inr}
use Rattle.std.specs.Prelude.{◌==◌, ◌||◌, ◌⊎◌, not, nat_lt, slice_get, slice_range}
use Rattle.std.specs.List.{list_all, flat_map}
use Rattle.fluent_syntax_tree.specs.declared.edition.Edition.TheVariants.{One}
use Rattle.fluent_syntax_grammar.specs.PatternTexts.{is_empty, after_spaces, begins_with_space}
use Rattle.fluent_syntax_grammar.specs.Bytes.{lf, cr, is_space}
use Rattle.fluent_syntax_grammar.specs.Places.{holds, LongestRun, has, has_byte, has_eol, InlineBlank}
use Rattle.fluent_syntax_grammar.specs.Layout.{Piece, run, placed, Ending, lf_at, crlf_at, text_end, Line, Layout}
use Rattle.fluent_syntax_grammar.specs.Layout.{common_indent}
use Rattle.fluent_syntax_grammar.specs.Lines.{is_run_place, belongs}
use Rattle.fluent_syntax_grammar.specs.Elements.{Item, text, with_ending, common_indent_end, items_from, line_items}
use Rattle.fluent_syntax_grammar.specs.Elements.{items}
use Rattle.fluent_syntax_grammar.specs.Written.{begins_with_mark, is_leading_mark}
use Rattle.fluent_syntax_grammar.specs.Readable.{ElementPosition, opening, after_line, after_placeable}
use Rattle.fluent_syntax_grammar.specs.RoundTrip.{HasNoBareCr}
use Rattle.fluent_syntax_grammar.proofs.Facts.{byte_exists, holds-some, tests_imply, and_gives_left, and_gives_right}
use Rattle.fluent_syntax_grammar.proofs.Facts.{absurd_test}
use Rattle.fluent_syntax_grammar.proofs.Facts.{same_by_test, one_and_one_on_is_two_on, lt_or_le, byte_passes}
use Rattle.fluent_syntax_grammar.proofs.Tests.{or_has_true_side}
use Rattle.fluent_syntax_grammar.proofs.Functional.{longest_run_is_functional}
use Rattle.fluent_syntax_grammar.proofs.backward.Texts.{is_plain, shows, BeginsElement}
use Rattle.fluent_syntax_grammar.proofs.backward.Shapes.{places, runs, ends_line, blank_line, joins, Shape, done, more}
use Rattle.fluent_syntax_grammar.proofs.backward.Shapes.{space_is_plain}
use Rattle.fluent_syntax_grammar.proofs.backward.Lines.{range_begins_with_byte_at_start, range_ends_with_its_last_byte}
use Rattle.fluent_syntax_grammar.proofs.backward.Lines.{range_of_one_byte_is_that_byte}
use Rattle.fluent_syntax_grammar.proofs.backward.Lines.{range_passes_where_each_place_passes, tested_byte_is_at_place}
use Rattle.fluent_syntax_grammar.proofs.backward.Lines.{PiecesAt, no_piece, a_run, a_placeable, EndingAt, lf_ends}
use Rattle.fluent_syntax_grammar.proofs.backward.Lines.{crlf_ends, text_ends, LineAt, LinesAt, a_line, LayoutAt}
use Rattle.fluent_syntax_grammar.proofs.backward.Lines.{on_line, below}
use Rattle.fluent_syntax_grammar.proofs.Tests.{not_true_is_false, or_with_true_is_true}

-- a byte that is no LF and no brace, and no CR, is plain
no_brace_is_plain : (b : ℕ) → not (b == lf || b == 123 || b == 125) ≡ true → (b == cr) ≡ false → is_plain b ≡ true
no_brace_is_plain b e f = bools (b == lf) (b == 123) (b == 125) (b == cr) e f
  where
    bools : (x y z w : Bool) → not (x || y || z) ≡ true → w ≡ false → not ((y || z) || (x || w)) ≡ true
    bools false false false false e f = refl
    bools true y z w e f = cc
    bools false true z w e f = cc
    bools false false true w e f = cc
    bools false false false true e f = cc

byte_is_no_mark : (b : ℕ) → not (b == 46 || b == 125 || b == 91 || b == 42) ≡ true → is_leading_mark b ≡ false
byte_is_no_mark b e = bools (b == 46) (b == 125) (b == 91) (b == 42) e
  where
    bools : (x y z w : Bool) → not (x || y || z || w) ≡ true → (x || z || w) ≡ false
    bools false false false false e = refl
    bools true y z w e = cc
    bools false true z w e = cc
    bools false false true w e = cc
    bools false false false true e = cc

plain_byte_is_no_other_byte : (b c : ℕ) → is_plain c ≡ false → (b == c) ≡ true → is_plain b ≡ true → ⊥
plain_byte_is_no_other_byte b c e f g =
    let same = same_by_test b c f in let h : is_plain c ≡ true = subst (λ b. is_plain b ≡ true) same g in cc

-- what may follow an ending
abbrev pub MayFollowEnding : (t : List ℕ) (Joins : Type 0) (m : Bool) → Ending → List Item → Type 0
MayFollowEnding t Joins m (lf_at p) rest = Shape t Joins m after_line rest
MayFollowEnding t Joins m (crlf_at p) rest = Shape t Joins m after_line rest
MayFollowEnding t Joins m text_end rest = rest ≡ []

module _ (t : List ℕ) (bare : HasNoBareCr t) where
  cr_before_lf_is_eol : (i : ℕ) → has_byte t cr i ≡ true → has_byte t lf (i + 1) ≡ true → has_eol t i ≡ true
  cr_before_lf_is_eol i e f = rw (e, f) (or_with_true_is_true (has_byte t lf i))

  byte_off_eol_is_no_cr : (i b : ℕ) (x : Bool) → (b == cr) ≡ x → slice_get t i ≡ Some b → has_eol t i ≡ false →
      (b == cr) ≡ false
  byte_off_eol_is_no_cr i b false e f g = e
  byte_off_eol_is_no_cr i b true e f g =
      let h = holds-some (λ c. c == cr) (slice_get t i) b f e in absurd_test (cr_before_lf_is_eol i h (bare i h)) g

  -- a byte of a run is plain
  run_place_has_plain_byte : (i : ℕ) → is_run_place t i ≡ true → has t is_plain i ≡ true
  run_place_has_plain_byte i e =
      let b =
      byte_exists (λ b. not (b == lf || b == 123 || b == 125)) (slice_get t i)
      (and_gives_left _ (not (has_eol t i)) e) in
      let f =
      not_true_is_false (has_eol t i)
      (and_gives_right (has t (λ b. not (b == lf || b == 123 || b == 125)) i) (not (has_eol t i)) e) in
      holds-some is_plain (slice_get t i) b.0 b.1
      (no_brace_is_plain b.0 b.2 (byte_off_eol_is_no_cr i b.0 (b.0 == cr) refl b.1 f))

  -- where a run begins a later line, it begins with no mark
  run_of_own_line_begins_with_no_mark : (indented : Bool) (i b : ℕ) → belongs t indented i ≡ true →
      is_run_place t i ≡ true → slice_get t i ≡ Some b → is_leading_mark b ≡ false
  run_of_own_line_begins_with_no_mark true i b e f g = elim (or_has_true_side (has_eol t i) _ e) [
    | inl h ↦ absurd_test h
        (not_true_is_false (has_eol t i)
        (and_gives_right (has t (λ b. not (b == lf || b == 123 || b == 125)) i) (not (has_eol t i)) f))
    | inr h ↦ byte_is_no_mark b (byte_passes _ (slice_get t i) b g h)
  ]
  run_of_own_line_begins_with_no_mark false i b e f g =
      let plain = byte_passes is_plain (slice_get t i) b g (run_place_has_plain_byte i f) in
      elim (or_has_true_side (has_eol t i || has_byte t 123 i) (has_byte t cr i) e) [
        | inl h ↦ elim (or_has_true_side (has_eol t i) (has_byte t 123 i) h) [
          | inl k ↦ absurd_test k
              (not_true_is_false (has_eol t i)
              (and_gives_right (has t (λ b. not (b == lf || b == 123 || b == 125)) i) (not (has_eol t i)) f))
          | inr k ↦ absurd (plain_byte_is_no_other_byte b 123 refl (byte_passes _ (slice_get t i) b g k) plain)
        ]
        | inr h ↦ absurd (plain_byte_is_no_other_byte b cr refl (byte_passes _ (slice_get t i) b g h) plain)
      ]

  -- spaces and then a byte that is none
  range_after_spaces_begins_with_byte : (n i j b : ℕ) → i + n < j →
      ((k : ℕ) → i ≤ k → k < i + n → has t is_space k ≡ true) → slice_get t (i + n) ≡ Some b → is_space b ≡ false →
      (shows (slice_range t i j) ≡ true) × (after_spaces (slice_range t i j) ≡ b ∷ slice_range t ((i + n) + 1) j)
  range_after_spaces_begins_with_byte zero i j b l e f g =
      let s : i + 0 ≡ i = omega arith in
      let h : slice_get t i ≡ Some b = subst (λ k. slice_get t k ≡ Some b) s f in
      let r : slice_range t i j ≡ b ∷ slice_range t (i + 1) j =
      range_begins_with_byte_at_start t i j b (omega arith) h in
      let r' : slice_range t i j ≡ b ∷ slice_range t ((i + 0) + 1) j =
      subst (λ k. slice_range t i j ≡ b ∷ slice_range t (k + 1) j) (sym s) r in
      rw (r', g) (refl, refl)
  range_after_spaces_begins_with_byte (suc n) i j b l e f g =
      let c = byte_exists is_space (slice_get t i) (e i (omega arith) (omega arith)) in
      let s : (i + 1) + n ≡ i + suc n = omega arith in
      let r : slice_range t i j ≡ c.0 ∷ slice_range t (i + 1) j =
      range_begins_with_byte_at_start t i j c.0 (omega arith) c.1 in
      let q =
      range_after_spaces_begins_with_byte n (i + 1) j b (omega arith) (λ k x y. e k (omega arith) (omega arith))
      (subst (λ k. slice_get t k ≡ Some b) (sym s) f) g in
      let q' : after_spaces (slice_range t (i + 1) j) ≡ b ∷ slice_range t ((i + suc n) + 1) j =
      subst (λ k. after_spaces (slice_range t (i + 1) j) ≡ b ∷ slice_range t (k + 1) j) s q.1 in
      rw (r, c.2) (q.0, q')

  -- a run with the spaces that are kept before it
  pub record LineText (kept first to b : ℕ) : Type 0 where
    pub plain : list_all is_plain (slice_range t kept to) ≡ true
    pub some : is_empty (slice_range t kept to) ≡ false
    pub shown : shows (slice_range t kept to) ≡ true
    pub after : after_spaces (slice_range t kept to) ≡ b ∷ slice_range t (first + 1) to

  shown_text_is_not_empty : (u : List ℕ) → shows u ≡ true → is_empty u ≡ false
  shown_text_is_not_empty [] e = cc
  shown_text_is_not_empty (x ∷ u) e = refl

  kept_run_has_plain_bytes : (kept first to : ℕ) → ((k : ℕ) → kept ≤ k → k < first → has t is_space k ≡ true) →
      LongestRun (is_run_place t) first to → (k : ℕ) → kept ≤ k → k < to → has t is_plain k ≡ true
  kept_run_has_plain_bytes kept first to e w k l n = elim (lt_or_le k first) [
    | inl x ↦ tests_imply is_space is_plain (slice_get t k) space_is_plain (e k l x)
    | inr x ↦ run_place_has_plain_byte k (w.each k x n)
  ]

  run_after_kept_indent_is_line_text : (kept first to b : ℕ) → kept ≤ first → first < to →
      ((k : ℕ) → kept ≤ k → k < first → has t is_space k ≡ true) → LongestRun (is_run_place t) first to →
      slice_get t first ≡ Some b → is_space b ≡ false → LineText kept first to b
  run_after_kept_indent_is_line_text kept first to b l n e w f g =
      let s : kept + (first - kept) ≡ first = omega arith in
      let h =
      range_after_spaces_begins_with_byte (first - kept) kept to b (omega arith) (λ k x y. e k x (omega arith))
      (subst (λ k. slice_get t k ≡ Some b) (sym s) f) g in
      record {
        plain = range_passes_where_each_place_passes t is_plain kept to (omega arith)
            (kept_run_has_plain_bytes kept first to e w);
        some = shown_text_is_not_empty (slice_range t kept to) h.0;
        shown = h.0;
        after = subst (λ k. after_spaces (slice_range t kept to) ≡ b ∷ slice_range t (k + 1) to) s h.1;
      }

module _ (t : List ℕ) (bare : HasNoBareCr t) (Joins : Type 0) (crs : (i : ℕ) → has_byte t cr i ≡ true → Joins)
    (m : Bool) where
  pub range_of_lone_lf_is_lf : (p : ℕ) → has_byte t lf (p + 1) ≡ true → slice_range t (p + 1) (p + 2) ≡ lf ∷ []
  range_of_lone_lf_is_lf p e =
      subst (λ k. slice_range t (p + 1) k ≡ lf ∷ []) (one_and_one_on_is_two_on p)
      (range_of_one_byte_is_that_byte t (p + 1) lf (tested_byte_is_at_place t lf (p + 1) e))

  -- a run that ends its line
  run_at_end_has_shape : (s : ElementPosition) (kept to : ℕ) (e : Ending) (j : ℕ) (rest : List Item) → kept ≤ to →
      list_all is_plain (slice_range t kept to) ≡ true → is_empty (slice_range t kept to) ≡ false →
      BeginsElement m s (slice_range t kept to) → EndingAt t Joins to e j → MayFollowEnding t Joins m e rest →
      Shape t Joins m s (with_ending (run kept to ∷ []) e ++ rest)
  run_at_end_has_shape s kept to e j rest l p n b (lf_ends h) a =
      more (ends_line (slice_range t kept to)
      (range_ends_with_its_last_byte t kept to lf l (tested_byte_is_at_place t lf to h)) p b) a
  run_at_end_has_shape s kept to e j rest l p n b (crlf_ends c h) a =
      more (runs (slice_range t kept to) refl p n b) (more (joins (range_of_lone_lf_is_lf to h) (crs to c)) a)
  run_at_end_has_shape s kept to e j rest l p n b (text_ends h) a =
      subst (λ rest. Shape t Joins m s (text kept to ∷ rest)) (sym a)
      (more (runs (slice_range t kept to) refl p n b) done)

  no_run_starts_off_run_place : (i to j : ℕ) (ps : List Piece) → is_run_place t i ≡ false → i < to
      → LongestRun (is_run_place t) i to → ⊥
  no_run_starts_off_run_place i to j ps e l w = absurd_test (w.each i (omega arith) l) e

  nonempty_run_has_bytes : (i to : ℕ) → i < to → LongestRun (is_run_place t) i to →
      is_empty (slice_range t i to) ≡ false
  nonempty_run_has_bytes i to l w =
      let b = byte_exists is_plain (slice_get t i) (run_place_has_plain_byte t bare i (w.each i (omega arith) l)) in
      ap is_empty (range_begins_with_byte_at_start t i to b.0 l b.1)

  bytes_of_run_are_plain : (i to : ℕ) → i < to → LongestRun (is_run_place t) i to →
      list_all is_plain (slice_range t i to) ≡ true
  bytes_of_run_are_plain i to l w =
      range_passes_where_each_place_passes t is_plain i to (omega arith)
      (λ k x y. run_place_has_plain_byte t bare k (w.each k x y))

  -- after a placeable
  pieces_after_placeable_have_shape : (i : ℕ) (ps : List Piece) (n : ℕ) (e : Ending) (j : ℕ) (rest : List Item) →
      PiecesAt t Joins i ps n →
      EndingAt t Joins n e j → MayFollowEnding t Joins m e rest → Shape t Joins m after_placeable
      (with_ending ps e ++ rest)
  pieces_after_placeable_have_shape i [] n e j rest (no_piece x) (lf_ends h) a =
      more (ends_line [] (range_of_one_byte_is_that_byte t n lf (tested_byte_is_at_place t lf n h)) refl tt) a
  pieces_after_placeable_have_shape i [] n e j rest (no_piece x) (crlf_ends c h) a =
      more (ends_line [] (range_of_lone_lf_is_lf n h) refl tt) a
  pieces_after_placeable_have_shape i [] n e j rest (no_piece x) (text_ends h) a =
      subst (Shape t Joins m after_placeable) (sym a) done
  pieces_after_placeable_have_shape i (run from to ∷ []) n e j rest (a_run l w (no_piece x)) y a =
      run_at_end_has_shape after_placeable i n e j rest (omega arith) (bytes_of_run_are_plain i n l w)
      (nonempty_run_has_bytes i n l w) tt y a
  pieces_after_placeable_have_shape i (run from to ∷ placed z ∷ ps) n e j rest (a_run l w (a_placeable {m = k} g h)) y
      a =
      more (runs (slice_range t i to) refl (bytes_of_run_are_plain i to l w) (nonempty_run_has_bytes i to l w) tt)
      (more (places g) (pieces_after_placeable_have_shape k ps n e j rest h y a))
  pieces_after_placeable_have_shape i (run from to ∷ run from' to' ∷ ps) n e j rest (a_run l w (a_run l' w' h)) y a =
      absurd (no_run_starts_off_run_place to to' j ps w.longest l' w')
  pieces_after_placeable_have_shape i (placed z ∷ ps) n e j rest (a_placeable {m = k} g h) y a =
      more (places g) (pieces_after_placeable_have_shape k ps n e j rest h y a)

  -- a line that begins with a run, with the spaces that are kept before it
  run_before_pieces_has_shape : (s : ElementPosition) (kept first to : ℕ) (ps : List Piece) (n : ℕ) (e : Ending) (j : ℕ)
      (rest : List Item) →
      kept ≤ to → list_all is_plain (slice_range t kept to) ≡ true → is_empty (slice_range t kept to) ≡ false →
      BeginsElement m s (slice_range t kept to) →
      is_run_place t to ≡ false → PiecesAt t Joins to ps n → EndingAt t Joins n e j → MayFollowEnding t Joins m e rest →
      Shape t Joins m s (with_ending (run kept to ∷ ps) e ++ rest)
  run_before_pieces_has_shape s kept first to [] n e j rest l p o b z (no_piece x) y a =
      run_at_end_has_shape s kept n e j rest l p o b y a
  run_before_pieces_has_shape s kept first to (placed v ∷ ps) n e j rest l p o b z (a_placeable {m = k} g h) y a =
      more (runs (slice_range t kept to) refl p o b)
      (more (places g) (pieces_after_placeable_have_shape k ps n e j rest h y a))
  run_before_pieces_has_shape s kept first to (run from' to' ∷ ps) n e j rest l p o b z (a_run l' w' h) y a =
      absurd (no_run_starts_off_run_place to to' j ps z l' w')

  -- the bytes of an ending say that a line end begins there
  byte_lf_is_eol : (i : ℕ) → has_byte t lf i ≡ true → has_eol t i ≡ true
  byte_lf_is_eol i e = rw e refl

  -- where the spaces of a line and its first byte are
  pub record HeadAt (kept first byte : ℕ) : Type 0 where
    pub on : kept ≤ first
    pub leading : (k : ℕ) → kept ≤ k → k < first → has t is_space k ≡ true
    pub in_place : slice_get t first ≡ Some byte
    pub shown : is_space byte ≡ false

  pub run_at_head_is_line_text : (kept first byte to : ℕ) → HeadAt kept first byte → first < to →
      LongestRun (is_run_place t) first to → LineText t bare kept first to byte
  run_at_head_is_line_text kept first byte to h l w =
      run_after_kept_indent_is_line_text t bare kept first to byte h.on l h.leading w h.in_place h.shown

  -- a later line
  items_of_later_line_have_shape : (kept first byte : ℕ) (ps : List Piece) (n : ℕ) (e : Ending) (j : ℕ)
      (rest : List Item) → HeadAt kept first byte → (is_run_place t first ≡ true → is_leading_mark byte ≡ false) →
      PiecesAt t Joins first ps n → EndingAt t Joins n e j → MayFollowEnding t Joins m e rest →
      (at : ℕ) → Shape t Joins m after_line (items_from One kept at ps e ++ rest)
  items_of_later_line_have_shape kept first byte [] n e j rest h o (no_piece x) (lf_ends y) a at =
      more (blank_line (slice_range t kept n)
      (range_ends_with_its_last_byte t kept n lf h.on (tested_byte_is_at_place t lf n y))
      (range_passes_where_each_place_passes t is_space kept n h.on h.leading)) a
  items_of_later_line_have_shape kept first byte [] n e j rest h o (no_piece x) (crlf_ends c y) a at =
      more (blank_line [] (range_of_lone_lf_is_lf n y) refl) a
  items_of_later_line_have_shape kept first byte [] n e j rest h o (no_piece x) (text_ends y) a at =
      subst (Shape t Joins m after_line) (sym a) done
  items_of_later_line_have_shape kept first byte (run from to ∷ ps) n e j rest h o (a_run l w g) y a at =
      let x = run_at_head_is_line_text kept first byte to h l w in
      let on = h.on in
      run_before_pieces_has_shape after_line kept first to ps n e j rest (omega arith) x.plain x.some
      (x.shown, ap begins_with_mark x.after ∙ o (w.each first (omega arith) l)) w.longest g y a
  items_of_later_line_have_shape kept first byte (placed z ∷ ps) n e j rest h o (a_placeable {m = k} g x) y a at =
      more (places g) (pieces_after_placeable_have_shape k ps n e j rest x y a)

  -- the first line, where there is nothing on the line above it
  pieces_after_kept_indent_have_shape : (kept first byte : ℕ) (ps : List Piece) (n : ℕ) (e : Ending) (j : ℕ)
      (rest : List Item) →
      HeadAt kept first byte → has_eol t first ≡ false →
      ((from to : ℕ) (qs : List Piece) → ps ≡ run from to ∷ qs → (m ≡ true) ⊎ (kept ≡ first)) →
      PiecesAt t Joins first ps n → EndingAt t Joins n e j → MayFollowEnding t Joins m e rest →
      (at : ℕ) → Shape t Joins m opening (items_from One kept at ps e ++ rest)
  pieces_after_kept_indent_have_shape kept first byte [] n e j rest h o s (no_piece x) (lf_ends y) a at =
      absurd_test (byte_lf_is_eol n y) o
  pieces_after_kept_indent_have_shape kept first byte [] n e j rest h o s (no_piece x) (crlf_ends c y) a at =
      absurd_test (cr_before_lf_is_eol t bare n c y) o
  pieces_after_kept_indent_have_shape kept first byte [] n e j rest h o s (no_piece x) (text_ends y) a at = let f =
      h.in_place in absurd cc
  pieces_after_kept_indent_have_shape kept first byte (run from to ∷ ps) n e j rest h o s (a_run l w g) y a at =
      let x = run_at_head_is_line_text kept first byte to h l w in
      let on = h.on in
      run_before_pieces_has_shape opening kept first to ps n e j rest (omega arith) x.plain x.some
      (x.shown, begins kept first byte to h l (s from to ps refl)) w.longest g y a
    where
      begins : (kept first byte to : ℕ) → HeadAt kept first byte → first < to → (m ≡ true) ⊎ (kept ≡ first) →
          (m ≡ true) ⊎ (begins_with_space (slice_range t kept to) ≡ false)
      begins kept first byte to h l (inl e) = inl e
      begins kept first byte to h l (inr e) =
          inr (ap (λ k. begins_with_space (slice_range t k to)) e
          ∙ (ap begins_with_space (range_begins_with_byte_at_start t first to byte l h.in_place) ∙ h.shown))
  pieces_after_kept_indent_have_shape kept first byte (placed z ∷ ps) n e j rest h o s (a_placeable {m = k} g x) y a
      at =
      more (places g) (pieces_after_placeable_have_shape k ps n e j rest x y a)

  -- at the text's end no line begins
  pub no_line_at_end : (i first byte : ℕ) → slice_get t i ≡ None → InlineBlank t i first →
      slice_get t first ≡ Some byte → ⊥
  no_line_at_end i first byte e w f = elim (here_or i first w.forward) [
    | inl same ↦ (let g : slice_get t i ≡ Some byte = subst (λ k. slice_get t k ≡ Some byte) (sym same) f in absurd cc)
    | inr l ↦ (let b = byte_exists is_space (slice_get t i) (w.each i (omega arith) l) in let g = b.1 in absurd cc)
  ]
    where
      here_or : (i k : ℕ) → i ≤ k → (i ≡ k) ⊎ (i < k)
      here_or i k l = grind arith

  items_after_ending_have_shape : (common : Option ℕ) (n : ℕ) (e : Ending) (j : ℕ) (ls : List Line) →
      EndingAt t Joins n e j → LinesAt t Joins j ls → Shape t Joins m after_line (flat_map (line_items One common) ls) →
      MayFollowEnding t Joins m e (flat_map (line_items One common) ls)
  items_after_ending_have_shape common n e j ls (lf_ends y) x s = s
  items_after_ending_have_shape common n e j ls (crlf_ends c y) x s = s
  items_after_ending_have_shape common n e j [] (text_ends y) x s = refl
  items_after_ending_have_shape common n e j (l ∷ ls) (text_ends y) (a_line x z) s =
      absurd (no_line_at_end j x.first x.byte y x.leading x.in_place)

  kept_indent_is_inside_blank : (common : Option ℕ) (l : Line) (i first : ℕ) → l.start ≡ i → l.spaces ≡ first - i →
      i ≤ first → (i ≤ common_indent_end common l) × (common_indent_end common l ≤ first)
  kept_indent_is_inside_blank None l i first e f g = (omega arith, omega arith)
  kept_indent_is_inside_blank (Some c) l i first e f g = (omega arith, omega arith)

  pub line_has_head_at_kept_indent : (common : Option ℕ) (i j : ℕ) (l : Line) → (x : LineAt t Joins i l j) →
      HeadAt (common_indent_end common l) x.first x.byte
  line_has_head_at_kept_indent common i j l x =
      let w = x.leading in
      let k = kept_indent_is_inside_blank common l i x.first x.start x.spaces w.forward in
      let k0 = k.0 in
      record {
        on = k.1;
        leading = λ n a b. w.each n (omega arith) b;
        in_place = x.in_place;
        shown = no_space x.first x.byte x.in_place w.longest;
      }
    where
      no_space : (i b : ℕ) → slice_get t i ≡ Some b → has t is_space i ≡ false → is_space b ≡ false
      no_space i b e f = ap (holds is_space) (sym e) ∙ f

  items_of_lines_have_shape : (common : Option ℕ) (i : ℕ) (ls : List Line) → LinesAt t Joins i ls →
      Shape t Joins m after_line (flat_map (line_items One common) ls)
  items_of_lines_have_shape common i [] h = done
  items_of_lines_have_shape common i (l ∷ ls) (a_line {j = j} x h) =
      let rest = flat_map (line_items One common) ls in
      let a = items_after_ending_have_shape common x.end l.ending j ls x.ending h
      (items_of_lines_have_shape common j ls h) in
      items_of_later_line_have_shape (common_indent_end common l) x.first x.byte l.pieces x.end l.ending j rest
      (line_has_head_at_kept_indent common i j l x)
      (λ e. run_of_own_line_begins_with_no_mark t bare (nat_lt i x.first) x.first x.byte x.own e x.in_place) x.pieces
      x.ending a
      (l.start + l.spaces)

  -- The first of the lines below may keep spaces only where the pattern spans lines.
  abbrev pub IsSpareLine : Option ℕ → Option Line → List Line → Type 0
  IsSpareLine common (Some o) ls = Unit {0}
  IsSpareLine common None [] = Unit {0}
  IsSpareLine common None (l ∷ ls) =
      (from to : ℕ) (qs : List Piece) → l.pieces ≡ run from to ∷ qs → (m ≡ true) ⊎
      (common_indent_end common l ≡ l.start + l.spaces)

  abbrev pub IsSpare : Layout → Type 0
  IsSpare y = IsSpareLine (common_indent One y) y.opening y.lines

  abbrev Below : List Line → Layout
  Below ls = record { opening = None; lines = ls }

  abbrev On : ℕ → List Piece → Ending → List Line → Layout
  On i ps e ls = record { opening = Some (record { start = i; spaces = 0; pieces = ps; ending = e }); lines = ls }

  pieces_at_opening_have_shape : (i : ℕ) (ps : List Piece) (n : ℕ) (e : Ending) (j : ℕ) (rest : List Item) →
      has t is_space i ≡ false →
      has_eol t i ≡ false → PiecesAt t Joins i ps n → EndingAt t Joins n e j → MayFollowEnding t Joins m e rest →
      Shape t Joins m opening (with_ending ps e ++ rest)
  pieces_at_opening_have_shape i [] n e j rest f g (no_piece x) (lf_ends y) a = absurd_test (byte_lf_is_eol n y) g
  pieces_at_opening_have_shape i [] n e j rest f g (no_piece x) (crlf_ends c y) a =
      absurd_test (cr_before_lf_is_eol t bare n c y) g
  pieces_at_opening_have_shape i [] n e j rest f g (no_piece x) (text_ends y) a =
      subst (Shape t Joins m opening) (sym a) done
  pieces_at_opening_have_shape i (run from to ∷ ps) n e j rest f g (a_run l w x) y a =
      let b = byte_exists is_plain (slice_get t i) (run_place_has_plain_byte t bare i (w.each i (omega arith) l)) in
      let shown : is_space b.0 ≡ false = ap (holds is_space) (sym b.1) ∙ f in
      let h : HeadAt i i b.0 =
      record { on = omega arith; leading = λ k x y. absurd (omega arith); in_place = b.1; shown = shown } in
      let x' = run_at_head_is_line_text i i b.0 to h l w in
      run_before_pieces_has_shape opening i i to ps n e j rest (omega arith) x'.plain x'.some
      (x'.shown, inr (ap begins_with_space (range_begins_with_byte_at_start t i to b.0 l b.1) ∙ shown)) w.longest x y a
  pieces_at_opening_have_shape i (placed z ∷ ps) n e j rest f g (a_placeable {m = k} h x) y a =
      more (places h) (pieces_after_placeable_have_shape k ps n e j rest x y a)

  items_of_layout_below_have_shape : (common : Option ℕ) (i k j : ℕ) (l : Line) (ls : List Line) → InlineBlank t i k →
      has_eol t k ≡ false → (x : LineAt t Joins i l j) → LinesAt t Joins j ls →
      ((from to : ℕ) (qs : List Piece) → l.pieces ≡ run from to ∷ qs → (m ≡ true) ⊎
      (common_indent_end common l ≡ l.start + l.spaces)) →
      Shape t Joins m opening (line_items One common l ++ flat_map (line_items One common) ls)
  items_of_layout_below_have_shape common i k j l ls w e x h s =
      let rest = flat_map (line_items One common) ls in
      let a = items_after_ending_have_shape common x.end l.ending j ls x.ending h
      (items_of_lines_have_shape common j ls h) in
      let v = x.leading in
      let on = v.forward in
      let start = x.start in
      let spaces = x.spaces in
      let same : k ≡ x.first = inline_blank_end_is_unique i k x.first w v in
      let whole : l.start + l.spaces ≡ x.first = omega arith in
      pieces_after_kept_indent_have_shape (common_indent_end common l) x.first x.byte l.pieces x.end l.ending j rest
      (line_has_head_at_kept_indent common i j l x)
      (subst (λ k. has_eol t k ≡ false) same e) (λ from to qs f. keeps x.first whole (s from to qs f)) x.pieces
      x.ending a (l.start + l.spaces)
    where
      keeps : (first : ℕ) → l.start + l.spaces ≡ first → (m ≡ true) ⊎ (common_indent_end common l ≡ l.start + l.spaces)
          → (m ≡ true) ⊎ (common_indent_end common l ≡ first)
      keeps first e (inl f) = inl f
      keeps first e (inr f) = inr (f ∙ e)

      inline_blank_end_is_unique : (i j k : ℕ) → InlineBlank t i j → InlineBlank t i k → j ≡ k
      inline_blank_end_is_unique i j k w v = longest_run_is_functional.same i j k w v

  pub items_of_layout_have_shape : (y : Layout) → LayoutAt t Joins y → IsSpare y → Shape t Joins m opening (items One y)
  items_of_layout_have_shape y (on_line {i = i} {m = n} {j = j} {ps = ps} {e = e} {ls = ls} f g x z h) s =
      let common = common_indent One (On i ps e ls) in
      pieces_at_opening_have_shape i ps n e j (flat_map (line_items One common) ls) f g x z
      (items_after_ending_have_shape common n e j ls z h (items_of_lines_have_shape common j ls h))
  items_of_layout_have_shape y (below {ls = []} w e h) s = done
  items_of_layout_have_shape y (below {i = i} {k = k} {ls = l ∷ ls} w e (a_line {j = j} x h)) s =
      items_of_layout_below_have_shape (common_indent One (Below (l ∷ ls))) i k j l ls w e x h s
