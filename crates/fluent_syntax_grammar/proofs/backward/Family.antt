-- What was read is fine: lines, patterns and variants; and so all that nests, to any depth. In edition one, where an LF
-- follows every CR.
use Rattle.std.proofs.Common.{◌≡◌, ℕ, zero, suc, ◌+◌, ◌-◌, List, [], ◌∷◌, ◌++◌, Option, Some, None, Bool, true}
use Rattle.std.proofs.Common.{false, refl, sym, ◌∙◌, subst, ap, inl, inr}
use Rattle.std.specs.Prelude.{◌==◌, ◌||◌, ◌&&◌, not, nat_lt, nat_le, slice_get, if◌then◌else◌}
use Rattle.fluent_syntax_tree.specs.Spans.{bytes_at}
use Rattle.fluent_syntax_tree.specs.declared.spans.Span.{Span}
use Rattle.fluent_syntax_tree.specs.declared.edition.Edition.TheVariants.{One}
use Rattle.fluent_syntax_tree.specs.Every.{option_every}
use Rattle.fluent_syntax_tree.specs.Tree.{KeyTree, number_key, key_map, ElementTree, text_element, placeable}
use Rattle.fluent_syntax_tree.specs.Tree.{PatternTree, no_elements, elements, VariantTrees, no_variants, variants}
use Rattle.fluent_syntax_tree.specs.Tree.{variant, variants_map}
use Rattle.fluent_syntax_grammar.specs.Bytes.{lf, cr, is_space}
use Rattle.fluent_syntax_grammar.specs.Places.{holds, has, has_byte, has_eol, after_eol, InlineBlank}
use Rattle.fluent_syntax_grammar.specs.Places.{BlankBlock, no_line, line}
use Rattle.fluent_syntax_grammar.specs.Construct.{Read, ◌>>=◌, goes_on, yields, given, at_place, passed, chosen, first}
use Rattle.fluent_syntax_grammar.specs.Construct.{second, More, no_item, item, many, list_ends, item_and_more}
use Rattle.fluent_syntax_grammar.specs.Tokens.{number}
use Rattle.fluent_syntax_grammar.specs.Family.{Family}
use Rattle.fluent_syntax_grammar.specs.Layout.{Piece, run, placed, Ending, lf_at, crlf_at, Line, Layout}
use Rattle.fluent_syntax_grammar.specs.Elements.{Item, text, placeable_item, items, cut, spelled, if_any, pattern_of}
use Rattle.fluent_syntax_grammar.specs.Lines as lines
use Rattle.fluent_syntax_grammar.specs.Lines.{is_run_place, belongs, ending_of, ending, next_piece_at, next_piece}
use Rattle.fluent_syntax_grammar.specs.Lines.{next_line, no_byte, other_line, own_line}
use Rattle.fluent_syntax_grammar.specs.Expressions.{selector_fault, variants_of_select, select_with, expression}
use Rattle.fluent_syntax_grammar.specs.Patterns.{layout_at, layout, pattern}
use Rattle.fluent_syntax_grammar.specs.Variants.{variant_key, only_star, variants_end, variant_of, variant_after}
use Rattle.fluent_syntax_grammar.specs.Variants.{next_variant, more_variants}
use Rattle.fluent_syntax_grammar.specs.Grammar.{next, within, family}
use Rattle.fluent_syntax_grammar.specs.Written.{Text, is_multiline}
use Rattle.fluent_syntax_grammar.specs.Rules.{pattern_obeys}
use Rattle.fluent_syntax_grammar.specs.Readable.{opening, defaults, readable_rules}
use Rattle.fluent_syntax_grammar.specs.Joined.{is_joined, joined_pattern, joined_after, joined_variants}
use Rattle.fluent_syntax_grammar.specs.RoundTrip.{HasNoBareCr}
use Rattle.fluent_syntax_grammar.proofs.HoareTriple.{yields_reads_its_value_in_place}
use Rattle.fluent_syntax_grammar.proofs.Cuts.{eol_is_lf_or_crlf}
use Rattle.fluent_syntax_grammar.proofs.Functional.{longest_run_is_functional}
use Rattle.fluent_syntax_grammar.proofs.Facts.{holds-some, absurd_test, two_on_is_not_next, next_number_passes_its_test}
use Rattle.fluent_syntax_grammar.proofs.Facts.{longest_run_nonempty}
use Rattle.fluent_syntax_grammar.proofs.Tests.{true_and_true}
use Rattle.fluent_syntax_grammar.proofs.backward.Shapes.{LastItemStays, last_item_of_cut_stays, cut_items_have_shape}
use Rattle.fluent_syntax_grammar.proofs.backward.Shapes.{items_tree, IsWellPlaced}
use Rattle.fluent_syntax_grammar.proofs.backward.Shapes.{items_are_well_placed, joined_pattern_without_joins_is_same}
use Rattle.fluent_syntax_grammar.proofs.backward.Shapes.{Shape}
use Rattle.fluent_syntax_grammar.proofs.backward.Lines.{IsEnd, PiecesAt, no_piece, a_run, a_placeable, EndingAt}
use Rattle.fluent_syntax_grammar.proofs.backward.Lines.{lf_ends, crlf_ends, text_ends, LineAt, LinesAt}
use Rattle.fluent_syntax_grammar.proofs.backward.Lines.{no_line as no_lines, a_line, LayoutAt, on_line, below}
use Rattle.fluent_syntax_grammar.proofs.backward.Layouts.{items_of_layout_have_shape}
use Rattle.fluent_syntax_grammar.proofs.backward.FirstLines.{layout_there_is_spare}
use Rattle.fluent_syntax_grammar.proofs.backward.Words.{read_number_is_number}
use Rattle.fluent_syntax_grammar.proofs.backward.Rules.{Ensures, bind_ensures, bind_ensures_by_second, yields_ensures}
use Rattle.fluent_syntax_grammar.proofs.backward.Rules.{fails_ensures_anything, peek_ensures_by_its_part}
use Rattle.fluent_syntax_grammar.proofs.backward.Rules.{ensures_branch_on, ObeysJoined}
use Rattle.fluent_syntax_grammar.proofs.backward.Rules.{IsPattern, IsKey, IsVariants, ObeysJoinedFamily}
use Rattle.fluent_syntax_grammar.proofs.backward.Rules.{identifier_reads_name_span}
use Rattle.fluent_syntax_grammar.proofs.backward.Rules.{IsInline, placeable_reads_good_expression}
use Rattle.fluent_syntax_grammar.proofs.backward.Rules.{inline_that_is_read_fits_its_start}
use Rattle.fluent_syntax_grammar.proofs.backward.Rules.{more_arguments_read_arguments, Adds, many_ensures_by_its_items}
use Rattle.fluent_syntax_grammar.proofs.backward.Rules.{select_obeys_joined}
use Rattle.fluent_syntax_grammar.proofs.backward.Rules.{inline_obeys_joined}
use Rattle.fluent_syntax_grammar.proofs.backward.Shapes.{IsReadExpression}
use Rattle.fluent_syntax_tree.specs.Tree.{InlineTree, VariantTree}
use Rattle.fluent_syntax_tree.specs.Kind.{Kind}
use Rattle.fluent_syntax_grammar.proofs.Tests.{false_or_left, not_of_false_is_true}
use Rattle.fluent_syntax_grammar.proofs.LineEnds.{no_eol_end_means_no_eol}

-- ---- the pattern that a layout gives

abbrev has_elements : PatternTree Text → Bool
has_elements no_elements = false
has_elements (elements e es) = true

joined_after_has_elements : (v : Text) (p : PatternTree Text) → has_elements (joined_after v p) ≡ true
joined_after_has_elements v no_elements = refl
joined_after_has_elements v (elements (placeable e) es) = refl
joined_after_has_elements v (elements (text_element w) es) = whichever (is_joined v w)
  where
    whichever : (b : Bool) →
        has_elements (if b then elements (text_element (v ++ w)) (joined_pattern es) else elements (text_element v)
        (joined_after w es)) ≡ true
    whichever true = refl
    whichever false = refl

joined_pattern_has_elements : (e : ElementTree Text) (es : PatternTree Text) →
    has_elements (joined_pattern (elements e es)) ≡ true
joined_pattern_has_elements (placeable e) es = refl
joined_pattern_has_elements (text_element v) es = joined_after_has_elements v es

well_pattern_obeys_rules : (p : PatternTree Text) → has_elements p ≡ true → IsWellPlaced (is_multiline p) opening p →
    pattern_obeys (readable_rules One) p ≡ true
well_pattern_obeys_rules no_elements e w = cc
well_pattern_obeys_rules (elements x xs) e w = true_and_true w.position w.obey

module _ (t : List ℕ) (bare : HasNoBareCr t) (Joins : Type 0) (crs : (i : ℕ) → has_byte t cr i ≡ true → Joins) where
  tree_of_items_has_elements : (x : Item) (xs : List Item) →
      has_elements (joined_pattern (items_tree t (x ∷ xs))) ≡ true
  tree_of_items_has_elements (text from to) [] = refl
  tree_of_items_has_elements (text from to) (y ∷ ys) =
      joined_pattern_has_elements (text_element _) (items_tree t (y ∷ ys))
  tree_of_items_has_elements (placeable_item e) xs = refl

  tree_obeys_joined : (x : Item) (xs : List Item) →
      Shape t Joins (is_multiline (joined_pattern (items_tree t (x ∷ xs)))) opening (x ∷ xs) → LastItemStays t (x ∷ xs)
      → ObeysJoined Joins (pattern_obeys (readable_rules One)) joined_pattern (items_tree t (x ∷ xs))
  tree_obeys_joined x xs s k =
      let m = is_multiline (joined_pattern (items_tree t (x ∷ xs))) in
      record {
        obeys =
            well_pattern_obeys_rules (joined_pattern (items_tree t (x ∷ xs))) (tree_of_items_has_elements x xs)
            (items_are_well_placed t Joins m opening (x ∷ xs) tt s k);
        same = λ none. joined_pattern_without_joins_is_same t Joins m none opening (x ∷ xs) s;
      }

  spelled_obeys_joined : (xs : List Item) → Shape t Joins (is_multiline (joined_pattern (items_tree t xs))) opening xs →
      LastItemStays t xs →
      option_every (IsPattern t Joins) (if_any (spelled t xs))
  spelled_obeys_joined [] s k = tt
  spelled_obeys_joined (text from to ∷ []) s k = tree_obeys_joined (text from to) [] s k
  spelled_obeys_joined (text from to ∷ y ∷ ys) s k = tree_obeys_joined (text from to) (y ∷ ys) s k
  spelled_obeys_joined (placeable_item e ∷ xs) s k = tree_obeys_joined (placeable_item e) xs s k

  -- a layout that was read spells a fine pattern, or none
  pub pattern_obeys_joined : (y : Layout) → LayoutAt t Joins y → option_every (IsPattern t Joins) (pattern_of One t y)
  pattern_obeys_joined y x =
      let m = is_multiline (joined_pattern (items_tree t (cut t (items One y)))) in
      spelled_obeys_joined (cut t (items One y))
      (cut_items_have_shape t Joins m opening (items One y)
      (items_of_layout_have_shape t bare Joins crs m y x (layout_there_is_spare t bare Joins crs m y x)))
      (last_item_of_cut_stays t (items One y))

module _ (t : List ℕ) where
  block_ends_before_line_without_eol : (i j : ℕ) → BlankBlock t i j →
      (k : ℕ) × InlineBlank t j k × (after_eol t k ≡ None)
  block_ends_before_line_without_eol i j (no_line {k = k} w e) = (k, w, e)
  block_ends_before_line_without_eol i j (line {m = m} w e b) = block_ends_before_line_without_eol m j b

module _ (t : List ℕ) (Joins : Type 0) where
  ending_by_test_is_lf_or_crlf : (i k j : ℕ) (test : Bool) → (k == i + 1) ≡ test → after_eol t i ≡ Some k → k ≡ j →
      EndingAt t Joins i (if test then lf_at i else crlf_at i) j
  ending_by_test_is_lf_or_crlf i k j true f e s = elim (eol_is_lf_or_crlf t i k e) [
    | inl x ↦ subst (EndingAt t Joins i (lf_at i)) (sym x.1 ∙ s) (lf_ends x.0)
    | inr x ↦ absurd (two_on_is_not_next i k x.2 f)
  ]
  ending_by_test_is_lf_or_crlf i k j false f e s = elim (eol_is_lf_or_crlf t i k e) [
    | inl x ↦ absurd (next_number_passes_its_test i k x.1 f)
    | inr x ↦ subst (EndingAt t Joins i (crlf_at i)) (sym x.2 ∙ s) (crlf_ends x.0 x.1)
  ]

  end_without_eol_has_no_byte : (i : ℕ) → IsEnd t i → after_eol t i ≡ None → slice_get t i ≡ None
  end_without_eol_has_no_byte i (inl e) f = absurd_test e (no_eol_end_means_no_eol t i f)
  end_without_eol_has_no_byte i (inr e) f = e

  read_ending_by_eol_is_ending : (i j : ℕ) (x : Ending) (o : Option ℕ) → IsEnd t i → after_eol t i ≡ o →
      ending_of t i o i (Read x j) → EndingAt t Joins i x j
  read_ending_by_eol_is_ending i j x None n e given = text_ends (end_without_eol_has_no_byte i n e)
  read_ending_by_eol_is_ending i j x (Some k) n e (goes_on {j = m} (passed w) y) =
      let value = yields_reads_its_value_in_place (if k == i + 1 then lf_at i else crlf_at i) x m j y in
      subst (λ x. EndingAt t Joins i x j) value.0
      (ending_by_test_is_lf_or_crlf i k j (k == i + 1) refl e (sym w.there ∙ value.1))

  pub read_ending_is_ending_there : (i j : ℕ) (x : Ending) → IsEnd t i → ending t i (Read x j) → EndingAt t Joins i x j
  read_ending_is_ending_there i j x n (goes_on at_place (chosen y)) =
      read_ending_by_eol_is_ending i j x (after_eol t i) n refl y

  pub pieces_end_where_a_line_ends : (i : ℕ) (ps : List Piece) (j : ℕ) → PiecesAt t Joins i ps j → IsEnd t j
  pieces_end_where_a_line_ends i [] j (no_piece e) = e
  pieces_end_where_a_line_ends i (run from to ∷ ps) j (a_run l w x) = pieces_end_where_a_line_ends to ps j x
  pieces_end_where_a_line_ends i (placed e ∷ ps) j (a_placeable {m = m} g x) = pieces_end_where_a_line_ends m ps j x

  plain_byte_begins_run : (i b : ℕ) → slice_get t i ≡ Some b → has_eol t i ≡ false → (b == 125) ≡ false →
      (b == 123) ≡ false → is_run_place t i ≡ true
  plain_byte_begins_run i b e f g h =
      let no_lf : (b == lf) ≡ false =
      ap (holds (λ c. c == lf)) (sym e) ∙
      false_or_left (has_byte t lf i) (has_byte t cr i && has_byte t lf (i + 1)) f in
      true_and_true
      (holds-some (λ b. not (b == lf || b == 123 || b == 125)) (slice_get t i) b e (rw (no_lf, h, g) refl))
      (not_of_false_is_true (has_eol t i) f)

module _ (t : List ℕ) (bare : HasNoBareCr t) (Joins : Type 0) (crs : (i : ℕ) → has_byte t cr i ≡ true → Joins)
    (R : Family) (h : ObeysJoinedFamily t Joins R) where
  -- the pieces, after one that was read
  abbrev AddsPiece : ℕ → More Piece (Unit {0}) → ℕ → Type 0
  AddsPiece i no_item j = PiecesAt t Joins i [] j
  AddsPiece i (item p u) j = (ps : List Piece) (k : ℕ) → PiecesAt t Joins j ps k → PiecesAt t Joins i (p ∷ ps) k

  read_piece_by_byte_adds_piece : (i j : ℕ) (p : More Piece (Unit {0})) (o : Option ℕ) → slice_get t i ≡ o →
      next_piece_at t R o i (Read p j) → AddsPiece i p j
  read_piece_by_byte_adds_piece i j p None e given = no_piece (inr e)
  read_piece_by_byte_adds_piece i j p (Some b) e (chosen (first f given)) = no_piece (inl f)
  read_piece_by_byte_adds_piece i j p (Some b) e (chosen (second f (first g x))) = elim x [ ]
  read_piece_by_byte_adds_piece i j p (Some b) e
      (chosen (second f (second g (first k (goes_on {j = m} {a = x} y given))))) =
      λ ps n z. a_placeable ((placeable_reads_good_expression t Joins R h).on_read i m x y) z
  read_piece_by_byte_adds_piece i j p (Some b) e
      (chosen (second f
      (second g (second k
      (goes_on (goes_on at_place (goes_on (passed {j = to} w) (goes_on at_place given))) given))))) =
      λ ps n z. a_run (longest_run_nonempty (is_run_place t) i to (plain_byte_begins_run t Joins i b e f g k) w) w z

  read_piece_adds_piece : (i j : ℕ) (p : More Piece (Unit {0})) → next_piece t R i (Read p j) → AddsPiece i p j
  read_piece_adds_piece i j p (chosen x) = read_piece_by_byte_adds_piece i j p (slice_get t i) refl x

  read_list_of_pieces_is_pieces : (u : Unit {0}) (i j : ℕ) (ps : List Piece) →
      many (λ u. next_piece t R) (λ p ps. p ∷ ps) [] u i (Read ps j) → PiecesAt t Joins i ps j
  read_list_of_pieces_is_pieces u i j ps (list_ends x) = read_piece_adds_piece i j no_item x
  read_list_of_pieces_is_pieces u i j ps (item_and_more {later = v} {j = m} {a = p} {rest = rest} x y) =
      read_piece_adds_piece i m (item p v) x rest j (read_list_of_pieces_is_pieces v m j rest y)

  read_pieces_are_pieces_there : (i j : ℕ) (ps : List Piece) → lines.more_pieces t R i (Read ps j) →
      PiecesAt t Joins i ps j
  read_pieces_are_pieces_there i j ps x = read_list_of_pieces_is_pieces tt i j ps x

  line_of_its_parts_is_line_there : (i k b start m n : ℕ) (ps : List Piece) (e' : Ending) → InlineBlank t i k →
      slice_get t k ≡ Some b →
      belongs t (nat_lt i k) k ≡ true → InlineBlank t i start → PiecesAt t Joins start ps m → EndingAt t Joins m e' n →
      LineAt t Joins i (record { start = i; spaces = start - i; pieces = ps; ending = e' }) n
  line_of_its_parts_is_line_there i k b start m n ps e' w e f v p q =
      let same : k ≡ start = longest_run_is_functional.same i k start w v in
      record {
        first = start;
        byte = b;
        end = m;
        start = refl;
        spaces = refl;
        leading = v;
        in_place = subst (λ k. slice_get t k ≡ Some b) same e;
        own = subst (λ k. belongs t (nat_lt i k) k ≡ true) same f;
        pieces = p;
        ending = q;
      }

  read_line_is_line_there : (i k b j : ℕ) (l : Line) → InlineBlank t i k → slice_get t k ≡ Some b →
      belongs t (nat_lt i k) k ≡ true →
      lines.line t R i (Read l j) → LineAt t Joins i l j
  read_line_is_line_there i k b j l w e f
      (goes_on at_place
      (goes_on (passed {j = start} v)
      (goes_on at_place (goes_on {j = m} {a = ps} x (goes_on {j = n} {a = e'} y z))))) =
      let p = read_pieces_are_pieces_there start m ps x in
      let made =
      line_of_its_parts_is_line_there i k b start m n ps e' w e f v p
      (read_ending_is_ending_there t Joins m n e' (pieces_end_where_a_line_ends t Joins start ps m p) y) in
      let value =
      yields_reads_its_value_in_place (record { start = i; spaces = start - i; pieces = ps; ending = e' }) l n j
      z in
      subst (λ l. LineAt t Joins i l j) value.0
      (subst (λ j. LineAt t Joins i (record { start = i; spaces = start - i; pieces = ps; ending = e' }) j) value.1
      made)

  -- the lines, after one that was read
  abbrev AddsLine : ℕ → More Line (Unit {0}) → ℕ → Type 0
  AddsLine i no_item j = LinesAt t Joins i []
  AddsLine i (item l u) j = (ls : List Line) → LinesAt t Joins j ls → LinesAt t Joins i (l ∷ ls)

  read_next_line_adds_line : (i j : ℕ) (l : More Line (Unit {0})) → next_line t R i (Read l j) → AddsLine i l j
  read_next_line_adds_line i j l (no_byte w e) = no_lines
  read_next_line_adds_line i j l (other_line w e f) = no_lines
  read_next_line_adds_line i j l (own_line {k = k} {b = b} w e f (goes_on {j = m} {a = x} y given)) =
      λ ls z. a_line (read_line_is_line_there i k b m x w e f y) z

  read_list_of_lines_is_lines : (u : Unit {0}) (i j : ℕ) (ls : List Line) →
      many (λ u. next_line t R) (λ l ls. l ∷ ls) [] u i (Read ls j) → LinesAt t Joins i ls
  read_list_of_lines_is_lines u i j ls (list_ends x) = read_next_line_adds_line i j no_item x
  read_list_of_lines_is_lines u i j ls (item_and_more {later = v} {j = m} {a = l} {rest = rest} x y) =
      read_next_line_adds_line i m (item l v) x rest (read_list_of_lines_is_lines v m j rest y)

  read_lines_are_lines_there : (i j : ℕ) (ls : List Line) → lines.more_lines t R i (Read ls j) → LinesAt t Joins i ls
  read_lines_are_lines_there i j ls x = read_list_of_lines_is_lines tt i j ls x

  read_layout_by_eol_is_layout : (i j : ℕ) (y : Layout) (o : Option ℕ) → has t is_space i ≡ false → after_eol t i ≡ o →
      layout_at t R o i (Read y j) → LayoutAt t Joins y
  read_layout_by_eol_is_layout i j y None s e
      (goes_on at_place (goes_on {j = m} {a = ps} x (goes_on {j = n} {a = z} w (goes_on {a = ls} v given)))) =
      let p = read_pieces_are_pieces_there i m ps x in
      on_line s (no_eol_end_means_no_eol t i e) p
      (read_ending_is_ending_there t Joins m n z (pieces_end_where_a_line_ends t Joins i ps m p) w)
      (read_lines_are_lines_there n j ls v)
  read_layout_by_eol_is_layout i j y (Some k) s e
      (goes_on (passed {j = m} r) (goes_on (passed {j = n} b) (goes_on {a = ls} v given))) =
      let c = block_ends_before_line_without_eol t m n b in
      below c.1 (no_eol_end_means_no_eol t c.0 c.2) (read_lines_are_lines_there n j ls v)

  read_layout_is_layout_there : (i j : ℕ) (y : Layout) → layout t R i (Read y j) → LayoutAt t Joins y
  read_layout_is_layout_there i j y (goes_on (passed {j = m} w) (chosen x)) =
      read_layout_by_eol_is_layout m j y (after_eol t m) w.longest refl x

  pub pattern_of_family_ensures_is_pattern : Ensures (pattern One t R) (option_every (IsPattern t Joins))
  pattern_of_family_ensures_is_pattern =
      bind_ensures (record { on_read = λ i j y x. read_layout_is_layout_there i j y x })
      (λ y g. yields_ensures (pattern_obeys_joined t bare Joins crs y g))

  -- ---- variants

  read_number_key_is_key : (i j : ℕ) (k : KeyTree Span) → (number t >>= λ v. yields (number_key v)) i (Read k j) →
      IsKey t Joins k
  read_number_key_is_key i j k (goes_on {j = m} {a = v} x given) = (read_number_is_number t i m v x).number

  variant_key_reads_key : Ensures (variant_key t) (IsKey t Joins)
  variant_key_reads_key =
      peek_ensures_by_its_part
      (λ n. ensures_branch_on (λ e. record { on_read = read_number_key_is_key })
      (λ e. bind_ensures (identifier_reads_name_span t Joins) (λ v g. yields_ensures g)))

  empty_variants_are_variants : (starred : Bool) → IsVariants t Joins starred no_variants
  empty_variants_are_variants starred =
      record { fine = record { obeys = refl; same = λ none. refl }; none = λ e. refl; one = refl }

  one_is_at_most_one : (n : ℕ) → n ≡ 0 → nat_le (1 + n) 1 ≡ true
  one_is_at_most_one n e = rw e refl

  equal_parts_make_equal_variants : (key : KeyTree Span)
      (default : Bool) {p q : PatternTree Text} {us vs : VariantTrees Text} → p ≡ q → us ≡ vs →
      variants (variant (key_map (bytes_at t) key) p default) us
      ≡ variants (variant (key_map (bytes_at t) key) q default) vs
  equal_parts_make_equal_variants key default e f = cc (e, f)

  variants_with_one_more_are_variants : (starred star : Bool) (key : KeyTree Span) (value : PatternTree Span)
      (vs : VariantTrees Span) → (starred && star) ≡ false → IsKey t Joins key → IsPattern t Joins value →
      IsVariants t Joins (starred || star) vs → IsVariants t Joins starred (variants (variant key value star) vs)
  variants_with_one_more_are_variants true true key value vs e k p g = absurd cc
  variants_with_one_more_are_variants false true key value vs e k p g =
      let f = g.fine in
      record {
        fine =
            record {
              obeys = true_and_true (true_and_true k p.obeys) f.obeys;
              same = λ none. equal_parts_make_equal_variants key true (p.same none) (f.same none);
            };
        none = λ y. absurd cc;
        one = one_is_at_most_one (defaults (joined_variants (variants_map (bytes_at t) vs))) (g.none refl);
      }
  variants_with_one_more_are_variants true false key value vs e k p g =
      let f = g.fine in
      record {
        fine =
            record {
              obeys = true_and_true (true_and_true k p.obeys) f.obeys;
              same = λ none. equal_parts_make_equal_variants key false (p.same none) (f.same none);
            };
        none = λ y. g.none refl;
        one = g.one;
      }
  variants_with_one_more_are_variants false false key value vs e k p g =
      let f = g.fine in
      record {
        fine =
            record {
              obeys = true_and_true (true_and_true k p.obeys) f.obeys;
              same = λ none. equal_parts_make_equal_variants key false (p.same none) (f.same none);
            };
        none = λ y. absurd cc;
        one = g.one;
      }

  -- what is asked of the next variant
  abbrev IsNext : Bool → More (VariantTree Span) Bool → Type 0
  IsNext = Adds (next_variant One t R) variants no_variants (IsVariants t Joins)

  variant_of_reads_next_variant : (starred star : Bool) (key : KeyTree Span) (o : Option (PatternTree Span)) →
      (starred && star) ≡ false → IsKey t Joins key → option_every (IsPattern t Joins) o →
      Ensures (variant_of t starred star key o) (IsNext starred)
  variant_of_reads_next_variant starred star key None e k p = fails_ensures_anything
  variant_of_reads_next_variant starred star key (Some value) e k p =
      bind_ensures_by_second
      (λ u. yields_ensures (λ vs g. variants_with_one_more_are_variants starred star key value vs e k p g))

  variant_after_reads_next_variant : (starred star : Bool) → (starred && star) ≡ false →
      Ensures (variant_after One t R starred star) (IsNext starred)
  variant_after_reads_next_variant starred star e =
      bind_ensures_by_second (λ u.
      bind_ensures variant_key_reads_key
      (λ key k. bind_ensures_by_second
      (λ u. bind_ensures_by_second
      (λ u. bind_ensures pattern_of_family_ensures_is_pattern
      (λ o p. variant_of_reads_next_variant starred star key o e k p)))))

  only_star_reads_one_star : (starred star : Bool) → Ensures (only_star starred star) (λ u. (starred && star) ≡ false)
  only_star_reads_one_star starred star = ensures_branch_on (λ e. fails_ensures_anything) (λ e. yields_ensures e)

  variants_end_reads_next_variant : (starred star : Bool) → Ensures (variants_end One starred star) (IsNext starred)
  variants_end_reads_next_variant starred star =
      ensures_branch_on (λ e. yields_ensures (empty_variants_are_variants starred)) (λ e. fails_ensures_anything)

  more_variants_read_variants : (starred : Bool) → Ensures (more_variants One t R starred) (IsVariants t Joins starred)
  more_variants_read_variants =
      many_ensures_by_its_items (next_variant One t R) variants no_variants (IsVariants t Joins)
      (λ starred. bind_ensures_by_second (λ star.
      bind_ensures (only_star_reads_one_star starred star)
      (λ u e. bind_ensures_by_second
      (λ bracket. ensures_branch_on (λ y. variant_after_reads_next_variant starred star e)
      (λ y. variants_end_reads_next_variant starred star)))))

  -- ---- expressions

  variants_of_select_read_variants : Ensures (variants_of_select One t R) (IsVariants t Joins false)
  variants_of_select_read_variants =
      bind_ensures_by_second
      (λ u. bind_ensures_by_second
      (λ u. bind_ensures_by_second (λ u. bind_ensures_by_second (λ u. more_variants_read_variants false))))

  select_reads_good_expression : (e : InlineTree Span) (o : Option Kind) → IsInline t Joins e → selector_fault e ≡ o →
      Ensures (select_with One t R e o) (IsReadExpression t Joins)
  select_reads_good_expression e None f k =
      bind_ensures variants_of_select_read_variants
      (λ vs g. yields_ensures (select_obeys_joined t Joins R h e vs f k g))
  select_reads_good_expression e (Some x) f k = fails_ensures_anything

  pub expression_reads_good_expression : Ensures (expression One t R) (IsReadExpression t Joins)
  expression_reads_good_expression =
      bind_ensures (record { on_read = λ i j e x. (inline_that_is_read_fits_its_start t Joins R h i j e x).0 })
      (λ e f. bind_ensures_by_second (λ u. bind_ensures_by_second (λ arrow. ensures_branch_on
      (λ y. select_reads_good_expression e (selector_fault e) f refl)
      (λ y. ensures_branch_on (λ z. fails_ensures_anything)
      (λ z. yields_ensures (inline_obeys_joined t Joins R h e f z))))))

  next_obeys_joined : ObeysJoinedFamily t Joins (next One t R)
  next_obeys_joined = record {
    expression = expression_reads_good_expression;
    argument_list =
        more_arguments_read_arguments t Joins R h [];
  }

module _ (t : List ℕ) (bare : HasNoBareCr t) (Joins : Type 0) (crs : (i : ℕ) → has_byte t cr i ≡ true → Joins) where
  depth_zero_obeys_joined : ObeysJoinedFamily t Joins (within One t zero)
  unfolding within
  depth_zero_obeys_joined = record {
    expression = record { on_read = λ i j a x. absurd x };
    argument_list = record { on_read = λ i j a x. absurd x };
  }

  next_depth_obeys_joined : (n : ℕ) → ObeysJoinedFamily t Joins (within One t n) →
      ObeysJoinedFamily t Joins (within One t (suc n))
  unfolding within
  next_depth_obeys_joined n h = next_obeys_joined t bare Joins crs (within One t n) h

  family_within_depth_obeys_joined : (n : ℕ) → ObeysJoinedFamily t Joins (within One t n)
  family_within_depth_obeys_joined zero = depth_zero_obeys_joined
  family_within_depth_obeys_joined (suc n) = next_depth_obeys_joined n (family_within_depth_obeys_joined n)

  -- what nests is fine, to any depth
  pub family_obeys_joined : ObeysJoinedFamily t Joins (family One t)
  unfolding family
  family_obeys_joined = record {
    expression = record { on_read = λ i j a x. (family_within_depth_obeys_joined x.0).expression.on_read i j a x.1 };
    argument_list =
        record { on_read = λ i j a x. (family_within_depth_obeys_joined x.0).argument_list.on_read i j a x.1 };
  }
