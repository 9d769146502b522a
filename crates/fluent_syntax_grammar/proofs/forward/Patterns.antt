-- Multiline patterns are read back, if their placeables are.
use Rattle.std.proofs.Common.{◌≡◌, ℕ, zero, suc, ◌+◌, ◌*◌, ◌≤◌, List, [], ◌∷◌, ◌++◌, length, map, Option, Some, None}
use Rattle.std.proofs.Common.{Bool, true, false, refl, sym, ◌∙◌, subst, ap, append_assoc, arith, append-nil}
use Rattle.std.proofs.lemmas.Bool.{false≢true}
use Rattle.std.specs.Prelude.{replicate, option_map, ◌||◌, ◌&&◌, not}
use Rattle.std.specs.List.{flat_map, list_all, list_any}
use Rattle.fluent_syntax_tree.specs.declared.edition.Edition.TheVariants.{One, Two}
use Rattle.fluent_syntax_grammar.proofs.forward.Runs.{is_run_byte, ends_in_cr_before, TextForm, alone, with_lf}
use Rattle.fluent_syntax_grammar.proofs.forward.Runs.{text_is_run_or_run_with_lf}
use Rattle.fluent_syntax_tree.specs.Tree.{ExpressionTree, ElementTree, text_element, placeable, PatternTree}
use Rattle.fluent_syntax_tree.specs.Tree.{no_elements, elements, pattern_map}
use Rattle.fluent_syntax_tree.specs.Spans.{bytes_at}
use Rattle.fluent_syntax_tree.specs.declared.edition.Edition.{Edition}
use Rattle.fluent_syntax_grammar.specs.PatternTexts.{ends_in_lf, is_spaces, after_spaces, begins_with_space}
use Rattle.fluent_syntax_grammar.specs.Bytes.{lf, cr, space, is_space}
use Rattle.fluent_syntax_grammar.specs.Places.{holds, BlankBlock, no_line}
use Rattle.fluent_syntax_grammar.proofs.forward.Selects.{appended_spaces_are_spaces, replicated_spaces_are_spaces}
use Rattle.fluent_syntax_grammar.specs.Construct.{Read, goes_on, given, passed, chosen}
use Rattle.fluent_syntax_grammar.specs.Elements.{is_nonblank, line_items, items, pattern_of, cut, spelled, if_any}
use Rattle.fluent_syntax_grammar.specs.Patterns.{layout_at, layout}
use Rattle.fluent_syntax_grammar.specs.Layout.{Line, Layout, least, least_with}
use Rattle.fluent_syntax_grammar.specs.Grammar.{family}
use Rattle.fluent_syntax_grammar.specs.Grammar as grammar
use Rattle.fluent_syntax_grammar.specs.Written.{Text, indent, is_leading_mark, has_leading_mark, begins_with_mark}
use Rattle.fluent_syntax_grammar.specs.Written.{is_last, last_of, is_multiline}
use Rattle.fluent_syntax_grammar.specs.Readable.{ElementPosition, opening, after_line, after_placeable, are_elements}
use Rattle.fluent_syntax_grammar.specs.Readable.{is_pattern, is_text, indents, may_be_first, begins_with_placeable}
use Rattle.fluent_syntax_grammar.specs.Canonical.{line_indents, are_flush, hides_mark, first_position, is_flush}
use Rattle.fluent_syntax_grammar.proofs.Facts.{and_gives_left, and_gives_right, right_of_false_and_is_false}
use Rattle.fluent_syntax_grammar.proofs.Facts.{same_by_test}
use Rattle.fluent_syntax_grammar.proofs.Tests.{true_and_true, parted_by_test}
use Rattle.fluent_syntax_grammar.proofs.SuffixAt.{SuffixAt, first, suffix_by_equality, rest_past_front, suffix_byte_run}
use Rattle.fluent_syntax_grammar.proofs.SuffixAt.{next_of_suffix}
use Rattle.fluent_syntax_grammar.proofs.SuffixAt.{suffix_has_no_after_eol}
use Rattle.fluent_syntax_grammar.proofs.forward.Reading.{Reads}
use Rattle.fluent_syntax_grammar.proofs.marks.WrittenBytes.{element_bytes, elements_bytes, line_indent, pattern_bytes}
use Rattle.fluent_syntax_grammar.proofs.forward.Entries.{PatternReadsBack}
use Rattle.fluent_syntax_grammar.proofs.forward.Lines.{Ends, line_end_at_lf_is_one_byte}
use Rattle.fluent_syntax_grammar.proofs.forward.Lines.{inline_blank_without_space_is_empty}
use Rattle.fluent_syntax_grammar.proofs.forward.Pieces.{Starts}
use Rattle.fluent_syntax_grammar.proofs.forward.Spells.{items_spell_their_pattern}
use Rattle.fluent_syntax_grammar.proofs.forward.OneLine.{ElementsReadBack, OpensAt, run_opens_at_its_place}
use Rattle.fluent_syntax_grammar.proofs.forward.OneLine.{brace_opens_at_its_place}
use Rattle.fluent_syntax_grammar.proofs.forward.OneLine.{bytes_of_placeable_begin_with_brace, plain_no_cr}
use Rattle.fluent_syntax_grammar.proofs.forward.OneLine.{opening_reads_back}
use Rattle.fluent_syntax_grammar.proofs.forward.Multiline.{Fit, fixed, lone, lines_mid}
use Rattle.fluent_syntax_grammar.proofs.forward.Multiline.{elements_read_back_from_line_start}
use Rattle.fluent_syntax_grammar.proofs.forward.Multiline.{text_splits_into_spaces_and_rest}
use Rattle.fluent_syntax_grammar.proofs.forward.Multiline.{text_with_lf_ends_not_plainly, gap_is_blank}
use Rattle.fluent_syntax_grammar.proofs.forward.Multiline.{spaces_and_lf_are_not_spaces}
use Rattle.fluent_syntax_grammar.proofs.forward.Runs.{lf_is_taken_off}
use Rattle.fluent_syntax_grammar.proofs.forward.Multiline.{text_of_spaces_is_blank, no_lf_ends_run, last_of-gap}
use Rattle.fluent_syntax_grammar.proofs.forward.Multiline.{rest_of_run_is_run, no_text_follows_text_without_lf}
use Rattle.fluent_syntax_grammar.proofs.forward.Multiline.{text_element_is_text, text_of_elements_may_occur}
use Rattle.fluent_syntax_grammar.proofs.forward.Multiline.{text_may_precede_what_follows}
use Rattle.fluent_syntax_grammar.proofs.forward.Multiline.{elements_after_text_are_elements}
use Rattle.fluent_syntax_grammar.proofs.Tests.{and_with_false_is_false, not_true_is_false}

-- ---- the least of the shifted numbers

least_of_shifted_is_shifted_least : (s : ℕ) (ns : List ℕ) →
    least (map (λ n. s + n) ns) ≡ option_map (λ n. s + n) (least ns)
least_of_shifted_is_shifted_least s [] = refl
least_of_shifted_is_shifted_least s (n ∷ ns) =
    ap (λ o. Some (least_with (s + n) o)) (least_of_shifted_is_shifted_least s ns) ∙
    ap Some (least_with_shifted_is_shifted n (least ns))
  where
    least_with_shifted_is_shifted : (n : ℕ) (o : Option ℕ) →
        least_with (s + n) (option_map (λ n. s + n) o) ≡ s + least_with n o
    least_with_shifted_is_shifted n None = refl
    least_with_shifted_is_shifted n (Some m) = omega arith

no_least_is_empty : (ns : List ℕ) → least ns ≡ None → ns ≡ []
no_least_is_empty [] e = refl
no_least_is_empty (n ∷ ns) e = absurd cc

-- the common indent of a flush pattern at a level: it fits, and it is the least of the counts
pub record Chosen (edition : Edition) (shift : ℕ) (s : ElementPosition) (p : PatternTree Text) : Type 0 where
  pub common : Option ℕ
  pub fit : Fit edition shift common s p
  pub least_is : least (map (λ n. shift + n) (line_indents edition s p)) ≡ common

chosen_indent_by_least : (edition : Edition) (shift : ℕ) (s : ElementPosition) (p : PatternTree Text) (o : Option ℕ) →
    least (line_indents edition s p) ≡ o → are_flush o s p ≡ true → Chosen edition shift s p
chosen_indent_by_least edition shift s p None e f =
    let none = no_least_is_empty (line_indents edition s p) e in
    record { common = None; fit = lone f none; least_is = ap (λ ns. least (map (λ n. shift + n) ns)) none }
chosen_indent_by_least edition shift s p (Some n) e f =
    let zero_n : n ≡ 0 = same_by_test n 0 f in
    let at : Some (shift + n) ≡ Some shift = ap Some (plus_zero n zero_n) in
    record {
      common = Some shift;
      fit = fixed;
      least_is = least_of_shifted_is_shifted_least shift (line_indents edition s p) ∙ ap (option_map (λ n. shift + n)) e
          ∙ at;
    }
  where
    plus_zero : (n : ℕ) → n ≡ 0 → shift + n ≡ shift
    plus_zero n e = omega arith

pub flush_is_chosen : (edition : Edition) (shift : ℕ) (s : ElementPosition) (p : PatternTree Text) →
    are_flush (least (line_indents edition s p)) s p ≡ true → Chosen edition shift s p
flush_is_chosen edition shift s p f = chosen_indent_by_least edition shift s p (least (line_indents edition s p)) refl f

-- ---- a pattern that opens within its line

module _ (edition : Edition) (t : List ℕ) (level : ℕ) (tail rest : List ℕ) (ends : Ends tail rest)
    (deep : 1 ≤ length (indent (level + 1))) where
  mark_opens_at_its_place : (i b : ℕ) (bs : List ℕ) → is_leading_mark b ≡ true → SuffixAt t i (b ∷ bs) →
      OpensAt t i (b ∷ bs)
  mark_opens_at_its_place i b bs e l =
      record {
        no_space = parted_by_test is_leading_mark b space e refl;
        no_eol =
            suffix_has_no_after_eol l (parted_by_test is_leading_mark b lf e refl)
            (parted_by_test is_leading_mark b cr e refl);
      }

  pattern_with_leading_mark_opens : (e : ElementTree Text) (es : PatternTree Text) (i : ℕ) →
      has_leading_mark (elements e es) ≡ true →
      SuffixAt t i (elements_bytes (level + 1) false (elements e es) (lf ∷ tail)) →
      OpensAt t i (elements_bytes (level + 1) false (elements e es) (lf ∷ tail))
  pattern_with_leading_mark_opens (text_element []) es i m l = absurd cc
  pattern_with_leading_mark_opens (text_element (b ∷ bs)) es i m l = mark_opens_at_its_place i b _ m l
  pattern_with_leading_mark_opens (placeable x) es i m l = absurd cc

  -- with a leading mark
  marked_reads_back : (e : ElementTree Text) (es : PatternTree Text) (i : ℕ) → has_leading_mark (elements e es) ≡ true →
      are_elements edition true opening (elements e es) ≡ true →
      are_flush (least (line_indents edition after_placeable (elements e es))) after_placeable (elements e es) ≡ true →
      ElementsReadBack edition t (level + 1) (elements e es) →
      SuffixAt t i (space ∷ elements_bytes (level + 1) false (elements e es) (lf ∷ tail)) →
      Reads t (grammar.pattern edition t) (option_map (pattern_map (bytes_at t))) i (Some (elements e es)) rest
  marked_reads_back e es i m g f h l =
      let c = flush_is_chosen edition (length (indent (level + 1))) after_placeable (elements e es) f in
      let n = next_of_suffix l in
      opening_reads_back edition t c.common
      (map (λ n. length (indent (level + 1)) + n) (line_indents edition after_placeable (elements e es))) e es i
      (elements_bytes (level + 1) false (elements e es) (lf ∷ tail)) rest c.least_is l
      (pattern_with_leading_mark_opens e es (i + 1) m n)
      (lines_mid edition t (level + 1) c.common tail rest ends deep (elements e es) opening h g c.fit (i + 1) n)

-- ---- a pattern that opens a line

-- the first element, said of a later line
opening_elements_may_be_at_line : (edition : Edition) (e : ElementTree Text) (es : PatternTree Text) →
    hides_mark (elements e es) ≡ false →
    has_leading_mark (elements e es) ≡ false → are_elements edition true opening (elements e es) ≡ true →
    are_elements edition true after_line (elements e es) ≡ true
opening_elements_may_be_at_line edition (placeable x) es a b g = g
opening_elements_may_be_at_line edition (text_element v) es a b g =
    true_and_true (and_gives_left (is_text v) _ g)
    (true_and_true (text_without_mark_may_occur v (is_spaces v) refl (and_gives_left (may_be_first edition true v es) _
    (and_gives_right (is_text v) _ g))
    (text_that_hides_no_mark_has_none v a b))
    (and_gives_right (may_be_first edition true v es) _ (and_gives_right (is_text v) _ g)))
  where
    text_that_hides_no_mark_has_none : (v : Text) → (begins_with_space v && begins_with_mark (after_spaces v)) ≡ false →
        begins_with_mark v ≡ false → begins_with_mark (after_spaces v) ≡ false
    text_that_hides_no_mark_has_none [] a b = refl
    text_that_hides_no_mark_has_none (c ∷ v) a b = no_mark_at c v (is_space c) refl a b
      where
        no_mark_at : (c : ℕ) (v : Text) (x : Bool) → is_space c ≡ x →
            (is_space c && begins_with_mark (after_spaces (c ∷ v))) ≡ false → begins_with_mark (c ∷ v) ≡ false →
            begins_with_mark (after_spaces (c ∷ v)) ≡ false
        no_mark_at c v true e a b =
            right_of_false_and_is_false (is_space c) (begins_with_mark (after_spaces (c ∷ v))) a e
        no_mark_at c v false e a b = rw e b

    text_without_mark_may_occur : (v : Text) (x : Bool) → is_spaces v ≡ x →
        (is_nonblank v || indents edition v es) ≡ true → begins_with_mark (after_spaces v) ≡ false →
        ((not (is_spaces v) || indents edition v es) && not (begins_with_mark (after_spaces v))) ≡ true
    text_without_mark_may_occur v false e f m = rw (e, m) refl
    text_without_mark_may_occur v true e f m =
        rw (e, m) (true_and_true (sym (ap (λ b. b || indents edition v es) (text_of_spaces_is_blank v e)) ∙ f) refl)

opening_flush_is_line_flush : (edition : Edition) (e : ElementTree Text) (es : PatternTree Text) (o : Option ℕ) →
    are_flush o opening (elements e es) ≡ true → are_flush o after_line (elements e es) ≡ true
opening_flush_is_line_flush edition e es (Some n) f = f
opening_flush_is_line_flush edition (text_element v) es None f = f
opening_flush_is_line_flush edition (placeable x) es None f = f

opening_indents_as_at_line : (edition : Edition) (e : ElementTree Text) (es : PatternTree Text) →
    line_indents edition opening (elements e es) ≡ line_indents edition after_line (elements e es)
opening_indents_as_at_line edition (text_element v) es = refl
opening_indents_as_at_line edition (placeable x) es = refl

module _ (edition : Edition) (t : List ℕ) where
  -- the layout of a pattern that opens a line
  layout_of_lines_below_is_read : (i end : ℕ) (ls : List Line) (bs : List ℕ) → SuffixAt t i (lf ∷ bs) →
      BlankBlock t (i + 1) (i + 1) → grammar.more_lines edition t (i + 1) (Read ls end) →
      layout t (family edition t) i (Read (record { opening = None; lines = ls }) end)
  layout_of_lines_below_is_read i end ls bs l b m =
      let y : Layout = record { opening = None; lines = ls } in
      goes_on (passed (inline_blank_without_space_is_empty edition t refl l))
      (chosen (subst (λ o. layout_at t (family edition t) o i (Read y end))
      (sym (line_end_at_lf_is_one_byte edition t l))
      (goes_on (passed (record { there = refl })) (goes_on (passed b) (goes_on m given)))))

  -- it is read back, if its lines are
  opened_reads_back :
      (common : Option ℕ) (numbers : List ℕ) (e : ElementTree Text) (es : PatternTree Text) (i : ℕ) (bs rest : List ℕ) →
      least numbers ≡ common → SuffixAt t i (lf ∷ bs) → BlankBlock t (i + 1) (i + 1) →
      Starts edition t common (elements e es) numbers (i + 1) rest →
      Reads t (grammar.pattern edition t) (option_map (pattern_map (bytes_at t))) i (Some (elements e es)) rest
  opened_reads_back common numbers e es i bs rest c l b m =
      let y : Layout = record { opening = None; lines = m.lines } in
      let same : items edition y ≡ flat_map (line_items edition common) m.lines =
      ap (λ c. flat_map (line_items edition c) m.lines) (ap least m.counts ∙ c) in
      record {
        value = pattern_of edition t y;
        end = m.end;
        reads = goes_on (layout_of_lines_below_is_read i m.end m.lines bs l b m.reads) given;
        spells =
            ap (λ xs. option_map (pattern_map (bytes_at t)) (if_any (spelled t (cut t xs)))) same
            ∙ items_spell_their_pattern t (flat_map (line_items edition common) m.lines) e es m.spells;
        rest = m.left;
      }

-- ---- the first line is not blank

second_of_or_is_true : (x y : Bool) → x ≡ false → (x || y) ≡ true → y ≡ true
second_of_or_is_true false y e f = f
second_of_or_is_true true y e f = cc

indenting_text_is_spaces : (edition : Edition) (v : Text) (es : PatternTree Text) → indents edition v es ≡ true →
    (is_spaces v ≡ true) × (begins_with_placeable es ≡ true)
indenting_text_is_spaces One v es e = absurd cc
indenting_text_is_spaces Two v es e = (and_gives_left (is_spaces v) _ e, and_gives_right (is_spaces v) _ e)

module _ (edition : Edition) (t : List ℕ) (level : ℕ) (tail : List ℕ) where
  no_block_is_before_opening : (i : ℕ) (gap : List ℕ) (bs : List ℕ) → list_all is_space gap ≡ true →
      OpensAt t (i + length gap) bs → SuffixAt t i (gap ++ bs) → BlankBlock t i i
  no_block_is_before_opening i gap bs a o l = no_line (suffix_byte_run is_space gap bs a o.no_space l) o.no_eol

  blank_block_before_placeable_is_empty : (i : ℕ) (gap : List ℕ) (e : ExpressionTree Text) (rest : List ℕ) →
      list_all is_space gap ≡ true →
      SuffixAt t i (gap ++ element_bytes level (placeable e) rest) → BlankBlock t i i
  blank_block_before_placeable_is_empty i gap e rest a l =
      let x = bytes_of_placeable_begin_with_brace level e rest in
      no_block_is_before_opening i gap (element_bytes level (placeable e) rest) a
      (brace_opens_at_its_place edition t (i + length gap) (element_bytes level (placeable e) rest) x.rest x.are
      (rest_past_front gap l)) l

  no_block_is_before_first_run : (i : ℕ) (gap : List ℕ) (b : ℕ) (bs ys : List ℕ) →
      list_all is_space (indent level ++ gap) ≡ true →
      is_space b ≡ false → list_all is_run_byte (b ∷ bs) ≡ true → ends_in_cr_before (b ∷ bs) ys ≡ false →
      SuffixAt t i (indent level ++ ((gap ++ (b ∷ bs)) ++ ys)) → BlankBlock t i i
  no_block_is_before_first_run i gap b bs ys a s r c l =
      let whole : indent level ++ ((gap ++ (b ∷ bs)) ++ ys) ≡ (indent level ++ gap) ++ (b ∷ (bs ++ ys)) =
      ap (λ v. indent level ++ v) (append_assoc gap (b ∷ bs) ys)
      ∙ sym (append_assoc (indent level) gap (b ∷ (bs ++ ys))) in
      let m = suffix_by_equality whole l in
      no_block_is_before_opening i (indent level ++ gap) (b ∷ (bs ++ ys)) a
      (run_opens_at_its_place edition t (i + length (indent level ++ gap)) b bs ys s r c
      (rest_past_front (indent level ++ gap) m)) m

module _ (edition : Edition) (t : List ℕ) (level : ℕ) (common : Option ℕ) (tail rest : List ℕ) (ends : Ends tail rest)
    (deep : 1 ≤ length (indent level)) where
  no_block_is_before_lone_text : (v : Text) (es : PatternTree Text) (i : ℕ) →
      are_elements edition true opening (elements (text_element v) es) ≡ true → list_all is_run_byte v ≡ true →
      (gap more : List ℕ) → v ≡ gap ++ more → list_all is_space gap ≡ true → holds is_space (first more) ≡ false →
      SuffixAt t i (elements_bytes level true (elements (text_element v) es) (lf ∷ tail)) → BlankBlock t i i
  no_block_is_before_lone_text v no_elements i g a gap (b ∷ bs) is c s l =
      let plain = text_may_precede_what_follows edition t level common tail rest ends deep opening v no_elements g in
      let safe : is_last cr (last_of None (b ∷ bs)) ≡ false =
      sym (ap (is_last cr) (ap (last_of None) is ∙ last_of-gap gap b bs)) ∙ plain_no_cr v plain in
      no_block_is_before_first_run edition t level tail i gap b bs (lf ∷ tail)
      (appended_spaces_are_spaces (indent level) gap (replicated_spaces_are_spaces (4 * level)) c) s
      (rest_of_run_is_run edition t level common tail rest ends deep v gap b bs is a) (rw safe refl)
      (suffix_by_equality (ap (λ v. indent level ++ (v ++ (lf ∷ tail))) is) l)
  no_block_is_before_lone_text v (elements (placeable x) es) i g a gap (b ∷ bs) is c s l =
      let brace = bytes_of_placeable_begin_with_brace level x (elements_bytes level false es (lf ∷ tail)) in
      let are =
      ap (λ b. indent level ++
      (v ++
      (line_indent level b ++ element_bytes level (placeable x) (elements_bytes level false es (lf ∷ tail)))))
      (no_lf_ends_run v a) ∙ ap (λ xs. indent level ++ (v ++ xs)) brace.are
      ∙ ap (λ v. indent level ++ (v ++ (123 ∷ brace.rest))) is in
      no_block_is_before_first_run edition t level tail i gap b bs (123 ∷ brace.rest)
      (appended_spaces_are_spaces (indent level) gap (replicated_spaces_are_spaces (4 * level)) c) s
      (rest_of_run_is_run edition t level common tail rest ends deep v gap b bs is a)
      (and_with_false_is_false (is_last cr (last_of None (b ∷ bs)))) (suffix_by_equality are l)
  no_block_is_before_lone_text v (elements (text_element w) es) i g a gap more is c s l =
      absurd (no_text_follows_text_without_lf edition t level common tail rest ends deep v w es (no_lf_ends_run v a)
      (elements_after_text_are_elements edition t level common tail rest ends deep opening v
      (elements (text_element w) es) g))
  no_block_is_before_lone_text v no_elements i g a gap [] is c s l =
      let all : is_spaces v ≡ true = ap is_spaces (is ∙ append-nil gap) ∙ c in
      let d =
      indenting_text_is_spaces edition v no_elements
      (second_of_or_is_true (is_nonblank v) _ (text_of_spaces_is_blank v all)
      (text_of_elements_may_occur edition t level common tail rest ends deep opening v no_elements g)) in
      absurd (false≢true d.1)
  no_block_is_before_lone_text v (elements (placeable x) es) i g a gap [] is c s l =
      let all : is_spaces v ≡ true = ap is_spaces (is ∙ append-nil gap) ∙ c in
      let are =
      ap (λ b. indent level ++
      (v ++
      (line_indent level b ++ element_bytes level (placeable x) (elements_bytes level false es (lf ∷ tail)))))
      (no_lf_ends_run v a)
      ∙ sym (append_assoc (indent level) v
      (element_bytes level (placeable x) (elements_bytes level false es (lf ∷ tail)))) in
      blank_block_before_placeable_is_empty edition t level tail i (indent level ++ v) x
      (elements_bytes level false es (lf ∷ tail))
      (appended_spaces_are_spaces (indent level) v (replicated_spaces_are_spaces (4 * level)) all)
      (suffix_by_equality are l)

  no_block_is_before_first_text_line : (v : Text) (d : ElementTree Text) (es : PatternTree Text) (body : Text) (i : ℕ) →
      are_elements edition true opening (elements (text_element v) (elements d es)) ≡ true → v ≡ body ++ (lf ∷ []) →
      list_all is_run_byte body ≡ true → is_last cr (last_of None body) ≡ false →
      (gap more : List ℕ) → body ≡ gap ++ more → list_all is_space gap ≡ true → holds is_space (first more) ≡ false →
      SuffixAt t i (elements_bytes level true (elements (text_element v) (elements d es)) (lf ∷ tail)) →
      BlankBlock t i i
  no_block_is_before_first_text_line v d es body i g is a c gap (b ∷ bs) e s n l =
      let after = elements_bytes level (ends_in_lf v) (elements d es) (lf ∷ tail) in
      let safe : is_last cr (last_of None (b ∷ bs)) ≡ false =
      sym (ap (is_last cr) (ap (last_of None) e ∙ last_of-gap gap b bs)) ∙ c in
      let are : v ++ after ≡ (gap ++ (b ∷ bs)) ++ (lf ∷ after) =
      ap (λ v. v ++ after) (is ∙ ap (λ v. v ++ (lf ∷ [])) e) ∙ append_assoc (gap ++ (b ∷ bs)) (lf ∷ []) after in
      no_block_is_before_first_run edition t level tail i gap b bs (lf ∷ after)
      (appended_spaces_are_spaces (indent level) gap (replicated_spaces_are_spaces (4 * level)) s) n
      (rest_of_run_is_run edition t level common tail rest ends deep body gap b bs e a) (rw safe refl)
      (suffix_by_equality (ap (λ xs. indent level ++ xs) are) l)
  no_block_is_before_first_text_line v d es body i g is a c gap [] e s n l =
      let whole : v ≡ gap ++ (lf ∷ []) = is ∙ ap (λ v. v ++ (lf ∷ [])) (e ∙ append-nil gap) in
      let blank : is_nonblank v ≡ false =
      ap is_nonblank whole ∙ ap (list_any (λ b. not (is_space b))) (lf_is_taken_off gap) ∙ gap_is_blank gap s in
      let d =
      indenting_text_is_spaces edition v (elements d es)
      (second_of_or_is_true (is_nonblank v) _ blank
      (text_of_elements_may_occur edition t level common tail rest ends deep opening v (elements d es) g)) in
      absurd (false≢true (sym (ap is_spaces whole ∙ spaces_and_lf_are_not_spaces gap) ∙ d.0))

  -- The first line is not blank.
  no_block_is_before_first_line : (e : ElementTree Text) (es : PatternTree Text) (i : ℕ) →
      are_elements edition true opening (elements e es) ≡ true →
      SuffixAt t i (elements_bytes level true (elements e es) (lf ∷ tail)) → BlankBlock t i i
  no_block_is_before_first_line (placeable x) es i g l =
      blank_block_before_placeable_is_empty edition t level tail i (indent level) x
      (elements_bytes level false es (lf ∷ tail))
      (replicated_spaces_are_spaces (4 * level)) l
  no_block_is_before_first_line (text_element v) es i g l =
      by_form es g (text_is_run_or_run_with_lf v
      (text_element_is_text edition t level common tail rest ends deep opening v es g)) l
    where
      by_form : (es : PatternTree Text) → are_elements edition true opening (elements (text_element v) es) ≡ true →
          TextForm v → SuffixAt t i (elements_bytes level true (elements (text_element v) es) (lf ∷ tail)) →
          BlankBlock t i i
      by_form es g (alone a) l = let s = text_splits_into_spaces_and_rest v in
          no_block_is_before_lone_text v es i g a s.gap s.more s.are s.spaces s.plain l
      by_form no_elements g (with_lf body is a c) l =
          absurd (text_with_lf_ends_not_plainly edition t level common tail rest ends v body is
          (text_may_precede_what_follows edition t level common tail rest ends deep opening v no_elements g))
      by_form (elements d ds) g (with_lf body is a c) l = let s = text_splits_into_spaces_and_rest body in
          no_block_is_before_first_text_line v d ds body i g is a c s.gap s.more s.are s.spaces s.plain l

module _ (edition : Edition) (t : List ℕ) (level : ℕ) (tail rest : List ℕ) (ends : Ends tail rest)
    (deep : 1 ≤ length (indent (level + 1))) where
  -- a multiline pattern that opens a line
  line_opened_reads_back : (e : ElementTree Text) (es : PatternTree Text) (i : ℕ) → hides_mark (elements e es) ≡ false →
      has_leading_mark (elements e es) ≡ false → are_elements edition true opening (elements e es) ≡ true →
      are_flush (least (line_indents edition opening (elements e es))) opening (elements e es) ≡ true →
      ElementsReadBack edition t (level + 1) (elements e es) →
      SuffixAt t i (lf ∷ elements_bytes (level + 1) true (elements e es) (lf ∷ tail)) →
      Reads t (grammar.pattern edition t) (option_map (pattern_map (bytes_at t))) i (Some (elements e es)) rest
  line_opened_reads_back e es i a m g f h l =
      let shift = length (indent (level + 1)) in
      let flush =
      subst (λ ns. are_flush (least ns) after_line (elements e es) ≡ true) (opening_indents_as_at_line edition e es)
      (opening_flush_is_line_flush edition e es (least (line_indents edition opening (elements e es))) f) in
      let c = flush_is_chosen edition shift after_line (elements e es) flush in
      let n = next_of_suffix l in
      opened_reads_back edition t c.common (map (λ n. shift + n) (line_indents edition after_line (elements e es)))
      e es i
      (elements_bytes (level + 1) true (elements e es) (lf ∷ tail)) rest c.least_is l
      (no_block_is_before_first_line edition t (level + 1) c.common tail rest ends deep e es (i + 1) g n)
      (elements_read_back_from_line_start edition t (level + 1) c.common tail rest ends deep (elements e es) h
      (opening_elements_may_be_at_line edition e es a m g)
      c.fit (i + 1) n)

-- ---- multiline patterns

replicate_has_length : (n : ℕ) → length (replicate n space) ≡ n
replicate_has_length zero = refl
replicate_has_length (suc n) = ap suc (replicate_has_length n)

unmarked_begins_opening : (p : PatternTree Text) → is_multiline p ≡ true → has_leading_mark p ≡ false
    → first_position p ≡ opening
unmarked_begins_opening p e f = rw (e, f) refl

marked_begins_after_placeable : (p : PatternTree Text) → is_multiline p ≡ true → has_leading_mark p ≡ true →
    first_position p ≡ after_placeable
marked_begins_after_placeable p e f = rw (e, f) refl

pattern_without_mark_opens_by_lf : (level : ℕ) (p : PatternTree Text) (tail : Text) → is_multiline p ≡ true →
    has_leading_mark p ≡ false → pattern_bytes level p tail ≡ lf ∷ elements_bytes (level + 1) true p tail
pattern_without_mark_opens_by_lf level p tail e f = rw (e, f) refl

pattern_with_mark_opens_by_space : (level : ℕ) (p : PatternTree Text) (tail : Text) → is_multiline p ≡ true →
    has_leading_mark p ≡ true → pattern_bytes level p tail ≡ space ∷ elements_bytes (level + 1) false p tail
pattern_with_mark_opens_by_space level p tail e f = rw (e, f) refl

flush_hides_no_mark : (edition : Edition) (p : PatternTree Text) → is_multiline p ≡ true → is_flush edition p ≡ true →
    (not (hides_mark p) && are_flush (least (line_indents edition (first_position p) p)) (first_position p) p) ≡ true
flush_hides_no_mark edition p e f = second_of_or_is_true (not (is_multiline p)) _ (ap not e) f

multiline_pattern_reads_back_there : (edition : Edition) (t : List ℕ) (level : ℕ) (e : ElementTree Text)
    (es : PatternTree Text) (x : Bool) → has_leading_mark (elements e es) ≡ x → is_multiline (elements e es) ≡ true →
    are_elements edition true opening (elements e es) ≡ true → is_flush edition (elements e es) ≡ true →
    ElementsReadBack edition t (level + 1) (elements e es) → 1 ≤ length (indent (level + 1)) →
    (i : ℕ) (tail rest : List ℕ) → Ends tail rest → SuffixAt t i (pattern_bytes level (elements e es) (lf ∷ tail)) →
    Reads t (grammar.pattern edition t) (option_map (pattern_map (bytes_at t))) i (Some (elements e es)) rest
multiline_pattern_reads_back_there edition t level e es true m a g f h deep i tail rest ends l =
    let p = elements e es in
    let parts = flush_hides_no_mark edition p a f in
    let flush =
    subst (λ s. are_flush (least (line_indents edition s p)) s p ≡ true) (marked_begins_after_placeable p a m)
    (and_gives_right (not (hides_mark p)) _ parts) in
    marked_reads_back edition t level tail rest ends deep e es i m g flush h
    (suffix_by_equality (pattern_with_mark_opens_by_space level p (lf ∷ tail) a m) l)
multiline_pattern_reads_back_there edition t level e es false m a g f h deep i tail rest ends l =
    let p = elements e es in
    let parts = flush_hides_no_mark edition p a f in
    let flush =
    subst (λ s. are_flush (least (line_indents edition s p)) s p ≡ true) (unmarked_begins_opening p a m)
    (and_gives_right (not (hides_mark p)) _ parts) in
    line_opened_reads_back edition t level tail rest ends deep e es i
    (not_true_is_false (hides_mark p) (and_gives_left (not (hides_mark p)) _ parts)) m g flush h
    (suffix_by_equality (pattern_without_mark_opens_by_lf level p (lf ∷ tail) a m) l)

-- A multiline pattern is read back, if its placeables are.
pub multiline_reads_back : (edition : Edition) (t : List ℕ) (level : ℕ) (p : PatternTree Text) → is_multiline p ≡ true →
    is_pattern edition p ≡ true → is_flush edition p ≡ true → ElementsReadBack edition t (level + 1) p →
    PatternReadsBack edition t level p
multiline_reads_back edition t level no_elements a g f h = absurd cc
multiline_reads_back edition t level (elements e es) a g f h =
    let deep : 1 ≤ length (indent (level + 1)) = let n = replicate_has_length (4 * (level + 1)) in omega arith in
    record {
      back =
          λ i tail rest ends l.
          multiline_pattern_reads_back_there edition t level e es (has_leading_mark (elements e es)) refl a
          (multiline_elements_are_elements (is_multiline (elements e es)) a g) f h deep i tail rest ends l;
    }
  where
    multiline_elements_are_elements : (b : Bool) → b ≡ true → are_elements edition b opening (elements e es) ≡ true →
        are_elements edition true opening (elements e es) ≡ true
    multiline_elements_are_elements true e g = g
    multiline_elements_are_elements false e g = absurd cc
