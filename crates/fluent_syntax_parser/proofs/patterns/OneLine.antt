-- Patterns whose later lines are blank, and patterns that hold nothing.
use Rattle.std.proofs.Common.{◌≡◌, ℕ, ◌+◌, ◌-◌, ◌<◌, ◌≤◌, List, [], ◌∷◌, length, get_or, Some}
use Rattle.std.proofs.Common.{None, true, false, not, refl, sym, subst, arith, ap, ◌++◌}
use Rattle.std.specs.List.{flat_map}
use Rattle.std.specs.Prelude.{slice_get, slice_range, ◌==◌, ◌||◌, if◌then◌else◌}
use Rattle.std.proofs.lemmas.Bool.Decides.{nat_tests}
use Rattle.std.proofs.lemmas.Option.{slice_get-get_or, slice_get_past}
use Rattle.fluent_syntax_tree.specs.declared.spans.Span.{Span}
use Rattle.fluent_syntax_tree.specs.Tree.{ExpressionTree}
use Rattle.fluent_syntax_tree.specs.declared.edition.Edition.{Edition}
use Rattle.fluent_syntax_grammar.specs.Bytes.{lf, cr, space, left_brace, right_brace}
use Rattle.fluent_syntax_grammar.specs.Construct.{Read, goes_on, given, passed, chosen, second, at_place}
use Rattle.fluent_syntax_grammar.specs.Construct.{item, item_and_more, list_ends}
use Rattle.fluent_syntax_grammar.specs.Elements.{Item, text, cut, cut_before, if_any, is_nonblank, line_items}
use Rattle.fluent_syntax_grammar.specs.Elements.{pattern_of, spelled, trimmed_end, with_ending}
use Rattle.fluent_syntax_grammar.specs.Family.{Family}
use Rattle.fluent_syntax_grammar.specs.Grammar.{within}
use Rattle.fluent_syntax_grammar.specs.Layout.{Layout, Line, Piece, common_indent, run as run', Ending, lf_at}
use Rattle.fluent_syntax_grammar.specs.Layout.{crlf_at, text_end as text_end'}
use Rattle.fluent_syntax_grammar.specs.Lines.{is_run_place, more_lines, more_pieces, next_piece, text_run, ending}
use Rattle.fluent_syntax_grammar.specs.Patterns.{layout_at, layout, pattern}
use Rattle.fluent_syntax_grammar.specs.Places.{BlankBlock, LongestRun, after_eol, has_byte, has_eol, InlineBlank}
use Rattle.fluent_syntax_grammar.proofs.Facts.{and_gives_left, byte_exists}
use Rattle.fluent_syntax_grammar.proofs.Tests.{negated_right_is_false}
use Rattle.fluent_syntax_grammar.proofs.LineEnds.{no_bytes_no_eol}
use Rattle.fluent_syntax_parser.proofs.patterns.LineEndings.{line_ending_read, ending_without_eol_is_text_end}
use Rattle.fluent_syntax_parser.proofs.patterns.BlankLines.{end_after_blanks_has_blank_rest, crlf_has_lf}
use Rattle.fluent_syntax_parser.proofs.patterns.BlankLines.{end_of_eol_means_eol, lf_is_blank}
use Rattle.fluent_syntax_parser.proofs.patterns.BlankLines.{no_pieces_are_read_at_eol}
use Rattle.fluent_syntax_parser.proofs.patterns.BlankLines.{range_is_first_byte_and_rest}
use Rattle.fluent_syntax_parser.specs.OneLine.{EndsBlank, EndsLine, text_pattern, with_lf, with_crlf, with_text}

is_nonblank-other : (b : ℕ) (bs : List ℕ) → (b == space) ≡ false → (b == lf) ≡ false → is_nonblank (b ∷ bs) ≡ true
is_nonblank-other b [] space other = rw (other, space) refl
is_nonblank-other b (c ∷ bs) space other = rw space refl

module _ (t : List ℕ) (i j : ℕ) (l : i < j) (within : j ≤ length t) where
  range_with_shown_byte_is_nonblank : (b : ℕ) → slice_get t i ≡ Some b → (b == space) ≡ false → (b == lf) ≡ false →
      is_nonblank (slice_range t i j) ≡ true
  range_with_shown_byte_is_nonblank b at space other =
      let same : get_or t i 0 ≡ b = let h = slice_get-get_or t i 0 (omega arith) in cc in
      rw (range_is_first_byte_and_rest t i j l within (j - i - 1) (omega arith), same)
      (is_nonblank-other b _ space other)

-- items none of which stays are cut off where they end the list
cut_drops_blank_end : (t : List ℕ) (xs ys : List Item) → cut t ys ≡ [] → cut t (xs ++ ys) ≡ cut t xs
cut_drops_blank_end t [] ys none = none
cut_drops_blank_end t (x ∷ xs) ys none = ap (cut_before t x) (cut_drops_blank_end t xs ys none)

module _ (t : List ℕ) where
  module _ (start to : ℕ) (w : LongestRun (is_run_place t) start to) (some : start < to) where
    first_byte_of_run_is_plain : (b : ℕ) × (slice_get t start ≡ Some b)
        × (not (b == lf || b == left_brace || b == right_brace) ≡ true)
    first_byte_of_run_is_plain =
        byte_exists (λ b. not (b == lf || b == left_brace || b == right_brace)) (slice_get t start)
        (and_gives_left _ _
        (w.each start (omega arith) some))

    start_of_run_has_no_eol : has_eol t start ≡ false
    start_of_run_has_no_eol = negated_right_is_false _ _ (w.each start (omega arith) some)

    range_from_run_is_nonblank : (ptr stop : ℕ) → InlineBlank t ptr start → to ≤ stop → stop ≤ length t →
        is_nonblank (slice_range t start stop) ≡ true
    range_from_run_is_nonblank ptr stop blank l within =
        let f = first_byte_of_run_is_plain in
        let space : (f.0 == space) ≡ false = let g = rw f.1 at blank.longest in g in
        let other : (f.0 == lf) ≡ false = grind (arith, nat_tests) in
        range_with_shown_byte_is_nonblank t start stop (omega arith) within f.0 f.1 space other

    start_of_run_has_no_eol_end : after_eol t start ≡ None
    start_of_run_has_no_eol_end = no_bytes_no_eol (has_byte t lf start) _ _ _ (start_of_run_has_no_eol)

module _ (t : List ℕ) (R : Family) where
  run_from_plain_byte_is_piece : (i j b : ℕ) → slice_get t i ≡ Some b →
      not (b == lf || b == left_brace || b == right_brace) ≡ true →
      has_eol t i ≡ false → LongestRun (is_run_place t) i j → next_piece t R i (Read (item (run' i j) tt) j)
  run_from_plain_byte_is_piece i j b e test eol w =
      let close : (b == right_brace) ≡ false = grind (arith, nat_tests) in
      let opening : (b == left_brace) ≡ false = grind (arith, nat_tests) in
      let run : text_run t i (Read (run' i j) j) = goes_on at_place (goes_on (passed w) (goes_on at_place given)) in
      chosen (rw e (chosen (second eol (second close (second opening (goes_on run given))))))

  pub longest_run_is_read_as_piece : (start to : ℕ) → LongestRun (is_run_place t) start to → start < to →
      next_piece t R start (Read (item (run' start to) tt) to)
  longest_run_is_read_as_piece start to w some =
      let f = first_byte_of_run_is_plain t start to w some in
      run_from_plain_byte_is_piece start to f.0 f.1 f.2 (start_of_run_has_no_eol t start to w some) w

  -- ---- a line that ends

  -- It ends so, nothing but that follows there, and a nonblank text from some place stays as its last item.
  record EndedLine (to stop next : ℕ) : Type 0 where
    pub ends_by : Ending
    pub ends : ending t to (Read ends_by next)
    pub pieces : more_pieces t R to (Read [] to)
    pub text_stays : (from : ℕ) → is_nonblank (slice_range t from stop) ≡ true →
        cut t {E = ExpressionTree Span} (with_ending (run' from to ∷ []) ends_by) ≡ text from stop ∷ []

  line_end_is_ended_line : (to stop next : ℕ) → EndsLine t to stop next → EndedLine to stop next
  line_end_is_ended_line to stop next (with_lf eol e) =
      let there = end_of_eol_means_eol (has_byte t lf to) _ to stop eol in
      let test : (stop == to + 1) ≡ true = grind (arith, nat_tests) in
      record {
        ends_by = lf_at to;
        ends = subst (λ b. ending t to (Read (if b then lf_at to else crlf_at to) stop)) test
            (line_ending_read t to stop eol);
        pieces = no_pieces_are_read_at_eol t R to (slice_get t to) refl there;
        text_stays = λ from stays.
            let same = subst (λ k. is_nonblank (slice_range t from k) ≡ true) e stays in rw (same, e) refl;
      }
  line_end_is_ended_line to stop next (with_crlf eol e) =
      let there = end_of_eol_means_eol (has_byte t lf to) _ to next eol in
      let test : (next == to + 1) ≡ false = grind (arith, nat_tests) in
      let blank = lf_is_blank t (to + 1) (to + 2) (omega arith)
      (crlf_has_lf (has_byte t lf to) (has_byte t cr to) _ to next eol e) in
      record {
        ends_by = crlf_at to;
        ends = subst (λ b. ending t to (Read (if b then lf_at to else crlf_at to) next)) test
            (line_ending_read t to next eol);
        pieces = no_pieces_are_read_at_eol t R to (slice_get t to) refl there;
        text_stays = λ from stays. rw (blank, stays) refl;
      }
  line_end_is_ended_line to stop next (with_text eol e) =
      let none : slice_get t to ≡ None = slice_get_past t to (omega (arith, e)) in
      record {
        ends_by = text_end';
        ends = ending_without_eol_is_text_end t to eol;
        pieces = list_ends (chosen (rw none given));
        text_stays = λ from stays. rw stays refl;
      }

module _ (edition : Edition) (t : List ℕ) (n : ℕ) where
  abbrev R : Family
  R = within edition t n

  -- ---- a pattern whose later lines are blank

  module _ (start : ℕ) (opens : after_eol t start ≡ None) (ps : List Piece) (to : ℕ)
      (pieces : more_pieces t R start (Read ps to)) (e : Ending) (next : ℕ) (ends : ending t to (Read e next)) where
    abbrev opened : List Line → Layout
    opened ls = record { opening = Some (record { start = start; spaces = 0; pieces = ps; ending = e }); lines = ls }

    -- it spells the items of its opening line
    opening_line_is_read_as_pattern : (ptr end : ℕ) → InlineBlank t ptr start → EndsBlank edition t next end →
        pattern edition t R ptr (Read (if_any (spelled t (cut t (with_ending ps e)))) end)
    opening_line_is_read_as_pattern ptr end blank lines =
        let beyond = end_after_blanks_has_blank_rest edition t next end lines in
        let laid : layout_at t R None start (Read (opened beyond.lines) end) = goes_on at_place
        (goes_on pieces
        (goes_on ends
        (goes_on (beyond.read n) given))) in
        let whole : layout t R ptr (Read (opened beyond.lines) end) = goes_on (passed blank)
        (chosen (subst (λ o. layout_at t R o start (Read (opened beyond.lines) end)) (sym opens) laid)) in
        let cut_off = cut_drops_blank_end t (with_ending ps e)
        (flat_map (line_items edition (common_indent edition (opened beyond.lines))) beyond.lines) (beyond.blank _) in
        let same : pattern_of edition t (opened beyond.lines) ≡ if_any (spelled t (cut t (with_ending ps e))) =
        ap (λ is. if_any (spelled t is)) cut_off in
        rw (← same) (goes_on whole given)

  -- ---- a pattern of one text

  module _ (start to : ℕ) (w : LongestRun (is_run_place t) start to) (some : start < to) where
    pub one_run_is_read_as_pattern : (ptr stop next end : ℕ) → InlineBlank t ptr start → EndsLine t to stop next →
        to ≤ stop → stop ≤ length t → EndsBlank edition t next end →
        pattern edition t R ptr
        (Read (Some (text_pattern (record { start = start; end = trimmed_end t start stop }))) end)
    one_run_is_read_as_pattern ptr stop next end blank line l within lines =
        let stays = range_from_run_is_nonblank t start to w some ptr stop blank l within in
        let ended = line_end_is_ended_line t R to stop next line in
        let pieces = item_and_more (longest_run_is_read_as_piece t R start to w some) ended.pieces in
        let read = opening_line_is_read_as_pattern start (start_of_run_has_no_eol_end t start to w some)
        (run' start to ∷ []) to pieces ended.ends_by next ended.ends ptr end
        blank lines in
        let f = rw (ended.text_stays start stays) at read in f

  -- ---- a pattern that holds nothing: a line or the text ends where it would begin, and no line of a pattern follows

  module _ (start next first end : ℕ) (eol : after_eol t start ≡ Some next) (block : BlankBlock t next first)
      (lines : more_lines t R first (Read [] end)) where
    empty_opening_is_read_as_none : (ptr : ℕ) → InlineBlank t ptr start → pattern edition t R ptr (Read None end)
    empty_opening_is_read_as_none ptr blank =
        let empty : Layout = record { opening = None; lines = [] } in
        let laid : layout_at t R (Some next) start (Read empty end) = goes_on (passed (record { there = refl }))
        (goes_on (passed block)
        (goes_on lines given)) in
        let whole : layout t R ptr (Read empty end) = goes_on (passed blank)
        (chosen (subst (λ o. layout_at t R o start (Read empty end)) (sym eol) laid)) in
        goes_on whole given

  pub blank_pattern_read : (start ptr stop next end : ℕ) → InlineBlank t ptr start → EndsLine t start stop next →
      EndsBlank edition t next end → pattern edition t R ptr (Read None end)
  unfolding line_end_is_ended_line
  blank_pattern_read start ptr stop next end blank (with_lf eol e) lines =
      empty_opening_is_read_as_none start stop lines.place end eol lines.block (lines.none n) ptr blank
  blank_pattern_read start ptr stop next end blank (with_crlf eol e) lines =
      empty_opening_is_read_as_none start next lines.place end eol lines.block (lines.none n) ptr blank
  blank_pattern_read start ptr stop next end blank (with_text eol e) lines =
      let ended = line_end_is_ended_line t R start start start (with_text eol e) in
      opening_line_is_read_as_pattern start eol [] start ended.pieces text_end' start ended.ends ptr end blank lines
