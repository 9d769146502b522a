-- Patterns in which no text holds an LF are read back, if their placeables are.
use Rattle.std.proofs.Common.{◌≡◌, ℕ, ◌+◌, List, [], ◌∷◌, ◌++◌, Option, Some, None, Bool, true, false, refl, sym, ◌∙◌}
use Rattle.std.proofs.Common.{subst, ap}
use Rattle.std.proofs.lemmas.Bool.{false≢true}
use Rattle.std.specs.Prelude.{◌==◌, ◌||◌, ◌&&◌, not, option_map, if◌then◌else◌}
use Rattle.std.specs.List.{list_all, list_any, flat_map}
use Rattle.fluent_syntax_tree.specs.Tree.{ExpressionTree, select, inline, expression_map, string_literal}
use Rattle.fluent_syntax_tree.specs.Tree.{number_literal, function_reference, message_reference, term_reference}
use Rattle.fluent_syntax_tree.specs.Tree.{variable_reference, inline_placeable, ElementTree, text_element, placeable}
use Rattle.fluent_syntax_tree.specs.Tree.{PatternTree, no_elements, elements, pattern_map}
use Rattle.fluent_syntax_tree.specs.Spans.{bytes_at}
use Rattle.fluent_syntax_tree.specs.declared.edition.Edition.{Edition}
use Rattle.fluent_syntax_grammar.specs.PatternTexts.{ends_in_lf, ends_plainly, is_empty, is_brace}
use Rattle.fluent_syntax_grammar.specs.Bytes.{lf, cr, space, is_space}
use Rattle.fluent_syntax_grammar.specs.Places.{holds, has_byte, has_eol, after_eol, InlineBlank}
use Rattle.fluent_syntax_grammar.specs.Lines.{is_run_place}
use Rattle.fluent_syntax_grammar.specs.Construct.{Read, goes_on, given, at_place, passed, chosen}
use Rattle.fluent_syntax_grammar.specs.Layout.{Piece, Line, Layout, least}
use Rattle.fluent_syntax_grammar.specs.Layout as layouts
use Rattle.fluent_syntax_grammar.specs.Elements.{with_ending, line_items, items, pattern_of, cut, spelled, if_any}
use Rattle.fluent_syntax_grammar.specs.Patterns.{layout_at, layout}
use Rattle.fluent_syntax_grammar.specs.Grammar.{family}
use Rattle.fluent_syntax_grammar.specs.Grammar as grammar
use Rattle.fluent_syntax_grammar.specs.Written.{Text, is_last, last_of, has_lf}
use Rattle.fluent_syntax_grammar.specs.Readable.{ElementPosition, after_line, within_line, after_placeable, is_text}
use Rattle.fluent_syntax_grammar.specs.Readable.{are_elements, may_occur_at, position_after}
use Rattle.fluent_syntax_grammar.proofs.Facts.{and_gives_left, and_gives_right}
use Rattle.fluent_syntax_grammar.proofs.SuffixAt.{SuffixAt, suffix_by_equality, first, suffix_byte_run}
use Rattle.fluent_syntax_grammar.proofs.SuffixAt.{suffix_has_no_after_eol}
use Rattle.fluent_syntax_grammar.proofs.forward.Reading.{Reads}
use Rattle.fluent_syntax_grammar.proofs.forward.Spells.{items_spell_their_pattern}
use Rattle.fluent_syntax_grammar.proofs.marks.WrittenBytes.{element_bytes, elements_bytes, line_indent}
use Rattle.fluent_syntax_grammar.proofs.forward.Runs.{is_run_byte, ends_in_cr_before, text_without_brace_and_lf_is_run}
use Rattle.fluent_syntax_grammar.proofs.forward.Runs.{place_of_run_byte_is_run_place, no_eol_in_run}
use Rattle.fluent_syntax_grammar.proofs.forward.Lines.{Ends, ending_at_lf_reads_lf}
use Rattle.fluent_syntax_grammar.proofs.forward.Pieces.{ReadsMidLine, line_end_ends_mid_line, placeable_reads_mid_line}
use Rattle.fluent_syntax_grammar.proofs.forward.Pieces.{mid_run}
use Rattle.fluent_syntax_grammar.proofs.forward.Pieces.{run_ends_at_line_end}
use Rattle.fluent_syntax_grammar.proofs.forward.Pieces.{run_before_placeable_is_run}
use Rattle.fluent_syntax_grammar.proofs.Tests.{false_or_left, false_or_right, not_true_is_false, negated_right_is_false}
use Rattle.fluent_syntax_grammar.proofs.LineEnds.{no_bytes_no_eol}

-- A placeable that is an element is read back.
pub record ElementReadsBack (edition : Edition) (t : List ℕ) (level : ℕ) (e : ExpressionTree Text) : Type 0 where
  pub back : (i : ℕ) (tail : List ℕ) → SuffixAt t i (element_bytes level (placeable e) tail) →
      Reads t (grammar.placeable edition t) (expression_map (bytes_at t)) i e tail

-- Each placeable of a pattern is.
abbrev pub ElementsReadBack : (edition : Edition) (t : List ℕ) (level : ℕ) → PatternTree Text → Type 0
ElementsReadBack edition t level no_elements = Unit {0}
ElementsReadBack edition t level (elements (text_element v) es) = ElementsReadBack edition t level es
ElementsReadBack edition t level (elements (placeable e) es) =
    ElementReadsBack edition t level e × ElementsReadBack edition t level es

-- no text of a pattern holds an LF
abbrev pub has_no_lf : PatternTree Text → Bool
has_no_lf no_elements = true
has_no_lf (elements (text_element v) es) = not (has_lf v) && has_no_lf es
has_no_lf (elements (placeable e) es) = has_no_lf es

-- the bytes of a placeable begin with a brace
pub record Brace (bs : List ℕ) : Type 0 where
  pub rest : List ℕ
  pub are : bs ≡ 123 ∷ rest

pub bytes_of_placeable_begin_with_brace : (level : ℕ) (e : ExpressionTree Text) (tail : List ℕ) →
    Brace (element_bytes level (placeable e) tail)
bytes_of_placeable_begin_with_brace level (select e vs) tail = record { rest = _; are = refl }
bytes_of_placeable_begin_with_brace level (inline (string_literal v)) tail = record { rest = _; are = refl }
bytes_of_placeable_begin_with_brace level (inline (number_literal v)) tail = record { rest = _; are = refl }
bytes_of_placeable_begin_with_brace level (inline (function_reference id a)) tail = record { rest = _; are = refl }
bytes_of_placeable_begin_with_brace level (inline (message_reference id a)) tail = record { rest = _; are = refl }
bytes_of_placeable_begin_with_brace level (inline (term_reference id a c)) tail = record { rest = _; are = refl }
bytes_of_placeable_begin_with_brace level (inline (variable_reference id)) tail = record { rest = _; are = refl }
bytes_of_placeable_begin_with_brace level (inline (inline_placeable e)) tail = record { rest = _; are = refl }

pub plain_no_cr : (v : List ℕ) → ends_plainly v ≡ true → is_last cr (last_of None v) ≡ false
plain_no_cr v e = untrimmed_last_byte_is_no_cr (last_of None v) e
  where
    no_cr : (b : ℕ) (x y z : Bool) → (b == 32) ≡ x → (b == 13) ≡ y → not (x || y || z) ≡ true → (b == 13) ≡ false
    no_cr b x false z e f g = f
    no_cr b true true z e f g = absurd cc
    no_cr b false true z e f g = absurd cc

    untrimmed_last_byte_is_no_cr : (o : Option ℕ) →
        holds (λ b. not (Rattle.fluent_syntax_tree.specs.Text.is_trimmed b)) o ≡ true → is_last cr o ≡ false
    untrimmed_last_byte_is_no_cr None e = refl
    untrimmed_last_byte_is_no_cr (Some b) e = no_cr b (b == 32) (b == 13) (b == 10) refl refl e

last_of_bytes_without_lf_is_other : (c : ℕ) (v : List ℕ) → (c == lf) ≡ false → has_lf v ≡ false →
    is_last lf (last_of (Some c) v) ≡ false
last_of_bytes_without_lf_is_other c [] e f = e
last_of_bytes_without_lf_is_other c (b ∷ v) e f =
    last_of_bytes_without_lf_is_other b v (false_or_left (b == lf) (has_lf v) f) (false_or_right (b == lf) (has_lf v) f)

pub ends_not_in_lf : (v : List ℕ) → has_lf v ≡ false → ends_in_lf v ≡ false
ends_not_in_lf [] e = refl
ends_not_in_lf (b ∷ v) e = last_of_bytes_without_lf_is_other b (b ∷ v) (false_or_left (b == lf) (has_lf v) e) e

module _ (edition : Edition) (t : List ℕ) (level : ℕ) (common : Option ℕ) (tail rest : List ℕ) (ends : Ends tail rest)
  where
    abbrev pub ReadsBackFrom : PatternTree Text → ℕ → Type 0
    ReadsBackFrom es i = ReadsMidLine edition t common es [] i rest

    pub one_line_text_has_run_bytes : (v : Text) → is_text v ≡ true → has_lf v ≡ false → list_all is_run_byte v ≡ true
    one_line_text_has_run_bytes v e f =
        text_without_brace_and_lf_is_run v (not_true_is_false (list_any is_brace v)
        (and_gives_left (not (list_any is_brace v)) _ (and_gives_right (not (is_empty v)) _ e))) f

    one_line_text_at_end_reads_back : (v : Text) (i : ℕ) → is_text v ≡ true → has_lf v ≡ false → ends_plainly v ≡ true →
        SuffixAt t i (v ++ (lf ∷ tail)) → ReadsBackFrom (elements (text_element v) no_elements) i
    one_line_text_at_end_reads_back [] i e f p l = absurd cc
    one_line_text_at_end_reads_back (b ∷ bs) i e f p l =
        let r =
        run_ends_at_line_end edition t common (b ∷ bs) tail rest i b bs p ends
        (one_line_text_has_run_bytes (b ∷ bs) e f)
        (rw (plain_no_cr (b ∷ bs) p) refl) l in
        mid_run edition t common (b ∷ bs) no_elements [] (lf ∷ tail) rest i r l

    one_line_text_before_placeable_reads_back : (v : Text) (e : ExpressionTree Text) (es : PatternTree Text) (i : ℕ) →
        is_text v ≡ true → has_lf v ≡ false →
        SuffixAt t i (v ++ element_bytes level (placeable e) (elements_bytes level false es (lf ∷ tail))) →
        ((j : ℕ) → SuffixAt t j (element_bytes level (placeable e) (elements_bytes level false es (lf ∷ tail))) →
        ReadsBackFrom (elements (placeable e) es) j) →
        ReadsBackFrom (elements (text_element v) (elements (placeable e) es)) i
    one_line_text_before_placeable_reads_back [] e es i g f l k = absurd cc
    one_line_text_before_placeable_reads_back (b ∷ bs) e es i g f l k =
        let x = bytes_of_placeable_begin_with_brace level e (elements_bytes level false es (lf ∷ tail)) in
        let m = suffix_by_equality (ap (λ xs. b ∷ (bs ++ xs)) x.are) l in
        let r =
        run_before_placeable_is_run edition t common (b ∷ bs) e es [] rest i b bs x.rest
        (one_line_text_has_run_bytes (b ∷ bs) g f) m
        (λ j n. k j (suffix_by_equality (sym x.are) n)) in
        mid_run edition t common (b ∷ bs) (elements (placeable e) es) [] (123 ∷ x.rest) rest i r m

    pub no_text_follows_one_line_text : (v w : Text) (es : PatternTree Text) → has_lf v ≡ false →
        may_occur_at edition false (position_after v) w es ≡ true → ⊥
    no_text_follows_one_line_text v w es e f =
        false≢true (sym
        (ap (λ s. may_occur_at edition false s w es) (ap (λ b. if b then after_line else within_line)
        (ends_not_in_lf v e)))
        ∙ f)

    -- from within a line on
    pub one_line_elements_read_back : (es : PatternTree Text) (s : ElementPosition) (i : ℕ) →
        ElementsReadBack edition t level es → are_elements edition false s es ≡ true → has_no_lf es ≡ true →
        SuffixAt t i (elements_bytes level false es (lf ∷ tail)) → ReadsBackFrom es i
    one_line_elements_read_back no_elements s i h g f l = line_end_ends_mid_line edition t common tail rest i ends l
    one_line_elements_read_back (elements (placeable e) es) s i h g f l =
        let x = bytes_of_placeable_begin_with_brace level e (elements_bytes level false es (lf ∷ tail)) in
        placeable_reads_mid_line edition t common e es [] i x.rest (elements_bytes level false es (lf ∷ tail)) rest
        (suffix_by_equality x.are l)
        (h.0.back i (elements_bytes level false es (lf ∷ tail)) l)
        (λ j m. one_line_elements_read_back es after_placeable j h.1 g f m)
    one_line_elements_read_back (elements (text_element v) no_elements) s i h g f l =
        one_line_text_at_end_reads_back v i (and_gives_left (is_text v) _ g)
        (not_true_is_false (has_lf v) (and_gives_left (not (has_lf v)) true f))
        (and_gives_left (ends_plainly v)
        _ (and_gives_right (may_occur_at edition false s v no_elements) _ (and_gives_right (is_text v) _ g))) l
    one_line_elements_read_back (elements (text_element v) (elements (placeable e) es)) s i h g f l =
        one_line_text_before_placeable_reads_back v e es i (and_gives_left (is_text v) _ g)
        (not_true_is_false (has_lf v) (and_gives_left (not (has_lf v)) _ f))
        (suffix_by_equality (ap (λ b. v ++
        (line_indent level b ++ element_bytes level (placeable e) (elements_bytes level false es (lf ∷ tail))))
        (ends_not_in_lf v (not_true_is_false (has_lf v) (and_gives_left (not (has_lf v)) _ f)))) l)
        (λ j m. one_line_elements_read_back (elements (placeable e) es) (position_after v) j h
        (and_gives_right (may_occur_at edition false s v (elements (placeable e) es)) _
        (and_gives_right (is_text v) _ g))
        (and_gives_right (not (has_lf v)) _ f) m)
    one_line_elements_read_back (elements (text_element v) (elements (text_element w) es)) s i h g f l =
        absurd (no_text_follows_one_line_text v w es
        (not_true_is_false (has_lf v) (and_gives_left (not (has_lf v)) _ f))
        (and_gives_left (may_occur_at edition false (position_after v) w es)
        _ (and_gives_right (is_text w)
        _ (and_gives_right (may_occur_at edition false s v (elements (text_element w) es))
        _ (and_gives_right (is_text v) _ g)))))

-- ---- the pattern

-- a place where a pattern may open within its line: there is no space, and no line end begins
pub record OpensAt (t : List ℕ) (i : ℕ) (bs : List ℕ) : Type 0 where
  pub no_space : holds is_space (first bs) ≡ false
  pub no_eol : after_eol t i ≡ None

module _ (edition : Edition) (t : List ℕ) where
  pub run_opens_at_its_place : (i b : ℕ) (bs ys : List ℕ) → is_space b ≡ false → list_all is_run_byte (b ∷ bs) ≡ true →
      ends_in_cr_before (b ∷ bs) ys ≡ false → SuffixAt t i (b ∷ (bs ++ ys)) → OpensAt t i (b ∷ (bs ++ ys))
  run_opens_at_its_place i b bs ys s a c l =
      let on : is_run_place t i ≡ true =
      place_of_run_byte_is_run_place t i b (bs ++ ys) (and_gives_left (is_run_byte b) (list_all is_run_byte bs) a)
      (no_eol_in_run b bs ys (and_gives_right (is_run_byte b) (list_all is_run_byte bs) a) c) l in
      record {
        no_space = s;
        no_eol =
            no_bytes_no_eol (has_byte t lf i) (has_byte t cr i && has_byte t lf (i + 1)) (Some (i + 1)) (Some (i + 2))
            (negated_right_is_false _ (has_eol t i) on);
      }

  pub brace_opens_at_its_place : (i : ℕ) (bs ys : List ℕ) → bs ≡ 123 ∷ ys → SuffixAt t i bs → OpensAt t i bs
  brace_opens_at_its_place i bs ys e l =
      record { no_space = rw e refl; no_eol = suffix_has_no_after_eol (suffix_by_equality e l) refl refl }

  -- the layout of a pattern that opens within its line
  layout_of_opening_pieces_is_read : (i j at end : ℕ) (ps : List Piece) (ls : List Line) (bs : List ℕ) →
      InlineBlank t i j →
      after_eol t j ≡ None → grammar.more_pieces edition t j (Read ps at) → SuffixAt t at (lf ∷ bs) →
      grammar.more_lines edition t (at + 1) (Read ls end) →
      layout t (family edition t) i
      (Read (record {
        opening = Some (record { start = j; spaces = 0; pieces = ps; ending = layouts.lf_at at });
        lines = ls;
      }) end)
  layout_of_opening_pieces_is_read i j at end ps ls bs w e p l m =
      let y : Layout =
      record {
        opening = Some (record { start = j; spaces = 0; pieces = ps; ending = layouts.lf_at at });
        lines = ls;
      } in
      goes_on (passed w)
      (chosen (subst (λ o. layout_at t (family edition t) o j (Read y end)) (sym e)
      (goes_on at_place (goes_on p (goes_on (ending_at_lf_reads_lf edition t l) (goes_on m given))))))

  -- a pattern that opens within its line is read back, if its elements are
  pub opening_reads_back :
      (common : Option ℕ) (numbers : List ℕ) (e : ElementTree Text) (es : PatternTree Text) (i : ℕ) (bs rest : List ℕ) →
      least numbers ≡ common → SuffixAt t i (space ∷ bs) → OpensAt t (i + 1) bs →
      ReadsMidLine edition t common (elements e es) numbers (i + 1) rest →
      Reads t (grammar.pattern edition t) (option_map (pattern_map (bytes_at t))) i (Some (elements e es)) rest
  opening_reads_back common numbers e es i bs rest c l o m =
      let y : Layout =
      record {
        opening =
            Some (record { start = i + 1; spaces = 0; pieces = m.pieces; ending = layouts.lf_at m.at });
        lines = m.lines;
      } in
      let same :
      items edition y ≡ with_ending m.pieces (layouts.lf_at m.at) ++ flat_map (line_items edition common) m.lines =
      ap (λ c. with_ending m.pieces (layouts.lf_at m.at) ++ flat_map (line_items edition c) m.lines)
      (ap least m.counts ∙ c) in
      record {
        value = pattern_of edition t y;
        end = m.end;
        reads =
            goes_on (layout_of_opening_pieces_is_read i (i + 1) m.at m.end m.pieces m.lines m.after
            (suffix_byte_run is_space (space ∷ []) bs refl o.no_space l) o.no_eol m.reads_pieces m.ends m.reads_lines)
            given;
        spells =
            ap (λ xs. option_map (pattern_map (bytes_at t)) (if_any (spelled t (cut t xs)))) same
            ∙ items_spell_their_pattern t
            (with_ending m.pieces (layouts.lf_at m.at) ++ flat_map (line_items edition common) m.lines) e es m.spells;
        rest = m.left;
      }
