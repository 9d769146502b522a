-- The later lines of a written pattern, read forwards: each begins with the indent of its level, and then with a text
-- or a placeable.
use Rattle.std.proofs.Common.{◌≡◌, ℕ, ◌+◌, ◌-◌, ◌≤◌, ◌<◌, min, List, [], ◌∷◌, ◌++◌, length, Option, Some, true}
use Rattle.std.proofs.Common.{false, refl, ◌∙◌, subst, ap, length-append, arith}
use Rattle.std.specs.Prelude.{◌==◌, not, nat_lt}
use Rattle.std.specs.List.{list_all, flat_map}
use Rattle.std.proofs.lemmas.Bool.Decides.{nat_tests}
use Rattle.fluent_syntax_tree.specs.Tree.{ExpressionTree, ElementTree, text_element, placeable, PatternTree, elements}
use Rattle.fluent_syntax_tree.specs.declared.edition.Edition.{Edition}
use Rattle.fluent_syntax_tree.specs.declared.edition.Edition.TheVariants.{One, Two}
use Rattle.fluent_syntax_grammar.specs.Bytes.{lf, is_space}
use Rattle.fluent_syntax_grammar.specs.Layout.{Piece, run, placed, lf_at, counted, counted_spaces}
use Rattle.fluent_syntax_grammar.specs.Elements.{Item, with_ending, common_indent_end, items_from, line_items}
use Rattle.fluent_syntax_grammar.specs.Lines.{belongs}
use Rattle.fluent_syntax_grammar.specs.Written.{Text}
use Rattle.fluent_syntax_grammar.proofs.SuffixAt.{SuffixAt, first, first_of_suffix, next_of_suffix, rest_past_front}
use Rattle.fluent_syntax_grammar.proofs.SuffixAt.{suffix_byte_run}
use Rattle.fluent_syntax_grammar.proofs.forward.Spells.{Spells, spells_text}
use Rattle.fluent_syntax_grammar.proofs.forward.Lines.{is_mark_byte, line_of, line_reads_before_more_lines}
use Rattle.fluent_syntax_grammar.proofs.forward.Lines.{reads_no_pieces}
use Rattle.fluent_syntax_grammar.proofs.forward.Lines.{suffix_of_lf_has_eol}
use Rattle.fluent_syntax_grammar.proofs.forward.Lines.{line_of_eol_belongs_to_pattern}
use Rattle.fluent_syntax_grammar.proofs.forward.Pieces.{ReadsMidLine, Starts, Run}
use Rattle.fluent_syntax_grammar.proofs.Tests.{or_with_true_is_true}

place_is_before_later : (i n : ℕ) → 1 ≤ n → nat_lt i (i + n) ≡ true
place_is_before_later i n l = grind (arith, nat_tests)

module _ (edition : Edition) (t : List ℕ) where
  -- after leading spaces a byte that is no mark begins a line that belongs
  text_after_indent_belongs_to_pattern : (i n b : ℕ) (bs : List ℕ) → 1 ≤ n → not (is_mark_byte b) ≡ true →
      SuffixAt t (i + n) (b ∷ bs) →
      belongs t (nat_lt i (i + n)) (i + n) ≡ true
  text_after_indent_belongs_to_pattern i n b bs l e m =
      rw (place_is_before_later i n l, first_of_suffix m, e) (or_with_true_is_true _)

  -- a line that begins with a run
  pub run_starts_line :
      (ind sp : List ℕ) (b : ℕ) (bs source : List ℕ) (es : PatternTree Text) (numbers rest : List ℕ) (i : ℕ) →
      list_all is_space (ind ++ sp) ≡ true → 1 ≤ length (ind ++ sp) → is_space b ≡ false → not (is_mark_byte b) ≡ true →
      SuffixAt t i ((ind ++ sp) ++ (b ∷ (bs ++ source))) → SuffixAt t (i + length ind) ((sp ++ (b ∷ bs)) ++ source) →
      Run edition t (Some (length ind)) (sp ++ (b ∷ bs)) es numbers (i + length (ind ++ sp)) source rest →
      Starts edition t (Some (length ind)) (elements (text_element (sp ++ (b ∷ bs))) es) (length (ind ++ sp) ∷ numbers)
      i rest
  run_starts_line ind sp b bs source es numbers rest i a n s e l k r =
      let m = rest_past_front (ind ++ sp) l in
      let size = length-append ind sp in
      let kept : i + length ind ≡ i + min ((i + length (ind ++ sp)) - i) (length ind) = omega arith in
      let spaces : (i + length (ind ++ sp)) - i ≡ length (ind ++ sp) = omega arith in
      record {
        lines =
            line_of edition t i (i + length (ind ++ sp)) (run (i + length (ind ++ sp)) r.to ∷ r.pieces) r.at ∷ r.lines;
        end = r.end;
        reads =
            line_reads_before_more_lines edition t (run (i + length (ind ++ sp)) r.to ∷ r.pieces) r.lines r.end
            (suffix_byte_run is_space (ind ++ sp) (b ∷ (bs ++ source)) a s l) (first_of_suffix m)
            (text_after_indent_belongs_to_pattern i (length (ind ++ sp)) b (bs ++ source) n e m) r.reads_pieces r.ends
            r.reads_lines;
        left = r.left;
        spells =
            r.spells (i + min ((i + length (ind ++ sp)) - i) (length ind))
            (subst (λ p. SuffixAt t p ((sp ++ (b ∷ bs)) ++ source)) kept k);
        counts = ap (λ n. n ∷ flat_map (counted edition) r.lines) spaces ∙ ap (λ ns. length (ind ++ sp) ∷ ns) r.counts;
      }

  -- a blank line
  pub blank_text_starts_line :
      (common : Option ℕ) (gap v more : List ℕ) (e : ElementTree Text) (es : PatternTree Text) (numbers rest : List ℕ)
      (i : ℕ) → list_all is_space gap ≡ true →
      SuffixAt t i (gap ++ (lf ∷ more)) →
      SuffixAt t (common_indent_end common (line_of edition t i (i + length gap) [] (i + length gap))) (v ++ more) →
      ((j : ℕ) → SuffixAt t j more → Starts edition t common (elements e es) numbers j rest) →
      Starts edition t common (elements (text_element v) (elements e es)) numbers i rest
  blank_text_starts_line common gap v more e es numbers rest i a l k next =
      let m = rest_past_front gap l in
      let r = next (i + length gap + 1) (next_of_suffix m) in
      record {
        lines = line_of edition t i (i + length gap) [] (i + length gap) ∷ r.lines;
        end = r.end;
        reads =
            line_reads_before_more_lines edition t [] r.lines r.end (suffix_byte_run is_space gap (lf ∷ more) a refl l)
            (first_of_suffix m)
            (line_of_eol_belongs_to_pattern edition t (nat_lt i (i + length gap)) (i + length gap)
            (suffix_of_lf_has_eol edition t m))
            (reads_no_pieces edition t m) m r.reads;
        left = r.left;
        spells = spells_text k (next_of_suffix m) r.spells;
        counts = r.counts;
      }

-- ---- lines that begin with a placeable

module _ (t : List ℕ) where
  -- In edition one the leading spaces before a placeable are dropped, and the line does not count.
  items_of_placeable_line_spell_in_one : (kept first at : ℕ) (ps : List Piece) (xs : List Item)
      (e : ExpressionTree Text) (es : PatternTree Text) →
      Spells t (with_ending ps (lf_at at) ++ xs) (elements (placeable e) es) →
      Spells t (items_from One kept first ps (lf_at at) ++ xs) (elements (placeable e) es)
  items_of_placeable_line_spell_in_one kept first at [] xs e es s = elim s [ ]
  items_of_placeable_line_spell_in_one kept first at (run from to ∷ []) xs e es s = elim s [ ]
  items_of_placeable_line_spell_in_one kept first at (run from to ∷ p ∷ ps) xs e es s = elim s [ ]
  items_of_placeable_line_spell_in_one kept first at (placed x ∷ ps) xs e es s = s

  placeable_line_counts_no_indent_in_one : (spaces at : ℕ) (ps : List Piece) (xs : List Item) (e : ExpressionTree Text)
      (es : PatternTree Text) → 1 ≤ spaces → Spells t (with_ending ps (lf_at at) ++ xs) (elements (placeable e) es) →
      counted_spaces One spaces ps ≡ []
  placeable_line_counts_no_indent_in_one spaces at [] xs e es n s = elim s [ ]
  placeable_line_counts_no_indent_in_one spaces at (run from to ∷ []) xs e es n s = elim s [ ]
  placeable_line_counts_no_indent_in_one spaces at (run from to ∷ p ∷ ps) xs e es n s = elim s [ ]
  placeable_line_counts_no_indent_in_one spaces at (placed x ∷ ps) xs e es n s = rw (not_zero spaces n) refl
    where
      not_zero : (n : ℕ) → 1 ≤ n → (n == 0) ≡ false
      not_zero n l = grind (arith, nat_tests)

  -- In edition two those beyond the common indent are a text before it, and the line counts.
  items_of_placeable_line_spell_in_two : (kept first at : ℕ) (ps : List Piece) (xs : List Item)
      (e : ExpressionTree Text) (es : PatternTree Text) →
      nat_lt kept first ≡ false → Spells t (with_ending ps (lf_at at) ++ xs) (elements (placeable e) es) →
      Spells t (items_from Two kept first ps (lf_at at) ++ xs) (elements (placeable e) es)
  items_of_placeable_line_spell_in_two kept first at [] xs e es n s = elim s [ ]
  items_of_placeable_line_spell_in_two kept first at (run from to ∷ []) xs e es n s = elim s [ ]
  items_of_placeable_line_spell_in_two kept first at (run from to ∷ p ∷ ps) xs e es n s = elim s [ ]
  items_of_placeable_line_spell_in_two kept first at (placed x ∷ ps) xs e es n s = rw n s

  spaces_before_placeable_spell_in_two :
      (kept first at : ℕ) (ps : List Piece) (xs : List Item) (e : ExpressionTree Text) (es : PatternTree Text)
      (v source : List ℕ) → nat_lt kept first ≡ true → SuffixAt t kept (v ++ source) → SuffixAt t first source →
      Spells t (with_ending ps (lf_at at) ++ xs) (elements (placeable e) es) →
      Spells t (items_from Two kept first ps (lf_at at) ++ xs) (elements (text_element v) (elements (placeable e) es))
  spaces_before_placeable_spell_in_two kept first at [] xs e es v source n k l s = elim s [ ]
  spaces_before_placeable_spell_in_two kept first at (run from to ∷ []) xs e es v source n k l s = elim s [ ]
  spaces_before_placeable_spell_in_two kept first at (run from to ∷ p ∷ ps) xs e es v source n k l s = elim s [ ]
  spaces_before_placeable_spell_in_two kept first at (placed x ∷ ps) xs e es v source n k l s = rw n (spells_text k l s)

  spelled_placeable_counts_its_spaces : (spaces at : ℕ) (ps : List Piece) (xs : List Item) (e : ExpressionTree Text)
      (es : PatternTree Text) →
      Spells t (with_ending ps (lf_at at) ++ xs) (elements (placeable e) es) →
      counted_spaces Two spaces ps ≡ spaces ∷ []
  spelled_placeable_counts_its_spaces spaces at [] xs e es s = elim s [ ]
  spelled_placeable_counts_its_spaces spaces at (run from to ∷ []) xs e es s = elim s [ ]
  spelled_placeable_counts_its_spaces spaces at (run from to ∷ p ∷ ps) xs e es s = elim s [ ]
  spelled_placeable_counts_its_spaces spaces at (placed x ∷ ps) xs e es s = refl

  equal_number_is_not_less : (a b : ℕ) → a ≡ b → nat_lt a b ≡ false
  equal_number_is_not_less a b e = grind (arith, nat_tests)

  -- the line, in edition one
  pub placeable_starts_line_in_edition_one :
      (common : Option ℕ) (ind bs : List ℕ) (e : ExpressionTree Text) (es : PatternTree Text) (numbers rest : List ℕ)
      (i : ℕ) → list_all is_space ind ≡ true → 1 ≤ length ind → SuffixAt t i (ind ++ (123 ∷ bs)) →
      ReadsMidLine One t common (elements (placeable e) es) numbers (i + length ind) rest →
      Starts One t common (elements (placeable e) es) numbers i rest
  placeable_starts_line_in_edition_one common ind bs e es numbers rest i a n l m =
      let k = rest_past_front ind l in
      let line = line_of One t i (i + length ind) m.pieces m.at in
      record {
        lines = line ∷ m.lines;
        end = m.end;
        reads =
            line_reads_before_more_lines One t m.pieces m.lines m.end (suffix_byte_run is_space ind (123 ∷ bs) a refl l)
            (first_of_suffix k)
            (text_after_indent_belongs_to_pattern One t i (length ind) 123 bs n refl k) m.reads_pieces m.ends
            m.reads_lines;
        left = m.left;
        spells =
            items_of_placeable_line_spell_in_one (common_indent_end common line)
            (i + ((i + length ind) - i)) m.at m.pieces
            (flat_map (line_items One common) m.lines) e es m.spells;
        counts =
            ap (λ ns. ns ++ flat_map (counted One) m.lines)
            (placeable_line_counts_no_indent_in_one ((i + length ind) - i) m.at m.pieces
            (flat_map (line_items One common) m.lines) e es
            (omega arith) m.spells) ∙ m.counts;
      }

  -- the line, in edition two
  pub placeable_starts_line_in_edition_two :
      (ind bs : List ℕ) (e : ExpressionTree Text) (es : PatternTree Text) (numbers rest : List ℕ) (i : ℕ) →
      list_all is_space ind ≡ true → 1 ≤ length ind → SuffixAt t i (ind ++ (123 ∷ bs)) →
      ReadsMidLine Two t (Some (length ind)) (elements (placeable e) es) numbers (i + length ind) rest →
      Starts Two t (Some (length ind)) (elements (placeable e) es) (length ind ∷ numbers) i rest
  placeable_starts_line_in_edition_two ind bs e es numbers rest i a n l m =
      let k = rest_past_front ind l in
      let line = line_of Two t i (i + length ind) m.pieces m.at in
      let spaces : (i + length ind) - i ≡ length ind = omega arith in
      record {
        lines = line ∷ m.lines;
        end = m.end;
        reads =
            line_reads_before_more_lines Two t m.pieces m.lines m.end (suffix_byte_run is_space ind (123 ∷ bs) a refl l)
            (first_of_suffix k)
            (text_after_indent_belongs_to_pattern Two t i (length ind) 123 bs n refl k) m.reads_pieces m.ends
            m.reads_lines;
        left = m.left;
        spells =
            items_of_placeable_line_spell_in_two (common_indent_end (Some (length ind)) line)
            (i + ((i + length ind) - i)) m.at m.pieces
            (flat_map (line_items Two (Some (length ind))) m.lines) e es
            (equal_number_is_not_less _ _ (omega arith)) m.spells;
        counts =
            ap (λ ns. ns ++ flat_map (counted Two) m.lines)
            (spelled_placeable_counts_its_spaces ((i + length ind) - i) m.at m.pieces
            (flat_map (line_items Two (Some (length ind))) m.lines) e
            es m.spells) ∙ ap (λ n. n ∷ flat_map (counted Two) m.lines) spaces
            ∙ ap (λ ns. length ind ∷ ns) m.counts;
      }

  less_number_passes_its_test : (a b : ℕ) → a < b → nat_lt a b ≡ true
  less_number_passes_its_test a b l = grind (arith, nat_tests)

  -- in edition two, with more spaces than the common indent
  pub spaces_start_line_in_edition_two :
      (ind sp bs : List ℕ) (e : ExpressionTree Text) (es : PatternTree Text) (numbers rest : List ℕ) (i : ℕ) →
      list_all is_space (ind ++ sp) ≡ true → 1 ≤ length sp → SuffixAt t i ((ind ++ sp) ++ (123 ∷ bs)) →
      SuffixAt t (i + length ind) (sp ++ (123 ∷ bs)) →
      ReadsMidLine Two t (Some (length ind)) (elements (placeable e) es) numbers (i + length (ind ++ sp)) rest →
      Starts Two t (Some (length ind)) (elements (text_element sp) (elements (placeable e) es))
      (length (ind ++ sp) ∷ numbers) i rest
  spaces_start_line_in_edition_two ind sp bs e es numbers rest i a n l k m =
      let size = length-append ind sp in
      let whole = i + length (ind ++ sp) in
      let there = rest_past_front (ind ++ sp) l in
      let line = line_of Two t i whole m.pieces m.at in
      let spaces : whole - i ≡ length (ind ++ sp) = omega arith in
      let kept : i + length ind ≡ i + min (whole - i) (length ind) = omega arith in
      let first_at : whole ≡ i + (whole - i) = omega arith in
      record {
        lines = line ∷ m.lines;
        end = m.end;
        reads =
            line_reads_before_more_lines Two t m.pieces m.lines m.end
            (suffix_byte_run is_space (ind ++ sp) (123 ∷ bs) a refl l)
            (first_of_suffix there)
            (text_after_indent_belongs_to_pattern Two t i (length (ind ++ sp)) 123 bs (omega arith) refl there)
            m.reads_pieces m.ends m.reads_lines;
        left = m.left;
        spells =
            spaces_before_placeable_spell_in_two (i + min (whole - i) (length ind)) (i + (whole - i)) m.at m.pieces
            (flat_map (line_items Two (Some (length ind))) m.lines) e es sp (123 ∷ bs)
            (less_number_passes_its_test _ _ (omega arith))
            (subst (λ p. SuffixAt t p (sp ++ (123 ∷ bs))) kept k) (subst (λ p. SuffixAt t p (123 ∷ bs)) first_at there)
            m.spells;
        counts =
            ap (λ ns. ns ++ flat_map (counted Two) m.lines)
            (spelled_placeable_counts_its_spaces (whole - i) m.at m.pieces
            (flat_map (line_items Two (Some (length ind))) m.lines) e es
            m.spells) ∙ ap (λ n. n ∷ flat_map (counted Two) m.lines) spaces
            ∙ ap (λ ns. length (ind ++ sp) ∷ ns) m.counts;
      }
