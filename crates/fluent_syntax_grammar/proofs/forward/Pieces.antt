-- The elements of a written pattern, read forwards as the pieces and lines of a layout.
use Rattle.std.proofs.Common.{◌≡◌, ℕ, suc, ◌+◌, ◌<◌, List, [], ◌∷◌, ◌++◌, length, Option, None, Bool, true, false, refl}
use Rattle.std.proofs.Common.{sym, subst, arith}
use Rattle.std.specs.Prelude.{◌==◌, ◌||◌, not}
use Rattle.std.specs.List.{list_all, flat_map}
use Rattle.fluent_syntax_tree.specs.Tree.{ExpressionTree, expression_map, ElementTree, text_element, placeable}
use Rattle.fluent_syntax_tree.specs.Tree.{PatternTree, no_elements, elements}
use Rattle.fluent_syntax_tree.specs.Spans.{bytes_at}
use Rattle.fluent_syntax_tree.specs.declared.spans.Span.{Span}
use Rattle.fluent_syntax_tree.specs.declared.edition.Edition.{Edition}
use Rattle.fluent_syntax_grammar.specs.PatternTexts.{ends_plainly}
use Rattle.fluent_syntax_grammar.specs.Bytes.{lf, cr}
use Rattle.fluent_syntax_grammar.specs.Places.{LongestRun, has_eol}
use Rattle.fluent_syntax_grammar.specs.Construct.{Read, goes_on, given, at_place, passed, chosen, first as first_of}
use Rattle.fluent_syntax_grammar.specs.Construct.{second, item, item_and_more}
use Rattle.fluent_syntax_grammar.specs.Layout.{Piece, run, placed, lf_at, Line, counted}
use Rattle.fluent_syntax_grammar.specs.Elements.{Item, with_ending, line_items}
use Rattle.fluent_syntax_grammar.specs.Lines.{is_run_place, next_piece_at}
use Rattle.fluent_syntax_grammar.specs.Grammar.{family}
use Rattle.fluent_syntax_grammar.specs.Grammar as grammar
use Rattle.fluent_syntax_grammar.specs.Written.{Text, is_last, last_of}
use Rattle.fluent_syntax_grammar.proofs.Facts.{and_gives_left}
use Rattle.fluent_syntax_grammar.proofs.SuffixAt.{SuffixAt, first_of_suffix, next_of_suffix, rest_past_front}
use Rattle.fluent_syntax_grammar.proofs.SuffixAt.{suffix_has_no_eol}
use Rattle.fluent_syntax_grammar.proofs.forward.Reading.{Reads}
use Rattle.fluent_syntax_grammar.proofs.forward.Spells.{Spells, nothing, last_text, spells_text, spells_placeable}
use Rattle.fluent_syntax_grammar.proofs.forward.Runs.{is_run_byte, ends_in_cr_before, suffix_has_run}
use Rattle.fluent_syntax_grammar.proofs.forward.Lines.{Ends, after_reads_back, reads_no_pieces, text_of_lf_is_cut}
use Rattle.fluent_syntax_grammar.proofs.Tests.{and_with_false_is_false, negated_right_is_false}

-- From a place within a line on, the rest of a pattern is read: the pieces of this line and its LF, and the later
-- lines. Under this common indent their items spell the elements, and the lines count with these numbers.
pub record ReadsMidLine (edition : Edition) (t : List ℕ) (common : Option ℕ) (es : PatternTree Text) (numbers : List ℕ)
    (i : ℕ)
    (rest : List ℕ) : Type 0 where
  pub pieces : List Piece
  pub at : ℕ
  pub after : List ℕ
  pub lines : List Line
  pub end : ℕ
  pub reads_pieces : grammar.more_pieces edition t i (Read pieces at)
  pub ends : SuffixAt t at (lf ∷ after)
  pub reads_lines : grammar.more_lines edition t (at + 1) (Read lines end)
  pub left : SuffixAt t end rest
  pub spells : Spells t (with_ending pieces (lf_at at) ++ flat_map (line_items edition common) lines) es
  pub counts : flat_map (counted edition) lines ≡ numbers

-- From the start of a later line on, the rest of a pattern is read.
pub record Starts (edition : Edition) (t : List ℕ) (common : Option ℕ) (es : PatternTree Text) (numbers : List ℕ)
    (i : ℕ) (rest : List ℕ) : Type 0 where
  pub lines : List Line
  pub end : ℕ
  pub reads : grammar.more_lines edition t i (Read lines end)
  pub left : SuffixAt t end rest
  pub spells : Spells t (flat_map (line_items edition common) lines) es
  pub counts : flat_map (counted edition) lines ≡ numbers

-- A run that begins at a place, and the rest of a pattern. The text that it is part of may begin earlier, with kept
-- spaces; `source` is what is left after the text.
pub record Run (edition : Edition) (t : List ℕ) (common : Option ℕ) (v : Text) (es : PatternTree Text)
    (numbers : List ℕ) (i : ℕ) (source rest : List ℕ) : Type 0 where
  pub to : ℕ
  pub pieces : List Piece
  pub at : ℕ
  pub after : List ℕ
  pub lines : List Line
  pub end : ℕ
  pub reads_pieces : grammar.more_pieces edition t i (Read (run i to ∷ pieces) at)
  pub ends : SuffixAt t at (lf ∷ after)
  pub reads_lines : grammar.more_lines edition t (at + 1) (Read lines end)
  pub left : SuffixAt t end rest
  pub spells : (kept : ℕ) → SuffixAt t kept (v ++ source) →
      Spells t (with_ending (run kept to ∷ pieces) (lf_at at) ++ flat_map (line_items edition common) lines)
      (elements (text_element v) es)
  pub counts : flat_map (counted edition) lines ≡ numbers

module _ (edition : Edition) (t : List ℕ) where
  -- the end of the elements
  pub line_end_ends_mid_line : (common : Option ℕ) (tail rest : List ℕ) (i : ℕ) → Ends tail rest →
      SuffixAt t i (lf ∷ tail) →
      ReadsMidLine edition t common no_elements [] i rest
  line_end_ends_mid_line common tail rest i e l =
      let a = after_reads_back edition t common tail rest (i + 1) e (next_of_suffix l) in
      record {
        pieces = [];
        at = i;
        after = tail;
        lines = a.lines;
        end = a.end;
        reads_pieces = reads_no_pieces edition t l;
        ends = l;
        reads_lines = a.reads;
        left = a.left;
        spells =
            nothing (text_of_lf_is_cut edition t i i tail (flat_map (line_items edition common) a.lines) refl l
            a.blank);
        counts = a.counts;
      }

  -- a placeable within a line
  placeable_is_read_before_pieces : {i j : ℕ} {bs : List ℕ} (x : ExpressionTree Span) (ps : List Piece) (at : ℕ) →
      SuffixAt t i (123 ∷ bs) →
      grammar.placeable edition t i (Read x j) → grammar.more_pieces edition t j (Read ps at) →
      grammar.more_pieces edition t i (Read (placed x ∷ ps) at)
  placeable_is_read_before_pieces {i = i} {j = j} x ps at l p q =
      item_and_more (chosen (subst (λ o. next_piece_at t (family edition t) o i (Read (item (placed x) tt) j))
      (sym (first_of_suffix l))
      (chosen (second (suffix_has_no_eol l refl refl) (second refl (first_of refl (goes_on p given))))))) q

  pub placeable_reads_mid_line :
      (common : Option ℕ) (e : ExpressionTree Text) (es : PatternTree Text) (numbers : List ℕ) (i : ℕ)
      (bs left rest : List ℕ) → SuffixAt t i (123 ∷ bs) →
      Reads t (grammar.placeable edition t) (expression_map (bytes_at t)) i e left →
      ((j : ℕ) → SuffixAt t j left → ReadsMidLine edition t common es numbers j rest) →
      ReadsMidLine edition t common (elements (placeable e) es) numbers i rest
  placeable_reads_mid_line common e es numbers i bs left rest l r k =
      let m = k r.end r.rest in
      record {
        pieces = placed r.value ∷ m.pieces;
        at = m.at;
        after = m.after;
        lines = m.lines;
        end = m.end;
        reads_pieces = placeable_is_read_before_pieces r.value m.pieces m.at l r.reads m.reads_pieces;
        ends = m.ends;
        reads_lines = m.reads_lines;
        left = m.left;
        spells = spells_placeable r.spells m.spells;
        counts = m.counts;
      }

  -- ---- runs

  last_two_of_three_are_false : (x y z : Bool) → not (x || y || z) ≡ true → (y ≡ false) × (z ≡ false)
  last_two_of_three_are_false false false false e = (refl, refl)
  last_two_of_three_are_false true y z e = absurd cc
  last_two_of_three_are_false false true z e = absurd cc
  last_two_of_three_are_false false false true e = absurd cc

  run_is_read_before_pieces : {i j b : ℕ} {bs : List ℕ} (ps : List Piece) (at : ℕ) → is_run_byte b ≡ true →
      SuffixAt t i (b ∷ bs) → i < j →
      LongestRun (is_run_place t) i j → grammar.more_pieces edition t j (Read ps at) →
      grammar.more_pieces edition t i (Read (run i j ∷ ps) at)
  run_is_read_before_pieces {i = i} {j = j} {b = b} ps at e l m w q =
      let f = last_two_of_three_are_false (b == lf) (b == 123) (b == 125) e in
      let no_eol : has_eol t i ≡ false = negated_right_is_false _ (has_eol t i) (w.each i (omega arith) m) in
      item_and_more (chosen (subst (λ o. next_piece_at t (family edition t) o i (Read (item (run i j) tt) j))
      (sym (first_of_suffix l))
      (chosen (second no_eol (second f.1 (second f.0
      (goes_on (goes_on at_place (goes_on (passed w) (goes_on at_place given))) given))))))) q

  -- a text that ends the pattern
  pub run_ends_at_line_end : (common : Option ℕ) (v tail rest : List ℕ) (i b : ℕ) (bs : List ℕ) →
      ends_plainly v ≡ true →
      Ends tail rest → list_all is_run_byte (b ∷ bs) ≡ true → ends_in_cr_before (b ∷ bs) (lf ∷ tail) ≡ false →
      SuffixAt t i (b ∷ (bs ++ (lf ∷ tail))) → Run edition t common v no_elements [] i (lf ∷ tail) rest
  run_ends_at_line_end common v tail rest i b bs p e a c l =
      let to = i + suc (length bs) in
      let m : SuffixAt t to (lf ∷ tail) = rest_past_front (b ∷ bs) l in
      let r = after_reads_back edition t common tail rest (to + 1) e (next_of_suffix m) in
      record {
        to = to;
        pieces = [];
        at = to;
        after = tail;
        lines = r.lines;
        end = r.end;
        reads_pieces =
            run_is_read_before_pieces [] to (and_gives_left (is_run_byte b) (list_all is_run_byte bs) a) l (omega arith)
            (suffix_has_run t (b ∷ bs) (lf ∷ tail) i a c refl l) (reads_no_pieces edition t m);
        ends = m;
        reads_lines = r.reads;
        left = r.left;
        spells = λ kept k. last_text k (next_of_suffix m) p r.blank;
        counts = r.counts;
      }

  -- a run before a placeable is a text of its own
  run_before_placeable_spells_its_text :
      (kept to at : ℕ) (v source : List ℕ) (ps : List Piece) (xs : List Item) (e : ExpressionTree Text)
      (es : PatternTree Text) → SuffixAt t kept (v ++ source) → SuffixAt t to source →
      Spells t (with_ending ps (lf_at at) ++ xs) (elements (placeable e) es) →
      Spells t (with_ending (run kept to ∷ ps) (lf_at at) ++ xs) (elements (text_element v) (elements (placeable e) es))
  run_before_placeable_spells_its_text kept to at v source [] xs e es k l s = elim s [ ]
  run_before_placeable_spells_its_text kept to at v source (run from o ∷ []) xs e es k l s = elim s [ ]
  run_before_placeable_spells_its_text kept to at v source (run from o ∷ p ∷ ps) xs e es k l s = elim s [ ]
  run_before_placeable_spells_its_text kept to at v source (placed x ∷ ps) xs e es k l s = spells_text k l s

  -- a text before a placeable
  pub run_before_placeable_is_run :
      (common : Option ℕ) (v : List ℕ) (e : ExpressionTree Text) (es : PatternTree Text) (numbers rest : List ℕ)
      (i b : ℕ) (bs more : List ℕ) → list_all is_run_byte (b ∷ bs) ≡ true → SuffixAt t i (b ∷ (bs ++ (123 ∷ more))) →
      ((j : ℕ) → SuffixAt t j (123 ∷ more) → ReadsMidLine edition t common (elements (placeable e) es) numbers j rest) →
      Run edition t common v (elements (placeable e) es) numbers i (123 ∷ more) rest
  run_before_placeable_is_run common v e es numbers rest i b bs more a l k =
      let to = i + suc (length bs) in
      let n : SuffixAt t to (123 ∷ more) = rest_past_front (b ∷ bs) l in
      let m = k to n in
      record {
        to = to;
        pieces = m.pieces;
        at = m.at;
        after = m.after;
        lines = m.lines;
        end = m.end;
        reads_pieces =
            run_is_read_before_pieces m.pieces m.at (and_gives_left (is_run_byte b) (list_all is_run_byte bs) a) l
            (omega arith)
            (suffix_has_run t (b ∷ bs) (123 ∷ more) i a
            (and_with_false_is_false (is_last cr (last_of None (b ∷ bs)))) refl l)
            m.reads_pieces;
        ends = m.ends;
        reads_lines = m.reads_lines;
        left = m.left;
        spells =
            λ kept x. run_before_placeable_spells_its_text kept to m.at v (123 ∷ more) m.pieces
            (flat_map (line_items edition common) m.lines) e
            es x n m.spells;
        counts = m.counts;
      }

  -- a text that ends its line, and the lines after it
  pub run_at_end_of_line_is_run :
      (common : Option ℕ) (v : List ℕ) (e : ElementTree Text) (es : PatternTree Text) (numbers rest : List ℕ) (i b : ℕ)
      (bs more : List ℕ) → list_all is_run_byte (b ∷ bs) ≡ true → is_last cr (last_of None (b ∷ bs)) ≡ false →
      SuffixAt t i (b ∷ (bs ++ (lf ∷ more))) →
      ((j : ℕ) → SuffixAt t j more → Starts edition t common (elements e es) numbers j rest) →
      Run edition t common v (elements e es) numbers i more rest
  run_at_end_of_line_is_run common v e es numbers rest i b bs more a c l k =
      let to = i + suc (length bs) in
      let n : SuffixAt t to (lf ∷ more) = rest_past_front (b ∷ bs) l in
      let m = k (to + 1) (next_of_suffix n) in
      record {
        to = to;
        pieces = [];
        at = to;
        after = more;
        lines = m.lines;
        end = m.end;
        reads_pieces =
            run_is_read_before_pieces [] to (and_gives_left (is_run_byte b) (list_all is_run_byte bs) a) l (omega arith)
            (suffix_has_run t (b ∷ bs) (lf ∷ more) i a (rw c refl) refl l) (reads_no_pieces edition t n);
        ends = n;
        reads_lines = m.reads;
        left = m.left;
        spells = λ kept x. spells_text x (next_of_suffix n) m.spells;
        counts = m.counts;
      }

  -- a run that begins its text
  pub mid_run :
      (common : Option ℕ) (v : List ℕ) (es : PatternTree Text) (numbers source rest : List ℕ) (i : ℕ)
      (r : Run edition t common v es numbers i source rest) → SuffixAt t i (v ++ source) →
      ReadsMidLine edition t common (elements (text_element v) es) numbers i rest
  mid_run common v es numbers source rest i r l = record {
    pieces = run i r.to ∷ r.pieces;
    at = r.at;
    after = r.after;
    lines = r.lines;
    end = r.end;
    reads_pieces = r.reads_pieces;
    ends = r.ends;
    reads_lines = r.reads_lines;
    left = r.left;
    spells = r.spells i l;
    counts = r.counts;
  }
