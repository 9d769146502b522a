-- The elements of a multiline pattern are read back, if its placeables are.
use Rattle.std.proofs.Common.{◌≡◌, ℕ, ◌+◌, ◌*◌, ◌-◌, ◌≤◌, min, List, [], ◌∷◌, ◌++◌, length, map, Option, Some}
use Rattle.std.proofs.Common.{None, Bool, true, false, refl, sym, ◌∙◌, subst, ap, append_assoc, length-append, arith}
use Rattle.std.proofs.Common.{append-nil}
use Rattle.std.proofs.lemmas.Bool.{false≢true}
use Rattle.std.specs.Prelude.{◌==◌, ◌||◌, ◌&&◌, not, if◌then◌else◌}
use Rattle.std.specs.List.{list_all, list_any}
use Rattle.fluent_syntax_tree.specs.Tree.{ExpressionTree, ElementTree, text_element, placeable, PatternTree}
use Rattle.fluent_syntax_tree.specs.Tree.{no_elements, elements}
use Rattle.fluent_syntax_tree.specs.declared.edition.Edition.{Edition}
use Rattle.fluent_syntax_tree.specs.declared.edition.Edition.TheVariants.{One, Two}
use Rattle.fluent_syntax_grammar.specs.PatternTexts.{ends_in_lf, ends_plainly, leading_spaces, after_spaces, is_spaces}
use Rattle.fluent_syntax_grammar.specs.PatternTexts.{is_lone_lf}
use Rattle.fluent_syntax_grammar.specs.Bytes.{lf, cr, space, is_space}
use Rattle.fluent_syntax_grammar.specs.Places.{holds}
use Rattle.fluent_syntax_grammar.specs.Written.{Text, is_last, last_of, indent, begins_with_mark}
use Rattle.fluent_syntax_grammar.specs.Readable.{ElementPosition, after_line, within_line, after_placeable, may_precede}
use Rattle.fluent_syntax_grammar.specs.Readable.{is_text, are_elements, may_occur_at, position_after, indents}
use Rattle.fluent_syntax_grammar.specs.Canonical.{line_indents, are_lone, text_indents, placeable_indents}
use Rattle.fluent_syntax_grammar.specs.Elements.{is_nonblank}
use Rattle.fluent_syntax_grammar.proofs.Facts.{absurd_test, and_gives_left, and_gives_right, same_by_test}
use Rattle.fluent_syntax_grammar.proofs.Facts.{plus_one_is_successor}
use Rattle.fluent_syntax_grammar.proofs.Tests.{true_and_true}
use Rattle.fluent_syntax_grammar.proofs.SuffixAt.{SuffixAt, suffix_by_equality, first, next_of_suffix, rest_past_front}
use Rattle.fluent_syntax_grammar.proofs.marks.LastBytes.{last_of_append_is_of_second}
use Rattle.fluent_syntax_grammar.proofs.forward.Spells.{spells_text}
use Rattle.fluent_syntax_grammar.proofs.marks.WrittenBytes.{element_bytes, elements_bytes, line_indent}
use Rattle.fluent_syntax_grammar.proofs.forward.Runs.{lf_is_taken_off, is_run_byte, TextForm, alone, with_lf}
use Rattle.fluent_syntax_grammar.proofs.forward.Runs.{text_is_run_or_run_with_lf}
use Rattle.fluent_syntax_grammar.proofs.forward.Runs.{run_byte_is_no_lf}
use Rattle.fluent_syntax_grammar.proofs.forward.Lines.{Ends, reads_no_pieces, is_mark_byte}
use Rattle.fluent_syntax_grammar.proofs.forward.Pieces.{ReadsMidLine, Starts, Run, line_end_ends_mid_line}
use Rattle.fluent_syntax_grammar.proofs.forward.Pieces.{placeable_reads_mid_line}
use Rattle.fluent_syntax_grammar.proofs.forward.Pieces.{mid_run}
use Rattle.fluent_syntax_grammar.proofs.forward.Pieces.{run_ends_at_line_end, run_before_placeable_is_run}
use Rattle.fluent_syntax_grammar.proofs.forward.Pieces.{run_at_end_of_line_is_run}
use Rattle.fluent_syntax_grammar.proofs.forward.LineStarts.{run_starts_line, blank_text_starts_line}
use Rattle.fluent_syntax_grammar.proofs.forward.LineStarts.{placeable_starts_line_in_edition_one}
use Rattle.fluent_syntax_grammar.proofs.forward.LineStarts.{placeable_starts_line_in_edition_two}
use Rattle.fluent_syntax_grammar.proofs.forward.LineStarts.{spaces_start_line_in_edition_two}
use Rattle.fluent_syntax_grammar.proofs.forward.Selects.{appended_spaces_are_spaces, replicated_spaces_are_spaces}
use Rattle.fluent_syntax_grammar.proofs.forward.OneLine.{ElementReadsBack, ElementsReadBack}
use Rattle.fluent_syntax_grammar.proofs.forward.OneLine.{bytes_of_placeable_begin_with_brace, plain_no_cr}
use Rattle.fluent_syntax_grammar.proofs.Tests.{and_with_false_is_false, not_true_is_false, or_with_true_is_true}

-- ---- the ends of texts

run_ends_no_line : (c : ℕ) (v : List ℕ) → list_all is_run_byte (c ∷ v) ≡ true → is_last lf (last_of (Some c) v) ≡ false
run_ends_no_line c [] e = run_byte_is_no_lf c (and_gives_left (is_run_byte c) true e)
run_ends_no_line c (b ∷ v) e = run_ends_no_line b v (and_gives_right (is_run_byte c) (list_all is_run_byte (b ∷ v)) e)

-- a run does not end in LF
pub no_lf_ends_run : (v : List ℕ) → list_all is_run_byte v ≡ true → ends_in_lf v ≡ false
no_lf_ends_run [] e = refl
no_lf_ends_run (c ∷ v) e = run_ends_no_line c v e

-- a run and an LF do
lf_after_ends_in_lf : (v body : List ℕ) → v ≡ body ++ (lf ∷ []) → ends_in_lf v ≡ true
lf_after_ends_in_lf v body e = rw (e, last_of_append_is_of_second body None lf []) refl

rest_of_empty_append_is_empty : (xs ys : List ℕ) → xs ++ ys ≡ [] → ys ≡ []
rest_of_empty_append_is_empty [] ys e = e
rest_of_empty_append_is_empty (x ∷ xs) ys e = absurd cc

-- ---- numbers and lone texts within a line

module _ (edition : Edition) where
  indents_in_line_are_those_after_placeable : (es : PatternTree Text) →
      line_indents edition within_line es ≡ line_indents edition after_placeable es
  indents_in_line_are_those_after_placeable no_elements = refl
  indents_in_line_are_those_after_placeable (elements (text_element v) es) = refl
  indents_in_line_are_those_after_placeable (elements (placeable e) es) = refl

  lone_in_line_is_lone_after_placeable : (es : PatternTree Text) → are_lone within_line es ≡ are_lone after_placeable es
  lone_in_line_is_lone_after_placeable no_elements = refl
  lone_in_line_is_lone_after_placeable (elements (text_element v) es) = refl
  lone_in_line_is_lone_after_placeable (elements (placeable e) es) = refl

  indents_after_text_are_those_after_placeable : (v : Text) (es : PatternTree Text) → ends_in_lf v ≡ false →
      line_indents edition (position_after v) es ≡ line_indents edition after_placeable es
  indents_after_text_are_those_after_placeable v es e = rw e (indents_in_line_are_those_after_placeable es)

  indents_after_lf_are_of_line_start : (v : Text) (es : PatternTree Text) → ends_in_lf v ≡ true →
      line_indents edition (position_after v) es ≡ line_indents edition after_line es
  indents_after_lf_are_of_line_start v es e = rw e refl

  -- The common indent that fits a pattern's elements from a place on: that of its level; or none, where no line has a
  -- number and each line-start text is one LF.
  pub data Fit (shift : ℕ) : Option ℕ → ElementPosition → PatternTree Text → Type 0 where
    fixed : {s : ElementPosition} {es : PatternTree Text} → Fit shift (Some shift) s es
    lone : {s : ElementPosition} {es : PatternTree Text} → are_lone s es ≡ true → line_indents edition s es ≡ [] →
        Fit shift None s es

  -- what fits a text and more, fits the elements after it
  fit_goes_on_after_text_in_line : (shift : ℕ) (common : Option ℕ) (v : Text) (es : PatternTree Text) →
      ends_in_lf v ≡ false →
      Fit shift common after_placeable (elements (text_element v) es) → Fit shift common after_placeable es
  fit_goes_on_after_text_in_line shift common v es e fixed = fixed
  fit_goes_on_after_text_in_line shift common v es e (lone a b) =
      lone (sym (ap (λ b. are_lone (if b then after_line else within_line) es) e
      ∙ lone_in_line_is_lone_after_placeable es) ∙ a)
      (sym (indents_after_text_are_those_after_placeable v es e) ∙ b)

  fit_goes_on_after_text_with_lf : (shift : ℕ) (common : Option ℕ) (v : Text) (es : PatternTree Text) →
      ends_in_lf v ≡ true →
      Fit shift common after_placeable (elements (text_element v) es) → Fit shift common after_line es
  fit_goes_on_after_text_with_lf shift common v es e fixed = fixed
  fit_goes_on_after_text_with_lf shift common v es e (lone a b) =
      lone (sym (ap (λ b. are_lone (if b then after_line else within_line) es) e) ∙ a)
      (sym (indents_after_lf_are_of_line_start v es e) ∙ b)

  -- the same of a text that begins a line
  fit_goes_on_after_text_at_line : (shift : ℕ) (common : Option ℕ) (v : Text) (es : PatternTree Text) →
      ends_in_lf v ≡ false →
      Fit shift common after_line (elements (text_element v) es) → Fit shift common after_placeable es
  fit_goes_on_after_text_at_line shift common v es e fixed = fixed
  fit_goes_on_after_text_at_line shift common v es e (lone a b) =
      lone (sym (ap (λ b. are_lone (if b then after_line else within_line) es) e
      ∙ lone_in_line_is_lone_after_placeable es)
      ∙ and_gives_right (is_lone_lf v) (are_lone (position_after v) es) a)
      (sym (indents_after_text_are_those_after_placeable v es e)
      ∙ rest_of_empty_append_is_empty (text_indents edition v) (line_indents edition (position_after v) es) b)

  fit_goes_on_after_whole_line : (shift : ℕ) (common : Option ℕ) (v : Text) (es : PatternTree Text) →
      ends_in_lf v ≡ true → Fit shift common after_line (elements (text_element v) es) → Fit shift common after_line es
  fit_goes_on_after_whole_line shift common v es e fixed = fixed
  fit_goes_on_after_whole_line shift common v es e (lone a b) =
      lone (sym (ap (λ b. are_lone (if b then after_line else within_line) es) e)
      ∙ and_gives_right (is_lone_lf v) (are_lone (position_after v) es) a)
      (sym (indents_after_lf_are_of_line_start v es e)
      ∙ rest_of_empty_append_is_empty (text_indents edition v) (line_indents edition (position_after v) es) b)

  fit_goes_on_after_placeable_at_line : (shift : ℕ) (common : Option ℕ) (e : ExpressionTree Text)
      (es : PatternTree Text) →
      Fit shift common after_line (elements (placeable e) es) → Fit shift common after_placeable es
  fit_goes_on_after_placeable_at_line shift common e es fixed = fixed
  fit_goes_on_after_placeable_at_line shift common e es (lone a b) =
      lone a (rest_of_empty_append_is_empty (placeable_indents edition) (line_indents edition after_placeable es) b)

  fit_goes_on_after_placeable : (shift : ℕ) (common : Option ℕ) (e : ExpressionTree Text) (es : PatternTree Text) →
      Fit shift common after_placeable (elements (placeable e) es) → Fit shift common after_placeable es
  fit_goes_on_after_placeable shift common e es fixed = fixed
  fit_goes_on_after_placeable shift common e es (lone a b) = lone a b

-- ---- spaces that begin a text

pub record Split (v : List ℕ) : Type 0 where
  pub gap : List ℕ
  pub more : List ℕ
  pub are : v ≡ gap ++ more
  pub spaces : list_all is_space gap ≡ true
  pub plain : holds is_space (first more) ≡ false

split_goes_on_after_byte : (b : ℕ) (v : List ℕ) (x : Bool) → is_space b ≡ x → Split v → Split (b ∷ v)
split_goes_on_after_byte b v true e s =
    record {
      gap = b ∷ s.gap;
      more = s.more;
      are = ap (λ v. b ∷ v) s.are;
      spaces = true_and_true e s.spaces;
      plain =
          s.plain;
    }
split_goes_on_after_byte b v false e s = record { gap = []; more = b ∷ v; are = refl; spaces = refl; plain = e }

pub text_splits_into_spaces_and_rest : (v : List ℕ) → Split v
text_splits_into_spaces_and_rest [] = record { gap = []; more = []; are = refl; spaces = refl; plain = refl }
text_splits_into_spaces_and_rest (b ∷ v) =
    split_goes_on_after_byte b v (is_space b) refl (text_splits_into_spaces_and_rest v)

cons_is_not_empty : {m : ℕ} {ns : List ℕ} → m ∷ ns ≡ [] → ⊥
cons_is_not_empty e = cc

-- the spaces are counted
leading_spaces-gap : (gap : List ℕ) (b : ℕ) (bs : List ℕ) → list_all is_space gap ≡ true → is_space b ≡ false →
    leading_spaces (gap ++ (b ∷ bs)) ≡ length gap
leading_spaces-gap [] b bs a e = rw e refl
leading_spaces-gap (x ∷ gap) b bs a e =
    rw (and_gives_left (is_space x) (list_all is_space gap) a)
    (ap (λ n. n + 1) (leading_spaces-gap gap b bs (and_gives_right (is_space x) (list_all is_space gap) a) e)
    ∙ plus_one_is_successor (length gap))

-- such a text is nonblank
byte_is_nonblank : (gap : List ℕ) (b : ℕ) (bs : List ℕ) → is_space b ≡ false → (b == lf) ≡ false →
    is_nonblank (gap ++ (b ∷ bs)) ≡ true
byte_is_nonblank [] b [] e f = rw (f, e) refl
byte_is_nonblank [] b (c ∷ bs) e f = rw e refl
byte_is_nonblank (x ∷ []) b bs e f = rw (byte_is_nonblank [] b bs e f) (or_with_true_is_true (not (is_space x)))
byte_is_nonblank (x ∷ y ∷ gap) b bs e f =
    rw (byte_is_nonblank (y ∷ gap) b bs e f) (or_with_true_is_true (not (is_space x)))

indent_of_shown_text_is_its_spaces : (edition : Edition) (v : Text) → is_nonblank v ≡ true →
    text_indents edition v ≡ leading_spaces v ∷ []
indent_of_shown_text_is_its_spaces One v e = rw e refl
indent_of_shown_text_is_its_spaces Two v e = rw e refl

module _ (edition : Edition) (t : List ℕ) (level : ℕ) (common : Option ℕ) (tail rest : List ℕ) (ends : Ends tail rest)
  where
    abbrev pub shifted : ElementPosition → PatternTree Text → List ℕ
    shifted s es = map (λ n. length (indent level) + n) (line_indents edition s es)

    pub text_with_lf_ends_not_plainly : (v body : List ℕ) → v ≡ body ++ (lf ∷ []) → ends_plainly v ≡ true → ⊥
    text_with_lf_ends_not_plainly v body e p =
        false≢true (sym
        (ap (holds (λ b. not (Rattle.fluent_syntax_tree.specs.Text.is_trimmed b)))
        (ap (last_of None) e ∙ last_of_append_is_of_second body None lf [])) ∙ p)

    -- ---- a text within a line

    last_text_reads_mid_line : (v : Text) (i : ℕ) → is_text v ≡ true → ends_plainly v ≡ true →
        SuffixAt t i (v ++ (lf ∷ tail)) →
        ReadsMidLine edition t common (elements (text_element v) no_elements) [] i rest
    last_text_reads_mid_line v i e p l = at_form v i e p l (text_is_run_or_run_with_lf v e)
      where
        at_form : (v : Text) (i : ℕ) → is_text v ≡ true → ends_plainly v ≡ true → SuffixAt t i (v ++ (lf ∷ tail)) →
            TextForm v → ReadsMidLine edition t common (elements (text_element v) no_elements) [] i rest
        at_form v i e p l (with_lf body is a c) = absurd (text_with_lf_ends_not_plainly v body is p)
        at_form [] i e p l (alone a) = absurd cc
        at_form (b ∷ bs) i e p l (alone a) =
            mid_run edition t common (b ∷ bs) no_elements [] (lf ∷ tail) rest i
            (run_ends_at_line_end edition t common (b ∷ bs) tail rest i b bs p ends a (rw (plain_no_cr (b ∷ bs) p) refl)
            l) l

    -- before a placeable
    text_before_placeable_reads_mid_line : (v : Text) (e : ExpressionTree Text) (es : PatternTree Text)
        (numbers : List ℕ) (i : ℕ) → is_text v ≡ true → list_all is_run_byte v ≡ true →
        SuffixAt t i (v ++ element_bytes level (placeable e) (elements_bytes level false es (lf ∷ tail))) →
        ((j : ℕ) → SuffixAt t j (element_bytes level (placeable e) (elements_bytes level false es (lf ∷ tail))) →
        ReadsMidLine edition t common (elements (placeable e) es) numbers j rest) →
        ReadsMidLine edition t common (elements (text_element v) (elements (placeable e) es)) numbers i rest
    text_before_placeable_reads_mid_line [] e es numbers i g a l k = absurd cc
    text_before_placeable_reads_mid_line (b ∷ bs) e es numbers i g a l k =
        let x = bytes_of_placeable_begin_with_brace level e (elements_bytes level false es (lf ∷ tail)) in
        let m = suffix_by_equality (ap (λ xs. b ∷ (bs ++ xs)) x.are) l in
        let r =
        run_before_placeable_is_run edition t common (b ∷ bs) e es numbers rest i b bs x.rest a m
        (λ j n. k j (suffix_by_equality (sym x.are) n)) in
        mid_run edition t common (b ∷ bs) (elements (placeable e) es) numbers (123 ∷ x.rest) rest i r m

    -- that ends its line
    text_with_lf_reads_mid_line : (v body : Text) (e : ElementTree Text) (es : PatternTree Text) (numbers : List ℕ)
        (i : ℕ) → v ≡ body ++ (lf ∷ []) → list_all is_run_byte body ≡ true → is_last cr (last_of None body) ≡ false →
        (more : List ℕ) → SuffixAt t i (v ++ more) →
        ((j : ℕ) → SuffixAt t j more → Starts edition t common (elements e es) numbers j rest) →
        ReadsMidLine edition t common (elements (text_element v) (elements e es)) numbers i rest
    text_with_lf_reads_mid_line v [] e es numbers i is a c more l k =
        let n : SuffixAt t i (lf ∷ more) = suffix_by_equality (ap (λ v. v ++ more) is) l in
        let m = k (i + 1) (next_of_suffix n) in
        record {
          pieces = [];
          at = i;
          after = more;
          lines = m.lines;
          end = m.end;
          reads_pieces = reads_no_pieces edition t n;
          ends = n;
          reads_lines = m.reads;
          left = m.left;
          spells = spells_text l (next_of_suffix n) m.spells;
          counts = m.counts;
        }
    text_with_lf_reads_mid_line v (b ∷ bs) e es numbers i is a c more l k =
        let m = suffix_by_equality (ap (λ v. v ++ more) is ∙ ap (λ xs. b ∷ xs) (append_assoc bs (lf ∷ []) more)) l in
        mid_run edition t common v (elements e es) numbers more rest i
        (run_at_end_of_line_is_run edition t common v e es numbers rest i b bs more a c m k) l

-- ---- a text that begins a line

module _ (edition : Edition) (t : List ℕ) (level : ℕ) (tail rest : List ℕ) where
  -- A run after the indent and perhaps more spaces: the line counts with these spaces.
  shown_text_after_gap_starts_line : (gap : List ℕ) (b : ℕ) (bs source : List ℕ) (es : PatternTree Text)
      (numbers : List ℕ) (i : ℕ) →
      1 ≤ length (indent level) → list_all is_space gap ≡ true → is_space b ≡ false → not (is_mark_byte b) ≡ true →
      SuffixAt t i (indent level ++ ((gap ++ (b ∷ bs)) ++ source)) →
      ((j : ℕ) → SuffixAt t j (b ∷ (bs ++ source)) →
      Run edition t (Some (length (indent level))) (gap ++ (b ∷ bs)) es numbers j source rest) →
      Starts edition t (Some (length (indent level))) (elements (text_element (gap ++ (b ∷ bs))) es)
      ((length (indent level) + length gap) ∷ numbers) i rest
  shown_text_after_gap_starts_line gap b bs source es numbers i deep a s e l k =
      let ind = indent level in
      let size = length-append ind gap in
      let all : list_all is_space (ind ++ gap) ≡ true =
      appended_spaces_are_spaces ind gap (replicated_spaces_are_spaces (4 * level)) a in
      let whole : ind ++ ((gap ++ (b ∷ bs)) ++ source) ≡ (ind ++ gap) ++ (b ∷ (bs ++ source)) =
      ap (λ v. ind ++ v) (append_assoc gap (b ∷ bs) source) ∙ sym (append_assoc ind gap (b ∷ (bs ++ source))) in
      let m = suffix_by_equality whole l in
      let r = k (i + length (ind ++ gap)) (rest_past_front (ind ++ gap) m) in
      subst (λ n. Starts edition t (Some (length ind)) (elements (text_element (gap ++ (b ∷ bs))) es) (n ∷ numbers) i
      rest) size (run_starts_line edition t ind gap b bs source es numbers rest i all (omega arith) s e m
      (rest_past_front ind l) r)

-- ---- a placeable that begins a line

-- with the level's indent before it
placeable_after_indent_starts_line :
    (edition : Edition) (t : List ℕ) (level : ℕ) (common : Option ℕ) (tail rest : List ℕ) (e : ExpressionTree Text)
    (es : PatternTree Text) → 1 ≤ length (indent level) → ElementReadsBack edition t level e →
    Fit edition (length (indent level)) common after_line (elements (placeable e) es) →
    ((i : ℕ) → SuffixAt t i (elements_bytes level false es (lf ∷ tail)) →
    ReadsMidLine edition t common es (map (λ n. length (indent level) + n) (line_indents edition after_placeable es)) i
    rest) →
    (i : ℕ) → SuffixAt t i (elements_bytes level true (elements (placeable e) es) (lf ∷ tail)) →
    Starts edition t common (elements (placeable e) es)
    (map (λ n. length (indent level) + n) (line_indents edition after_line (elements (placeable e) es))) i rest
placeable_after_indent_starts_line One t level common tail rest e es deep h f mid i l =
    let x = bytes_of_placeable_begin_with_brace level e (elements_bytes level false es (lf ∷ tail)) in
    let m = suffix_by_equality (ap (λ v. indent level ++ v) x.are) l in
    let n = rest_past_front (indent level) l in
    placeable_starts_line_in_edition_one t common (indent level) x.rest e es _ rest i
    (replicated_spaces_are_spaces (4 * level)) deep m
    (placeable_reads_mid_line One t common e es _ (i + length (indent level)) x.rest
    (elements_bytes level false es (lf ∷ tail))
    rest (suffix_by_equality x.are n) (h.back (i + length (indent level)) (elements_bytes level false es (lf ∷ tail)) n)
    mid)
placeable_after_indent_starts_line Two t level common tail rest e es deep h (lone a b) mid i l = absurd cc
placeable_after_indent_starts_line Two t level common tail rest e es deep h fixed mid i l =
    let x = bytes_of_placeable_begin_with_brace level e (elements_bytes level false es (lf ∷ tail)) in
    let m = suffix_by_equality (ap (λ v. indent level ++ v) x.are) l in
    let n = rest_past_front (indent level) l in
    let zero_more : length (indent level) ≡ length (indent level) + 0 = omega arith in
    let ns = map (λ n. length (indent level) + n) (line_indents Two after_placeable es) in
    subst (λ k. Starts Two t (Some (length (indent level))) (elements (placeable e) es) (k ∷ ns) i rest) zero_more
    (placeable_starts_line_in_edition_two t (indent level) x.rest e es ns rest i
    (replicated_spaces_are_spaces (4 * level)) deep m
    (placeable_reads_mid_line Two t (Some (length (indent level))) e es ns (i + length (indent level)) x.rest
    (elements_bytes level false es (lf ∷ tail)) rest (suffix_by_equality x.are n)
    (h.back (i + length (indent level)) (elements_bytes level false es (lf ∷ tail)) n) mid))

-- ---- what a text that begins a line is asked

after_spaces-gap : (gap : List ℕ) (b : ℕ) (bs : List ℕ) → list_all is_space gap ≡ true → is_space b ≡ false →
    after_spaces (gap ++ (b ∷ bs)) ≡ b ∷ bs
after_spaces-gap [] b bs a e = rw e refl
after_spaces-gap (x ∷ gap) b bs a e =
    rw (and_gives_left (is_space x) (list_all is_space gap) a)
    (after_spaces-gap gap b bs (and_gives_right (is_space x) (list_all is_space gap) a) e)

-- a byte of a run that begins no mark begins a line that belongs
run_byte_is_no_mark : (b : ℕ) → is_run_byte b ≡ true → begins_with_mark (b ∷ []) ≡ false → not (is_mark_byte b) ≡ true
run_byte_is_no_mark b e f = marks (b == 46) (b == 91) (b == 42) (b == 125) (b == lf) (b == 123) e f
  where
    marks : (x y z w l o : Bool) → not (l || o || w) ≡ true → (x || y || z) ≡ false → not (x || w || y || z) ≡ true
    marks false false false false l o e f = refl
    marks true y z w l o e f = cc
    marks false true z w l o e f = cc
    marks false false true w l o e f = cc
    marks false false false true false false e f = cc
    marks false false false true true o e f = cc
    marks false false false true false true e f = cc

later_text_has_no_mark : (edition : Edition) (v : Text) (es : PatternTree Text) (gap : List ℕ) (b : ℕ) (bs : List ℕ) →
    v ≡ gap ++ (b ∷ bs) → list_all is_space gap ≡ true → is_space b ≡ false →
    may_occur_at edition true after_line v es ≡ true → begins_with_mark (b ∷ []) ≡ false
later_text_has_no_mark edition v es gap b bs is a e g =
    sym (ap begins_with_mark (ap after_spaces is ∙ after_spaces-gap gap b bs a e))
    ∙ not_true_is_false (begins_with_mark (after_spaces v))
    (and_gives_right (not (is_spaces v) || indents edition v es) _ g)

pub second_of_passing_append_passes : (p : ℕ → Bool) (xs ys : List ℕ) → list_all p (xs ++ ys) ≡ true →
    list_all p ys ≡ true
second_of_passing_append_passes p [] ys e = e
second_of_passing_append_passes p (x ∷ xs) ys e =
    second_of_passing_append_passes p xs ys (and_gives_right (p x) (list_all p (xs ++ ys)) e)

pub last_of-gap : (gap : List ℕ) (b : ℕ) (bs : List ℕ) → last_of None (gap ++ (b ∷ bs)) ≡ last_of None (b ∷ bs)
last_of-gap gap b bs = last_of_append_is_of_second gap None b bs

module _ (edition : Edition) (t : List ℕ) (level : ℕ) (rest : List ℕ) where
  -- the line of such a text, given the run after its spaces
  shown_text_after_gap_starts : (common : Option ℕ) (v gap : List ℕ) (b : ℕ) (bs source : List ℕ)
      (es : PatternTree Text) (i : ℕ) →
      v ≡ gap ++ (b ∷ bs) → 1 ≤ length (indent level) → list_all is_space gap ≡ true → is_space b ≡ false →
      (b == lf) ≡ false → not (is_mark_byte b) ≡ true →
      Fit edition (length (indent level)) common after_line (elements (text_element v) es) →
      SuffixAt t i (indent level ++ (v ++ source)) →
      ((j : ℕ) → SuffixAt t j (b ∷ (bs ++ source)) →
      Run edition t common v es (map (λ n. length (indent level) + n) (line_indents edition (position_after v) es)) j
      source rest) →
      Starts edition t common (elements (text_element v) es)
      (map (λ n. length (indent level) + n) (line_indents edition after_line (elements (text_element v) es))) i rest
  shown_text_after_gap_starts common v gap b bs source es i is deep a s n e (lone x y) l k =
      absurd (cons_is_not_empty
      (sym (ap (λ ns. ns ++ line_indents edition (position_after v) es)
      (indent_of_shown_text_is_its_spaces edition v (ap is_nonblank is ∙ byte_is_nonblank gap b bs s n))) ∙ y))
  shown_text_after_gap_starts common v gap b bs source es i is deep a s n e fixed l k =
      let shift = length (indent level) in
      let others = map (λ n. shift + n) (line_indents edition (position_after v) es) in
      let numbers : text_indents edition v ≡ length gap ∷ [] =
      indent_of_shown_text_is_its_spaces edition v (ap is_nonblank is ∙ byte_is_nonblank gap b bs s n)
      ∙ ap (λ m. m ∷ []) (ap leading_spaces is ∙ leading_spaces-gap gap b bs a s) in
      let all :
      map (λ n. shift + n) (line_indents edition after_line (elements (text_element v) es))
      ≡ (shift + length gap) ∷ others =
      ap (λ ns. map (λ n. shift + n) (ns ++ line_indents edition (position_after v) es)) numbers in
      subst (λ ns. Starts edition t (Some shift) (elements (text_element v) es) ns i rest) (sym all)
      (subst (λ v'.
      Starts edition t (Some shift) (elements (text_element v') es) ((shift + length gap) ∷ others) i rest)
      (sym is)
      (shown_text_after_gap_starts_line edition t level source rest gap b bs source es others i deep a s e
      (suffix_by_equality (ap (λ v. indent level ++ (v ++ source)) is) l)
      (λ j m. subst (λ v'. Run edition t (Some shift) v' es others j source rest) is (k j m))))

-- ---- blank lines

pub gap_is_blank : (gap : List ℕ) → list_all is_space gap ≡ true → list_any (λ b. not (is_space b)) gap ≡ false
gap_is_blank [] e = refl
gap_is_blank (x ∷ gap) e =
    rw (and_gives_left (is_space x) (list_all is_space gap) e)
    (gap_is_blank gap (and_gives_right (is_space x) (list_all is_space gap) e))

pub spaces_and_lf_are_not_spaces : (gap : List ℕ) → list_all is_space (gap ++ (lf ∷ [])) ≡ false
spaces_and_lf_are_not_spaces [] = refl
spaces_and_lf_are_not_spaces (x ∷ gap) = rw (spaces_and_lf_are_not_spaces gap) (and_with_false_is_false (is_space x))

-- a blank line has no number
blank_line_has_no_indent : (edition : Edition) (v gap : List ℕ) → v ≡ gap ++ (lf ∷ []) → list_all is_space gap ≡ true →
    text_indents edition v ≡ []
blank_line_has_no_indent One v gap e s =
    rw (ap is_nonblank e ∙ ap (list_any (λ b. not (is_space b))) (lf_is_taken_off gap) ∙ gap_is_blank gap s) refl
blank_line_has_no_indent Two v gap e s =
    rw (
      ap is_nonblank e ∙ ap (list_any (λ b. not (is_space b))) (lf_is_taken_off gap) ∙ gap_is_blank gap s,
      ap is_spaces e
          ∙ spaces_and_lf_are_not_spaces gap,
    ) refl

lone_lf_is_lf : (v : List ℕ) → is_lone_lf v ≡ true → v ≡ lf ∷ []
lone_lf_is_lf [] e = absurd cc
lone_lf_is_lf (b ∷ []) e = ap (λ b. b ∷ []) (same_by_test b lf (and_gives_left (b == lf) true e))
lone_lf_is_lf (b ∷ c ∷ bs) e = absurd (absurd_test e (and_with_false_is_false (b == lf)))

module _ (edition : Edition) (t : List ℕ) (level : ℕ) (rest : List ℕ) where
  blank_line_starts_line :
      (common : Option ℕ) (v gap : List ℕ) (d : ElementTree Text) (es : PatternTree Text) (numbers more : List ℕ)
      (i : ℕ) → v ≡ gap ++ (lf ∷ []) → list_all is_space gap ≡ true →
      Fit edition (length (indent level)) common after_line (elements (text_element v) (elements d es)) →
      SuffixAt t i (indent level ++ (v ++ more)) →
      ((j : ℕ) → SuffixAt t j more → Starts edition t common (elements d es) numbers j rest) →
      Starts edition t common (elements (text_element v) (elements d es)) numbers i rest
  blank_line_starts_line common v gap d es numbers more i e s fixed l k =
      let ind = indent level in
      let size = length-append ind gap in
      let whole : ind ++ (v ++ more) ≡ (ind ++ gap) ++ (lf ∷ more) =
      ap (λ v. ind ++ (v ++ more)) e ∙ ap (λ xs. ind ++ xs) (append_assoc gap (lf ∷ []) more)
      ∙ sym (append_assoc ind gap (lf ∷ more)) in
      let kept : i + length ind ≡ i + min ((i + length (ind ++ gap)) - i) (length ind) = omega arith in
      blank_text_starts_line edition t (Some (length ind)) (ind ++ gap) v more d es numbers rest i
      (appended_spaces_are_spaces ind gap (replicated_spaces_are_spaces (4 * level)) s) (suffix_by_equality whole l)
      (subst (λ p. SuffixAt t p (v ++ more)) kept (rest_past_front ind l)) k
  blank_line_starts_line common v gap d es numbers more i e s (lone x y) l k =
      let ind = indent level in
      let only = lone_lf_is_lf v (and_gives_left (is_lone_lf v) (are_lone (position_after v) (elements d es)) x) in
      let kept : i + length ind ≡ i + ((i + length ind) - i) = omega arith in
      blank_text_starts_line edition t None ind v more d es numbers rest i (replicated_spaces_are_spaces (4 * level))
      (suffix_by_equality (ap (λ v. ind ++ (v ++ more)) only) l)
      (subst (λ p. SuffixAt t p (v ++ more)) kept (rest_past_front ind l)) k

-- ---- spaces alone

-- They indent a placeable, in edition two.
true_test_means_indent : (x y z : Bool) → x ≡ true → ((not x || y) && z) ≡ true → y ≡ true
true_test_means_indent true true z e f = refl
true_test_means_indent true false z e f = cc
true_test_means_indent false y z e f = cc

pub text_of_spaces_is_blank : (v : List ℕ) → list_all is_space v ≡ true → is_nonblank v ≡ false
text_of_spaces_is_blank [] e = refl
text_of_spaces_is_blank (b ∷ []) e =
    ap (λ b. is_nonblank (b ∷ [])) (same_by_test b space (and_gives_left (is_space b) true e))
text_of_spaces_is_blank (b ∷ c ∷ v) e =
    rw (and_gives_left (is_space b) (list_all is_space (c ∷ v)) e)
    (text_of_spaces_is_blank (c ∷ v) (and_gives_right (is_space b) (list_all is_space (c ∷ v)) e))

indent_of_spaces_is_their_count : (v : List ℕ) → list_all is_space v ≡ true → text_indents Two v ≡ length v ∷ []
indent_of_spaces_is_their_count v e = rw (text_of_spaces_is_blank v e, e) refl

spaces_starts :
    (edition : Edition) (t : List ℕ) (level : ℕ) (common : Option ℕ) (tail rest : List ℕ) (v : Text)
    (es : PatternTree Text) → is_text v ≡ true → list_all is_run_byte v ≡ true → list_all is_space v ≡ true →
    may_occur_at edition true after_line v es ≡ true →
    Fit edition (length (indent level)) common after_line (elements (text_element v) es) →
    ((i : ℕ) → SuffixAt t i (elements_bytes level false es (lf ∷ tail)) →
    ReadsMidLine edition t common es (map (λ n. length (indent level) + n) (line_indents edition after_placeable es)) i
    rest) →
    (i : ℕ) → SuffixAt t i (elements_bytes level true (elements (text_element v) es) (lf ∷ tail)) →
    Starts edition t common (elements (text_element v) es)
    (map (λ n. length (indent level) + n) (line_indents edition after_line (elements (text_element v) es))) i rest
spaces_starts One t level common tail rest v es is a s g f mid i l =
    absurd (false≢true (true_test_means_indent (is_spaces v) false _ s g))
spaces_starts Two t level common tail rest v es is a s g (lone x y) mid i l =
    absurd (cons_is_not_empty
    (sym (ap (λ ns. ns ++ line_indents Two (position_after v) es) (indent_of_spaces_is_their_count v s)) ∙ y))
spaces_starts Two t level common tail rest v no_elements is a s g fixed mid i l =
    absurd (false≢true
    (and_gives_right (is_spaces v) false (true_test_means_indent (is_spaces v) (is_spaces v && false) _ s g)))
spaces_starts Two t level common tail rest v (elements (text_element w) es) is a s g fixed mid i l =
    absurd (false≢true
    (and_gives_right (is_spaces v) false (true_test_means_indent (is_spaces v) (is_spaces v && false) _ s g)))
spaces_starts Two t level common tail rest [] (elements (placeable e) es) is a s g fixed mid i l = absurd cc
spaces_starts Two t level common tail rest (c ∷ v) (elements (placeable e) es) is a s g fixed mid i l =
    let ind = indent level in
    let sp = c ∷ v in
    let brace = bytes_of_placeable_begin_with_brace level e (elements_bytes level false es (lf ∷ tail)) in
    let end = no_lf_ends_run sp a in
    let m =
    suffix_by_equality (ap (λ b. ind ++
    (sp ++
    (line_indent level b ++ element_bytes level (placeable e) (elements_bytes level false es (lf ∷ tail)))))
    end ∙ ap (λ xs. ind ++ (sp ++ xs)) brace.are) l in
    let n = suffix_by_equality (sym (append_assoc ind sp (123 ∷ brace.rest))) m in
    let size = length-append ind sp in
    let numbers :
    map (λ n. length ind + n) (line_indents Two after_line (elements (text_element sp) (elements (placeable e) es)))
    ≡ length (ind ++ sp) ∷
    map (λ n. length ind + n) (line_indents Two after_placeable (elements (placeable e) es)) =
    ap (λ ns. map (λ n. length ind + n) (ns ++ line_indents Two (position_after sp) (elements (placeable e) es)))
    (indent_of_spaces_is_their_count sp s)
    ∙ ap (λ ns. (length ind + length sp) ∷ map (λ n. length ind + n) ns)
    (indents_after_text_are_those_after_placeable Two sp (elements (placeable e) es) end)
    ∙ ap (λ k. k ∷ map (λ n. length ind + n) (line_indents Two after_placeable (elements (placeable e) es)))
    (sym size) in
    subst (λ ns. Starts Two t (Some (length ind)) (elements (text_element sp) (elements (placeable e) es)) ns i rest)
    (sym numbers)
    (spaces_start_line_in_edition_two t ind sp brace.rest e es
    (map (λ n. length ind + n) (line_indents Two after_placeable (elements (placeable e) es))) rest i
    (appended_spaces_are_spaces ind sp (replicated_spaces_are_spaces (4 * level)) s) (omega arith) n
    (rest_past_front ind m)
    (mid (i + length (ind ++ sp)) (suffix_by_equality (sym brace.are) (rest_past_front (ind ++ sp) n))))

-- ---- all elements

module _ (edition : Edition) (t : List ℕ) (level : ℕ) (common : Option ℕ) (tail rest : List ℕ) (ends : Ends tail rest)
    (deep : 1 ≤ length (indent level)) where
  abbrev Numbers : ElementPosition → PatternTree Text → List ℕ
  Numbers s es = shifted edition t level common tail rest ends s es

  abbrev MidOf : PatternTree Text → Type 0
  MidOf es =
      (i : ℕ) → SuffixAt t i (elements_bytes level false es (lf ∷ tail)) →
      ReadsMidLine edition t common es (Numbers after_placeable es) i rest

  abbrev StartsOf : PatternTree Text → Type 0
  StartsOf es =
      (i : ℕ) → SuffixAt t i (elements_bytes level true es (lf ∷ tail)) →
      Starts edition t common es (Numbers after_line es) i rest

  -- where there are elements
  abbrev StartsIf : PatternTree Text → Type 0
  StartsIf no_elements = Unit {0}
  StartsIf (elements d es) = StartsOf (elements d es)

  -- the parts of what a text and the elements after it are asked
  pub text_element_is_text : (s : ElementPosition) (v : Text) (es : PatternTree Text) →
      are_elements edition true s (elements (text_element v) es) ≡ true → is_text v ≡ true
  text_element_is_text s v es g = and_gives_left (is_text v) _ g

  pub text_of_elements_may_occur : (s : ElementPosition) (v : Text) (es : PatternTree Text) →
      are_elements edition true s (elements (text_element v) es) ≡ true → may_occur_at edition true s v es ≡ true
  text_of_elements_may_occur s v es g =
      and_gives_left (may_occur_at edition true s v es) _ (and_gives_right (is_text v) _ g)

  pub text_may_precede_what_follows : (s : ElementPosition) (v : Text) (es : PatternTree Text) →
      are_elements edition true s (elements (text_element v) es) ≡ true → may_precede v es ≡ true
  text_may_precede_what_follows s v es g =
      and_gives_left (may_precede v es) _
      (and_gives_right (may_occur_at edition true s v es) _ (and_gives_right (is_text v) _ g))

  pub elements_after_text_are_elements : (s : ElementPosition) (v : Text) (es : PatternTree Text) →
      are_elements edition true s (elements (text_element v) es) ≡ true →
      are_elements edition true (position_after v) es ≡ true
  elements_after_text_are_elements s v es g =
      and_gives_right (may_precede v es) _
      (and_gives_right (may_occur_at edition true s v es) _ (and_gives_right (is_text v) _ g))

  -- a text without LF is followed by no text
  pub no_text_follows_text_without_lf : (v w : Text) (es : PatternTree Text) → ends_in_lf v ≡ false →
      are_elements edition true (position_after v) (elements (text_element w) es) ≡ true → ⊥
  no_text_follows_text_without_lf v w es e g =
      false≢true (sym (ap (λ s. may_occur_at edition true s w es) (ap (λ b. if b then after_line else within_line) e))
      ∙ text_of_elements_may_occur (position_after v) w es g)

  elements_after_lf_are_elements_after_line : (v : Text) (es : PatternTree Text) → ends_in_lf v ≡ true →
      are_elements edition true (position_after v) es ≡ true → are_elements edition true after_line es ≡ true
  elements_after_lf_are_elements_after_line v es e g =
      sym (ap (λ b. are_elements edition true (if b then after_line else within_line) es) e) ∙ g

  -- what a text within a line leads to, by its form and by what follows
  text_reads_mid_line : (v : Text) (es : PatternTree Text) (s : ElementPosition) →
      are_elements edition true s (elements (text_element v) es) ≡ true → (ends_in_lf v ≡ false → MidOf es) →
      (ends_in_lf v ≡ true → StartsIf es) → TextForm v → MidOf (elements (text_element v) es)
  text_reads_mid_line v no_elements s g mid start (alone a) i l =
      last_text_reads_mid_line edition t level common tail rest ends v i (text_element_is_text s v no_elements g)
      (text_may_precede_what_follows s v no_elements g)
      (suffix_by_equality (ap (λ b. v ++ (lf ∷ tail)) (no_lf_ends_run v a)) l)
  text_reads_mid_line v no_elements s g mid start (with_lf body is a c) i l =
      absurd (text_with_lf_ends_not_plainly edition t level common tail rest ends v body is
      (text_may_precede_what_follows s v no_elements g))
  text_reads_mid_line v (elements (placeable e) es) s g mid start (alone a) i l =
      subst (λ ns. ReadsMidLine edition t common (elements (text_element v) (elements (placeable e) es)) ns i rest)
      (ap (map (λ n. length (indent level) + n))
      (sym (indents_after_text_are_those_after_placeable edition v (elements (placeable e) es) (no_lf_ends_run v a))))
      (text_before_placeable_reads_mid_line edition t level common tail rest ends v e es
      (Numbers after_placeable (elements (placeable e) es)) i
      (text_element_is_text s v (elements (placeable e) es) g) a
      (suffix_by_equality (ap (λ b. v ++
      (line_indent level b ++ element_bytes level (placeable e) (elements_bytes level false es (lf ∷ tail))))
      (no_lf_ends_run v a)) l) (mid (no_lf_ends_run v a)))
  text_reads_mid_line v (elements (text_element w) es) s g mid start (alone a) i l =
      absurd (no_text_follows_text_without_lf v w es (no_lf_ends_run v a)
      (elements_after_text_are_elements s v (elements (text_element w) es) g))
  text_reads_mid_line v (elements d es) s g mid start (with_lf body is a c) i l =
      subst (λ ns. ReadsMidLine edition t common (elements (text_element v) (elements d es)) ns i rest)
      (ap (map (λ n. length (indent level) + n))
      (sym (indents_after_lf_are_of_line_start edition v (elements d es) (lf_after_ends_in_lf v body is))))
      (text_with_lf_reads_mid_line edition t level common tail rest ends v body d es
      (Numbers after_line (elements d es)) i is a c
      (elements_bytes level true (elements d es) (lf ∷ tail))
      (suffix_by_equality
      (ap (λ b. v ++ elements_bytes level b (elements d es) (lf ∷ tail)) (lf_after_ends_in_lf v body is)) l)
      (start (lf_after_ends_in_lf v body is)))

  pub rest_of_run_is_run : (v gap : List ℕ) (b : ℕ) (bs : List ℕ) → v ≡ gap ++ (b ∷ bs) →
      list_all is_run_byte v ≡ true → list_all is_run_byte (b ∷ bs) ≡ true
  rest_of_run_is_run v gap b bs is a =
      second_of_passing_append_passes is_run_byte gap (b ∷ bs) (sym (ap (list_all is_run_byte) is) ∙ a)

  -- a run after spaces
  shown_text_alone_starts_line : (v : Text) (es : PatternTree Text) →
      are_elements edition true after_line (elements (text_element v) es) ≡ true →
      Fit edition (length (indent level)) common after_line (elements (text_element v) es) →
      (ends_in_lf v ≡ false → MidOf es) → list_all is_run_byte v ≡ true →
      (gap : List ℕ) (b : ℕ) (bs : List ℕ) → v ≡ gap ++ (b ∷ bs) → list_all is_space gap ≡ true → is_space b ≡ false →
      StartsOf (elements (text_element v) es)
  shown_text_alone_starts_line v no_elements g f mid a gap b bs is c e i l =
      let part = rest_of_run_is_run v gap b bs is a in
      let byte = and_gives_left (is_run_byte b) (list_all is_run_byte bs) part in
      let mark =
      run_byte_is_no_mark b byte
      (later_text_has_no_mark edition v no_elements gap b bs is c e
      (text_of_elements_may_occur after_line v no_elements g)) in
      let plain = text_may_precede_what_follows after_line v no_elements g in
      let safe : is_last cr (last_of None (b ∷ bs)) ≡ false =
      sym (ap (is_last cr) (ap (last_of None) is ∙ last_of-gap gap b bs)) ∙ plain_no_cr v plain in
      shown_text_after_gap_starts edition t level rest common v gap b bs (lf ∷ tail) no_elements i is deep c e
      (run_byte_is_no_lf b byte) mark
      f l (λ j m. run_ends_at_line_end edition t common v tail rest j b bs plain ends part (rw safe refl) m)
  shown_text_alone_starts_line v (elements (placeable x) es) g f mid a gap b bs is c e i l =
      let part = rest_of_run_is_run v gap b bs is a in
      let byte = and_gives_left (is_run_byte b) (list_all is_run_byte bs) part in
      let mark =
      run_byte_is_no_mark b byte
      (later_text_has_no_mark edition v (elements (placeable x) es) gap b bs is c e
      (text_of_elements_may_occur after_line v (elements (placeable x) es) g)) in
      let brace = bytes_of_placeable_begin_with_brace level x (elements_bytes level false es (lf ∷ tail)) in
      let end = no_lf_ends_run v a in
      let m =
      suffix_by_equality (ap (λ b. indent level ++
      (v ++
      (line_indent level b ++ element_bytes level (placeable x) (elements_bytes level false es (lf ∷ tail)))))
      end ∙ ap (λ xs. indent level ++ (v ++ xs)) brace.are) l in
      let same =
      ap (map (λ n. length (indent level) + n))
      (sym (indents_after_text_are_those_after_placeable edition v (elements (placeable x) es) end)) in
      shown_text_after_gap_starts edition t level rest common v gap b bs (123 ∷ brace.rest) (elements (placeable x) es)
      i is deep c e
      (run_byte_is_no_lf b byte) mark f m (λ j n.
      subst (λ ns. Run edition t common v (elements (placeable x) es) ns j (123 ∷ brace.rest) rest) same
      (run_before_placeable_is_run edition t common v x es
      (Numbers after_placeable (elements (placeable x) es)) rest j b bs brace.rest
      part n (λ k o. mid end k (suffix_by_equality (sym brace.are) o))))
  shown_text_alone_starts_line v (elements (text_element w) es) g f mid a gap b bs is c e i l =
      absurd (no_text_follows_text_without_lf v w es (no_lf_ends_run v a)
      (elements_after_text_are_elements after_line v (elements (text_element w) es) g))

  -- what a text at the beginning of a line leads to
  text_of_form_starts_line : (v : Text) (es : PatternTree Text) →
      are_elements edition true after_line (elements (text_element v) es) ≡ true →
      Fit edition (length (indent level)) common after_line (elements (text_element v) es) →
      (ends_in_lf v ≡ false → MidOf es) → (ends_in_lf v ≡ true → StartsIf es) → TextForm v →
      StartsOf (elements (text_element v) es)
  text_of_form_starts_line v es g f mid start (alone a) = alone_of (text_splits_into_spaces_and_rest v)
    where
      spaces_alone : list_all is_space v ≡ true → StartsOf (elements (text_element v) es)
      spaces_alone e =
          spaces_starts edition t level common tail rest v es (text_element_is_text after_line v es g) a e
          (text_of_elements_may_occur after_line v es g) f (mid (no_lf_ends_run v a))

      alone_at : (gap more : List ℕ) → v ≡ gap ++ more → list_all is_space gap ≡ true →
          holds is_space (first more) ≡ false → StartsOf (elements (text_element v) es)
      alone_at gap [] is c e = spaces_alone (ap (list_all is_space) (is ∙ append-nil gap) ∙ c)
      alone_at gap (b ∷ bs) is c e = shown_text_alone_starts_line v es g f mid a gap b bs is c e

      alone_of : Split v → StartsOf (elements (text_element v) es)
      alone_of s = alone_at s.gap s.more s.are s.spaces s.plain
  text_of_form_starts_line v no_elements g f mid start (with_lf body is a c) =
      absurd (text_with_lf_ends_not_plainly edition t level common tail rest ends v body is
      (text_may_precede_what_follows after_line v no_elements g))
  text_of_form_starts_line v (elements d es) g f mid start (with_lf body is a c) =
      line_of_split (text_splits_into_spaces_and_rest body)
    where
      ends_in : ends_in_lf v ≡ true
      ends_in = lf_after_ends_in_lf v body is

      blank_line_of : (gap : List ℕ) → v ≡ gap ++ (lf ∷ []) → list_all is_space gap ≡ true →
          StartsOf (elements (text_element v) (elements d es))
      blank_line_of gap e s i l =
          let more = elements_bytes level true (elements d es) (lf ∷ tail) in
          let m =
          suffix_by_equality
          (ap (λ b. indent level ++ (v ++ elements_bytes level b (elements d es) (lf ∷ tail))) ends_in) l in
          let same =
          ap (λ ns. map (λ n. length (indent level) + n)
          (ns ++ line_indents edition (position_after v) (elements d es))) (blank_line_has_no_indent edition v gap e s)
          ∙ ap (map (λ n. length (indent level) + n))
          (indents_after_lf_are_of_line_start edition v (elements d es) ends_in) in
          subst (λ ns. Starts edition t common (elements (text_element v) (elements d es)) ns i rest) (sym same)
          (blank_line_starts_line edition t level rest common v gap d es
          (Numbers after_line (elements d es)) more i e s f m
          (λ j o. start ends_in j o))

      shown_line : (gap : List ℕ) (b : ℕ) (bs : List ℕ) → body ≡ gap ++ (b ∷ bs) → list_all is_space gap ≡ true →
          is_space b ≡ false → StartsOf (elements (text_element v) (elements d es))
      shown_line gap b bs e s n i l =
          let part = rest_of_run_is_run body gap b bs e a in
          let byte = and_gives_left (is_run_byte b) (list_all is_run_byte bs) part in
          let whole : v ≡ gap ++ (b ∷ (bs ++ (lf ∷ []))) =
          is ∙ ap (λ v. v ++ (lf ∷ [])) e ∙ append_assoc gap (b ∷ bs) (lf ∷ []) in
          let mark =
          run_byte_is_no_mark b byte
          (later_text_has_no_mark edition v (elements d es) gap b (bs ++ (lf ∷ [])) whole s n
          (text_of_elements_may_occur after_line v (elements d es) g)) in
          let safe : is_last cr (last_of None (b ∷ bs)) ≡ false =
          sym (ap (is_last cr) (ap (last_of None) e ∙ last_of-gap gap b bs)) ∙ c in
          let more = elements_bytes level true (elements d es) (lf ∷ tail) in
          let m =
          suffix_by_equality
          (ap (λ b. indent level ++ (v ++ elements_bytes level b (elements d es) (lf ∷ tail))) ends_in) l in
          let same =
          ap (map (λ n. length (indent level) + n))
          (sym (indents_after_lf_are_of_line_start edition v (elements d es) ends_in)) in
          shown_text_after_gap_starts edition t level rest common v gap b (bs ++ (lf ∷ [])) more (elements d es) i whole
          deep s n
          (run_byte_is_no_lf b byte) mark f m (λ j o.
          subst (λ ns. Run edition t common v (elements d es) ns j more rest) same
          (run_at_end_of_line_is_run edition t common v d es
          (Numbers after_line (elements d es)) rest j b bs more part safe
          (suffix_by_equality (ap (λ xs. b ∷ xs) (append_assoc bs (lf ∷ []) more)) o) (λ k q. start ends_in k q)))

      line_at : (gap more : List ℕ) → body ≡ gap ++ more → list_all is_space gap ≡ true →
          holds is_space (first more) ≡ false → StartsOf (elements (text_element v) (elements d es))
      line_at gap [] e s n = blank_line_of gap (is ∙ ap (λ v. v ++ (lf ∷ [])) (e ∙ append-nil gap)) s
      line_at gap (b ∷ bs) e s n = shown_line gap b bs e s n

      line_of_split : Split body → StartsOf (elements (text_element v) (elements d es))
      line_of_split s = line_at s.gap s.more s.are s.spaces s.plain

  mutual
    -- from within a line on
    pub lines_mid : (es : PatternTree Text) (s : ElementPosition) → ElementsReadBack edition t level es →
        are_elements edition true s es ≡ true → Fit edition (length (indent level)) common after_placeable es → MidOf es
    lines_mid no_elements s h g f i l = line_end_ends_mid_line edition t common tail rest i ends l
    lines_mid (elements (placeable e) es) s h g f i l =
        let x = bytes_of_placeable_begin_with_brace level e (elements_bytes level false es (lf ∷ tail)) in
        placeable_reads_mid_line edition t common e es (Numbers after_placeable es) i x.rest
        (elements_bytes level false es (lf ∷ tail)) rest (suffix_by_equality x.are l)
        (h.0.back i (elements_bytes level false es (lf ∷ tail)) l)
        (λ j m. lines_mid es after_placeable h.1 g
        (fit_goes_on_after_placeable edition (length (indent level)) common e es f) j
        m)
    lines_mid (elements (text_element v) es) s h g f i l =
        text_reads_mid_line v es s g
        (λ e. lines_mid es (position_after v) h (elements_after_text_are_elements s v es g)
        (fit_goes_on_after_text_in_line edition (length (indent level)) common v es e f))
        (λ e. elements_read_back_from_line_start es h
        (elements_after_lf_are_elements_after_line v es e (elements_after_text_are_elements s v es g))
        (fit_goes_on_after_text_with_lf edition (length (indent level)) common v es e f))
        (text_is_run_or_run_with_lf v (text_element_is_text s v es g)) i l

    -- from the start of a later line on
    pub elements_read_back_from_line_start : (es : PatternTree Text) → ElementsReadBack edition t level es →
        are_elements edition true after_line es ≡ true → Fit edition (length (indent level)) common after_line es →
        StartsIf es
    elements_read_back_from_line_start no_elements h g f = tt
    elements_read_back_from_line_start (elements (placeable e) es) h g f =
        placeable_after_indent_starts_line edition t level common tail rest e es deep h.0 f
        (lines_mid es after_placeable h.1 g
        (fit_goes_on_after_placeable_at_line edition (length (indent level)) common e es f))
    elements_read_back_from_line_start (elements (text_element v) es) h g f =
        text_of_form_starts_line v es g f
        (λ e. lines_mid es (position_after v) h (elements_after_text_are_elements after_line v es g)
        (fit_goes_on_after_text_at_line edition (length (indent level)) common v es e f))
        (λ e. elements_read_back_from_line_start es h
        (elements_after_lf_are_elements_after_line v es e (elements_after_text_are_elements after_line v es g))
        (fit_goes_on_after_whole_line edition (length (indent level)) common v es e f))
        (text_is_run_or_run_with_lf v (text_element_is_text after_line v es g))
