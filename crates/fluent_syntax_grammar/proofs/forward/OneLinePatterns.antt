-- Patterns that are not multiline are read back.
use Rattle.std.proofs.Common.{◌≡◌, ℕ, ◌+◌, List, [], ◌∷◌, ◌++◌, Some, None, Bool, true, false, refl, ◌∙◌, ap}
use Rattle.std.specs.Prelude.{option_map}
use Rattle.fluent_syntax_tree.specs.Tree.{ElementTree, text_element, placeable, PatternTree, no_elements, elements}
use Rattle.fluent_syntax_tree.specs.Tree.{pattern_map}
use Rattle.fluent_syntax_tree.specs.Spans.{bytes_at}
use Rattle.fluent_syntax_grammar.specs.PatternTexts.{ends_plainly}
use Rattle.fluent_syntax_grammar.specs.Grammar as grammar
use Rattle.fluent_syntax_grammar.proofs.forward.Reading.{Reads}
use Rattle.fluent_syntax_tree.specs.declared.edition.Edition.{Edition}
use Rattle.fluent_syntax_grammar.specs.Bytes.{lf, cr, space, is_space}
use Rattle.fluent_syntax_grammar.specs.Written.{Text, is_last, last_of, has_lf, is_multiline}
use Rattle.fluent_syntax_grammar.specs.Readable.{opening, is_text, are_elements, may_occur_at, may_be_first}
use Rattle.fluent_syntax_grammar.specs.Readable.{is_pattern, position_after}
use Rattle.fluent_syntax_grammar.specs.Elements.{is_nonblank}
use Rattle.fluent_syntax_grammar.proofs.Facts.{and_gives_left, and_gives_right}
use Rattle.fluent_syntax_grammar.proofs.SuffixAt.{SuffixAt, suffix_by_equality, next_of_suffix}
use Rattle.fluent_syntax_grammar.proofs.marks.WrittenBytes.{element_bytes, elements_bytes, pattern_bytes, line_indent}
use Rattle.fluent_syntax_grammar.proofs.forward.Lines.{Ends}
use Rattle.fluent_syntax_grammar.proofs.forward.OneLine.{ElementsReadBack, has_no_lf}
use Rattle.fluent_syntax_grammar.proofs.forward.OneLine.{bytes_of_placeable_begin_with_brace, plain_no_cr}
use Rattle.fluent_syntax_grammar.proofs.forward.OneLine.{ends_not_in_lf, one_line_text_has_run_bytes}
use Rattle.fluent_syntax_grammar.proofs.forward.OneLine.{no_text_follows_one_line_text, one_line_elements_read_back}
use Rattle.fluent_syntax_grammar.proofs.forward.OneLine.{OpensAt, run_opens_at_its_place, brace_opens_at_its_place}
use Rattle.fluent_syntax_grammar.proofs.forward.OneLine.{opening_reads_back}
use Rattle.fluent_syntax_grammar.proofs.forward.Entries.{PatternReadsBack}
use Rattle.fluent_syntax_grammar.proofs.Tests.{and_with_false_is_false, false_or_left, false_or_right}
use Rattle.fluent_syntax_grammar.proofs.Tests.{not_true_is_false}

one_line_no_lf : (p : PatternTree Text) → is_multiline p ≡ false → has_no_lf p ≡ true
one_line_no_lf no_elements e = refl
one_line_no_lf (elements (text_element v) es) e =
    rw (false_or_left (has_lf v) (is_multiline es) e)
    (one_line_no_lf es (false_or_right (has_lf v) (is_multiline es) e))
one_line_no_lf (elements (placeable x) es) e = one_line_no_lf es (false_or_right _ (is_multiline es) e)

one_line_pattern_begins_with_space : (level : ℕ) (p : PatternTree Text) (tail : Text) → is_multiline p ≡ false →
    pattern_bytes level p tail ≡ space ∷ elements_bytes level false p tail
one_line_pattern_begins_with_space level p tail e = rw e refl

opens_at_equal_bytes : {t : List ℕ} {i : ℕ} {bs cs : List ℕ} → bs ≡ cs → OpensAt t i cs → OpensAt t i bs
opens_at_equal_bytes e o = record { no_space = rw e (o.no_space); no_eol = o.no_eol }

module _ (edition : Edition) (t : List ℕ) (level : ℕ) (tail rest : List ℕ) (ends : Ends tail rest) where
  -- how a pattern opens
  one_line_pattern_opens_at_its_place : (p : PatternTree Text) (i : ℕ) → is_multiline p ≡ false →
      are_elements edition false opening p ≡ true →
      SuffixAt t i (elements_bytes level false p (lf ∷ tail)) → (p ≡ no_elements → ⊥) →
      OpensAt t i (elements_bytes level false p (lf ∷ tail))
  one_line_pattern_opens_at_its_place no_elements i e g l n = absurd (n refl)
  one_line_pattern_opens_at_its_place (elements (placeable x) es) i e g l n =
      let b = bytes_of_placeable_begin_with_brace level x (elements_bytes level false es (lf ∷ tail)) in
      brace_opens_at_its_place edition t i _ b.rest b.are l
  one_line_pattern_opens_at_its_place (elements (text_element []) es) i e g l n = absurd cc
  one_line_pattern_opens_at_its_place (elements (text_element (b ∷ bs)) no_elements) i e g l n =
      let is : is_text (b ∷ bs) ≡ true = and_gives_left (is_text (b ∷ bs)) _ g in
      let more = and_gives_right (is_text (b ∷ bs)) _ g in
      let begins =
      not_true_is_false (is_space b)
      (and_gives_right (is_nonblank (b ∷ bs)) _
      (and_gives_left (may_be_first edition false (b ∷ bs) no_elements) _ more)) in
      let plain : ends_plainly (b ∷ bs) ≡ true =
      and_gives_left (ends_plainly (b ∷ bs)) _
      (and_gives_right (may_be_first edition false (b ∷ bs) no_elements) _ more) in
      run_opens_at_its_place edition t i b bs (lf ∷ tail) begins
      (one_line_text_has_run_bytes edition t level None tail rest ends (b ∷ bs) is
      (false_or_left (has_lf (b ∷ bs)) false e))
      (rw (plain_no_cr (b ∷ bs) plain) refl) l
  one_line_pattern_opens_at_its_place (elements (text_element (b ∷ bs)) (elements (placeable x) es)) i e g l n =
      let is : is_text (b ∷ bs) ≡ true = and_gives_left (is_text (b ∷ bs)) _ g in
      let begins =
      not_true_is_false (is_space b)
      (and_gives_right (is_nonblank (b ∷ bs))
      _ (and_gives_left (may_be_first edition false (b ∷ bs) (elements (placeable x) es))
      _ (and_gives_right (is_text (b ∷ bs)) _ g))) in
      let brace = bytes_of_placeable_begin_with_brace level x (elements_bytes level false es (lf ∷ tail)) in
      let no_lf : has_lf (b ∷ bs) ≡ false =
      false_or_left (has_lf (b ∷ bs)) (is_multiline (elements (placeable x) es)) e in
      let are =
      ap (λ c. b ∷
      (bs ++
      (line_indent level c ++ element_bytes level (placeable x) (elements_bytes level false es (lf ∷ tail)))))
      (ends_not_in_lf (b ∷ bs) no_lf) ∙ ap (λ xs. b ∷ (bs ++ xs)) brace.are in
      opens_at_equal_bytes are (run_opens_at_its_place edition t i b bs (123 ∷ brace.rest) begins
      (one_line_text_has_run_bytes edition t level None tail rest ends (b ∷ bs) is no_lf)
      (and_with_false_is_false (is_last cr (last_of None (b ∷ bs)))) (suffix_by_equality are l))
  one_line_pattern_opens_at_its_place (elements (text_element (b ∷ bs)) (elements (text_element w) es)) i e g l n =
      absurd (no_text_follows_one_line_text edition t level None tail rest ends (b ∷ bs) w es
      (false_or_left (has_lf (b ∷ bs)) (is_multiline (elements (text_element w) es)) e)
      (and_gives_left (may_occur_at edition false (position_after (b ∷ bs)) w es)
      _ (and_gives_right (is_text w)
      _ (and_gives_right (may_be_first edition false (b ∷ bs) (elements (text_element w) es))
      _ (and_gives_right (is_text (b ∷ bs)) _ g)))))

  one_line_pattern_reads_back_there : (e : ElementTree Text) (es : PatternTree Text) (i : ℕ) →
      is_multiline (elements e es) ≡ false →
      is_pattern edition (elements e es) ≡ true → ElementsReadBack edition t level (elements e es) →
      SuffixAt t i (pattern_bytes level (elements e es) (lf ∷ tail)) →
      Reads t (grammar.pattern edition t) (option_map (pattern_map (bytes_at t))) i (Some (elements e es)) rest
  one_line_pattern_reads_back_there e es i a g h l =
      let m = suffix_by_equality (one_line_pattern_begins_with_space level (elements e es) (lf ∷ tail) a) l in
      let good = elements_off_line_start (is_multiline (elements e es)) a g in
      opening_reads_back edition t None [] e es i (elements_bytes level false (elements e es) (lf ∷ tail)) rest refl m
      (one_line_pattern_opens_at_its_place (elements e es) (i + 1) a good (next_of_suffix m) none_absurd)
      (one_line_elements_read_back edition t level None tail rest ends (elements e es) opening (i + 1) h good
      (one_line_no_lf (elements e es) a) (next_of_suffix m))
    where
      elements_off_line_start : (b : Bool) → b ≡ false → are_elements edition b opening (elements e es) ≡ true →
          are_elements edition false opening (elements e es) ≡ true
      elements_off_line_start false e g = g
      elements_off_line_start true e g = absurd cc

      none_absurd : elements e es ≡ no_elements → ⊥
      none_absurd e = cc

-- a pattern that is not multiline is read back, if its placeables are
pub one_line_reads_back : (edition : Edition) (t : List ℕ) (level : ℕ) (p : PatternTree Text) → is_multiline p ≡ false →
    is_pattern edition p ≡ true → ElementsReadBack edition t level p → PatternReadsBack edition t level p
one_line_reads_back edition t level no_elements a g h = absurd cc
one_line_reads_back edition t level (elements e es) a g h =
    record {
      back =
          λ i tail rest ends l. one_line_pattern_reads_back_there edition t level tail rest ends e es i a g h l;
    }
