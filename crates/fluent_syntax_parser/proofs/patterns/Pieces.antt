-- The next piece of a line, by its first byte; and the lines of a pattern.
use Rattle.std.proofs.Common.{◌≡◌, ℕ, ◌+◌, ◌-◌, ◌<◌, ◌≤◌, List, length, Option, Some, None, Bool, true, false, not}
use Rattle.std.proofs.Common.{refl, sym, ap, ◌∙◌, subst, arith, true≢false}
use Rattle.std.specs.Prelude.{slice_get, ◌==◌, ◌||◌, ◌&&◌, nat_lt}
use Rattle.std.proofs.lemmas.Bool.Decides.{nat_tests}
use Rattle.std.proofs.lemmas.Option.{slice_get-get_or}
use Rattle.fluent_syntax_tree.specs.Kind.{UnbalancedClosingBrace}
use Rattle.fluent_syntax_grammar.specs.Bytes.{lf, left_brace, right_brace}
use Rattle.fluent_syntax_grammar.specs.Construct.{Outcome, Read, Refused, ◌>>=◌, yields, goes_on, given, failed, passed}
use Rattle.fluent_syntax_grammar.specs.Construct.{chosen, first, second, at_place, More, no_item, item}
use Rattle.fluent_syntax_grammar.specs.Family.{Family}
use Rattle.fluent_syntax_grammar.specs.Layout.{Piece, run, placed, Ending, Line}
use Rattle.fluent_syntax_grammar.specs.Lines.{is_run_place, next_piece, next_piece_at, text_run, ending, no_byte}
use Rattle.fluent_syntax_grammar.specs.Lines.{belongs, line, more_pieces, next_line, other_line, own_line}
use Rattle.fluent_syntax_grammar.specs.Nesting.{TooDeep}
use Rattle.fluent_syntax_grammar.specs.Expressions.{placeable}
use Rattle.fluent_syntax_grammar.specs.Places.{LongestRun, holds, has_eol, InlineBlank}
use Rattle.fluent_syntax_grammar.proofs.Functional.{longest_run_is_functional}
use Rattle.fluent_syntax_parser.specs.Outcomes.{Fails, no_memory, refused, too_deep}
use Rattle.fluent_syntax_parser.specs.declared.fault.ReadFault.{ReadFault}
use Rattle.fluent_syntax_parser.proofs.readers.Fails.{branch_on_false_fails_where_second_fails}
use Rattle.fluent_syntax_parser.proofs.readers.Fails.{peek_fails_where_seen_part_fails}
use Rattle.fluent_syntax_parser.proofs.readers.Fails.{branch_fails_with_first_when_true}

text_byte_passes_run_test : (o : Option ℕ) (b : ℕ) (eol : Bool) → o ≡ Some b → eol ≡ false → (b ≡ right_brace → ⊥) →
    (b ≡ left_brace → ⊥) → (b ≡ lf → ⊥) →
    (holds (λ b. not (b == lf || b == left_brace || b == right_brace)) o && not eol) ≡ true
text_byte_passes_run_test o b eol e f close opening line = rw (e, f) (grind (arith, nat_tests))

module _ (t : List ℕ) (R : Family) (i b : ℕ) (e : slice_get t i ≡ Some b) (eol : has_eol t i ≡ false) where
  piece_by_its_byte_is_next_piece : (o : Outcome (More Piece (Unit {0}))) → next_piece_at t R (Some b) i o →
      next_piece t R i o
  piece_by_its_byte_is_next_piece o h = chosen (subst (λ x. next_piece_at t R x i o) (sym e) h)

  pub closing_brace_is_refused_as_piece : b ≡ right_brace → next_piece t R i (Refused UnbalancedClosingBrace i (i + 1))
  closing_brace_is_refused_as_piece is =
      piece_by_its_byte_is_next_piece _ (chosen (second eol (first (rw is refl) (failed refl))))

  pub placeable_at_brace_is_next_piece : b ≡ left_brace → (o : Outcome (More Piece (Unit {0}))) →
      (placeable t R >>= λ e. yields (item (placed e) tt)) i o → next_piece t R i o
  placeable_at_brace_is_next_piece is o h =
      piece_by_its_byte_is_next_piece o (chosen (second eol (second (rw is refl) (first (rw is refl) h))))

  pub piece_at_brace_fails_as_placeable : b ≡ left_brace → {f : ReadFault} →
      Fails t (placeable t R >>= λ e. yields {A = More Piece (Unit {0})} (item (placed e) tt)) i f →
      Fails t (next_piece t R) i f
  piece_at_brace_fails_as_placeable is h =
      peek_fails_where_seen_part_fails (next_piece_at t R) (Some b) (sym e)
      (peek_fails_where_seen_part_fails _ false (sym eol)
      (branch_on_false_fails_where_second_fails refl
      (branch_on_false_fails_where_second_fails (rw is refl) (branch_fails_with_first_when_true (rw is refl) h))))

  module _ (close : b ≡ right_brace → ⊥) (opening : b ≡ left_brace → ⊥) where
    byte_is_no_closing_brace : (b == right_brace) ≡ false
    byte_is_no_closing_brace = grind (arith, nat_tests)

    byte_is_no_opening_brace : (b == left_brace) ≡ false
    byte_is_no_opening_brace = grind (arith, nat_tests)

    pub run_at_plain_byte_is_next_piece : (j : ℕ) → LongestRun (is_run_place t) i j →
        next_piece t R i (Read (item (run i j) tt) j)
    run_at_plain_byte_is_next_piece j w =
        let text : text_run t i (Read (run i j) j) = goes_on at_place (goes_on (passed w) (goes_on at_place given)) in
        piece_by_its_byte_is_next_piece _
        (chosen (second eol (second byte_is_no_closing_brace (second byte_is_no_opening_brace (goes_on text given)))))

    plain_byte_is_no_lf : b ≡ lf → ⊥
    plain_byte_is_no_lf is = let f = rw e at eol in cc

    pub run_there : is_run_place t i ≡ true
    run_there = text_byte_passes_run_test (slice_get t i) b (has_eol t i) e eol close opening plain_byte_is_no_lf

-- a stretch that begins with what it is of
pub run_that_passes_goes_further : (test : ℕ → Bool) (i j : ℕ) → LongestRun test i j → test i ≡ true → i < j
run_that_passes_goes_further test i j w here =
    let apart : i ≡ j → ⊥ = λ same. true≢false (sym here ∙ ap test same ∙ w.longest) in
    omega (arith, w.forward, apart)

-- a line is not empty where there is a byte in it
pub line_takes_bytes : (t : List ℕ) (from end next : ℕ) → from < length t → from ≤ end → end ≤ next →
    (has_eol t end ≡ false → slice_get t end ≡ None) → (has_eol t end ≡ true → end < next) → from < next
line_takes_bytes t from end next inside forward on stops run_that_passes_goes_further = by (has_eol t end) refl
  where
    by : (b : Bool) → has_eol t end ≡ b → from < next
    by true e = omega (arith, run_that_passes_goes_further e)
    by false e =
        let past : end < length t → ⊥ = λ l. let some = slice_get-get_or t end 0 l in let none = stops e in cc in
        omega (arith, past)

module _ (t : List ℕ) (R : Family) where
  pub no_piece_is_read_at_eol : (i : ℕ) (o : Option ℕ) → slice_get t i ≡ o → (o ≡ None → ⊥) → has_eol t i ≡ true →
      next_piece t R i (Read no_item i)
  no_piece_is_read_at_eol i None e some eol = absurd (some refl)
  no_piece_is_read_at_eol i (Some b) e some eol = chosen (rw e (chosen (first eol given)))

  pub no_piece_is_read_at_end_of_text : (i : ℕ) → slice_get t i ≡ None → next_piece t R i (Read no_item i)
  no_piece_is_read_at_end_of_text i e = chosen (rw e given)

  pub line_is_read_from_its_parts : (i k : ℕ) → InlineBlank t i k → (ps : List Piece) (j m : ℕ) (end : Ending) →
      more_pieces t R k (Read ps j) → ending t j (Read end m) →
      line t R i (Read (record { start = i; spaces = k - i; pieces = ps; ending = end }) m)
  line_is_read_from_its_parts i k blank ps j m end pieces ends =
      goes_on at_place (goes_on (passed blank) (goes_on at_place (goes_on pieces (goes_on ends given))))

  own_line_too_deep_makes_lines_too_deep : {i k : ℕ} → InlineBlank t i k → belongs t (nat_lt i k) k ≡ true → {b : ℕ} →
      slice_get t k ≡ Some b →
      TooDeep (line t R >>= λ l. yields {A = More Line (Unit {0})} (item l tt)) i → TooDeep (next_line t R) i
  own_line_too_deep_makes_lines_too_deep {i = i} {k = k} w own e h o (no_byte {k = m} v none) =
      let same : m ≡ k = longest_run_is_functional.same i m k v w in
      let f = rw same at none in cc
  own_line_too_deep_makes_lines_too_deep {i = i} {k = k} w own e h o (other_line {k = m} v there other) =
      let same : m ≡ k = longest_run_is_functional.same i m k v w in
      let f = rw same at other in cc
  own_line_too_deep_makes_lines_too_deep w own e h o (own_line v there is x) = h o x

  pub own_line_fails : {i k b : ℕ} → InlineBlank t i k → slice_get t k ≡ Some b → belongs t (nat_lt i k) k ≡ true →
      {f : ReadFault} → Fails t (line t R >>= λ l. yields {A = More Line (Unit {0})} (item l tt)) i f →
      Fails t (next_line t R) i f
  own_line_fails w e own (refused h) = refused (λ k from to s. own_line w e own (h k from to s))
  own_line_fails w e own (too_deep h) = too_deep (own_line_too_deep_makes_lines_too_deep w own e h)
  own_line_fails w e own no_memory = no_memory
