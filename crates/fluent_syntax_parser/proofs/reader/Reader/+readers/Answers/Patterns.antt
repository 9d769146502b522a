-- The answers of the readers of patterns: their pieces, lines and layout.
use Rattle.std.proofs.Common.{◌≡◌, ◌∙◌, List, [], ◌++◌, length, map, refl, sym, ap, arith, None, Some}
use Rattle.std.specs.Prelude.{slice_get, vec_len}
use Rattle.std.proofs.lemmas.Result.{err_from_is_err_and}
use Rattle.fluent_syntax_parser.proofs.patterns.LineEndings.{layout_by_its_eol_is_layout}
use Rattle.fluent_syntax_grammar.specs.Bytes.{left_brace, right_brace}
use Rattle.fluent_syntax_grammar.specs.Construct.{goes_on, given, passed, at_place}
use Rattle.fluent_syntax_grammar.specs.Grammar.{within}
use Rattle.fluent_syntax_grammar.specs.Lines.{is_run_place, no_byte, other_line, own_line}
use Rattle.fluent_syntax_grammar.specs.Patterns.{layout_at}
use Rattle.fluent_syntax_grammar.proofs.FunctionalRules.{ending_is_functional, next_line_is_functional}
use Rattle.fluent_syntax_grammar.proofs.FunctionalRules.{next_piece_is_functional, pieces_are_functional}
use Rattle.fluent_syntax_grammar.proofs.FunctionalWords.{blank_block_is_functional, inline_blank_is_functional}
use Rattle.fluent_syntax_grammar.proofs.Nesting.{within_is_functional}
use Rattle.fluent_syntax_parser.specs.Elements.{run_of}
use Rattle.fluent_syntax_parser.specs.Layouts.{piece_of}
use Rattle.fluent_syntax_parser.specs.Lines.{ending_view, line_view, piece_view}
use Rattle.fluent_syntax_parser.specs.Made.{made}
use Rattle.fluent_syntax_parser.specs.Opened.{none}
use Rattle.fluent_syntax_parser.specs.Outcomes.{no_memory, refused}
use Rattle.fluent_syntax_parser.proofs.entry_forms.FieldForms.{zero_count_is_empty as no_elements}
use Rattle.fluent_syntax_parser.proofs.entry_forms.FieldForms.{nonzero_count_is_not_empty}
use Rattle.fluent_syntax_parser.proofs.readers.ContinuesFrom.{items_made_to_end_are_list, many_fails_where_item_fails}
use Rattle.fluent_syntax_parser.proofs.readers.ContinuesFrom.{item_is_made_next}
use Rattle.fluent_syntax_parser.proofs.readers.ContinuesFrom.{no_items_are_made_at_start}
use Rattle.fluent_syntax_grammar.proofs.Functional.{here_is_functional}
use Rattle.fluent_syntax_parser.proofs.readers.Fails.{bind_fails_where_first_fails, bind_fails_second}
use Rattle.fluent_syntax_parser.proofs.readers.Fails.{peek_fails_where_seen_part_fails}
use Rattle.fluent_syntax_parser.proofs.readers.Fails.{jump_is_functional, memory_is_err}
use Rattle.fluent_syntax_parser.proofs.readers.Made.{made_was_read}
use Rattle.fluent_syntax_parser.proofs.patterns.BlankLines.{block_at_no_byte_is_empty, block_before_other_line_is_empty}
use Rattle.fluent_syntax_parser.proofs.patterns.Opening.{elements_of_pieces_are_those_of_items, EndsAt-ending_read}
use Rattle.fluent_syntax_parser.proofs.patterns.Opening.{run_ends_line, MadeOpening-none}
use Rattle.fluent_syntax_parser.proofs.patterns.Opening.{ending_of_opening_comes_after_its_items, none_is_no_byte}
use Rattle.fluent_syntax_parser.proofs.patterns.Opening.{place_of_byte_has_no_other, opening_fails_with_its_next_piece}
use Rattle.fluent_syntax_parser.proofs.patterns.Opening.{placeable_is_made_next_in_opening}
use Rattle.fluent_syntax_parser.proofs.patterns.Opening.{opening_is_read_with_its_last_run}
use Rattle.fluent_syntax_parser.proofs.patterns.Opening.{settled_pieces_map_to_settled}
use Rattle.fluent_syntax_parser.proofs.patterns.Rest.{empty_run_at_text_end_has_no_items}
use Rattle.fluent_syntax_parser.proofs.patterns.Spelled.{layout_is_spelled_by_settled_pieces}
use Rattle.fluent_syntax_parser.proofs.patterns.Spelled.{no_elements_spell_no_pattern}
use Rattle.fluent_syntax_parser.proofs.patterns.Spelled.{some_elements_spell_pattern}
use Rattle.fluent_syntax_parser.proofs.patterns.Pieces.{closing_brace_is_refused_as_piece}
use Rattle.fluent_syntax_parser.proofs.patterns.Pieces.{no_piece_is_read_at_end_of_text, line_is_read_from_its_parts}
use Rattle.fluent_syntax_parser.proofs.patterns.Pieces.{no_piece_is_read_at_eol, line_takes_bytes}
use Rattle.fluent_syntax_parser.proofs.patterns.Pieces.{own_line_fails, run_that_passes_goes_further}
use Rattle.fluent_syntax_parser.proofs.patterns.Pieces.{piece_at_brace_fails_as_placeable}
use Rattle.fluent_syntax_parser.proofs.patterns.Pieces.{placeable_at_brace_is_next_piece}
use Rattle.fluent_syntax_parser.proofs.patterns.Pieces.{run_at_plain_byte_is_next_piece}
use Rattle.fluent_syntax_parser.proofs.patterns.Pieces.{run_there}
use Rattle.fluent_syntax_parser.proofs.reader.Reader.+readers.Goals as goal

-- what is added to a list that is known
append_to_equal_is_all : {A : Type 0} {new old seen all : List A} (rest : List A) → new ≡ old ++ rest → old ≡ seen →
    seen ++ rest ≡ all → new ≡ all
append_to_equal_is_all rest added same is = added ∙ ap (λ xs. xs ++ rest) same ∙ is

pub add_opening-returns-in-Some-clause-opens : goal.add_opening-returns-in-Some-clause-opens
add_opening-returns-in-Some-clause-opens g m c =
    let t = c.args.self.now.source.bytes.now in
    let blank = c.skip_blank_block-line.ensures.blank in
    record {
      opening = None;
      pieces = [];
      settled = none;
      made = rw c.requires.empty refl;
      same = sym (empty_run_at_text_end_has_no_items c.args.ptr);
      read = λ ls end h. layout_by_its_eol_is_layout t _ _ _ _ c.in-Some.ensures.eol
          (goes_on (passed (record { there = refl })) (goes_on (passed blank) (goes_on h given)));
      fails = λ e h.
          peek_fails_where_seen_part_fails (layout_at t _) _ c.in-Some.ensures.eol
          (bind_fails_second jump_is_functional (passed (record { there = refl }))
          (bind_fails_second (blank_block_is_functional t) (passed blank) (bind_fails_where_first_fails h)));
    }

pub add_opening-loop-elements-init : goal.add_opening-loop-elements-init
add_opening-loop-elements-init g m c = record {
  forward = omega arith;
  within = c.requires.within;
  unended = sym c.eol_end.ensures.eol ∙ c.in_default.is;
  gathered =
      rw c.requires.empty
      (MadeOpening-none c.args.self.now.source.bytes.now _ _ g.M.MakeTexts.made c.args.ptr);
}

pub add_opening-loop-elements-preserved : goal.add_opening-loop-elements-preserved
add_opening-loop-elements-preserved g m c =
    let t = c.args.self.now.source.bytes.now in
    let R = within c.args.self.now.edition t c.args.nesting in
    let f = g.M.MakeTexts.source c.args.self.now.texts.now in
    let old = c.loop-elements.invariant in
    let found = sym (rw c.in-Some-eq123.field-0-test at c.in-Some-eq123.ensures) in
    let run = c.run_end-to.ensures.run in
    let read = c.in_ok-place-in-Some-eq123.ensures in
    let (e, there, added) = read.parses in
    let (x, pushed, seen) = added in
    record {
      forward = omega (arith, old.forward, run.forward, read.within.0);
      within = read.within.1;
      unended = old.unended;
      gathered =
          placeable_is_made_next_in_opening t R f g.M.MakeTexts.made _
          (next_piece_is_functional t R (within_is_functional c.args.self.now.edition t _)) _ _ run _
          old.gathered.beyond
          old.gathered.settled _ _ x _ old.gathered.same c.in_ok-add_text_run-in-Some-eq123.ensures pushed e seen _
          (placeable_at_brace_is_next_piece t R _ _ found (rw found refl) refl _ (goes_on there given));
    }

pub add_opening-returns-in-Some-eq125-clause-opens : goal.add_opening-returns-in-Some-eq125-clause-opens
add_opening-returns-in-Some-eq125-clause-opens g m c =
    let t = c.args.self.now.source.bytes.now in
    let R = within c.args.self.now.edition t c.args.nesting in
    let f = g.M.MakeTexts.source c.args.self.now.texts.now in
    let old = c.loop-elements.invariant in
    let found = sym (rw c.in-Some-eq125.field-0-test at c.in-Some-eq125.ensures) in
    peek_fails_where_seen_part_fails (layout_at t R) _ (sym old.unended)
    (bind_fails_second here_is_functional at_place
    (bind_fails_where_first_fails (opening_fails_with_its_next_piece t R f g.M.MakeTexts.made _
    (next_piece_is_functional t R (within_is_functional c.args.self.now.edition t _)) _ _ c.run_end-to.ensures.run _
    old.gathered.beyond (refused (λ k from to (a, b, d). rw (a, b, d)
    (closing_brace_is_refused_as_piece t R _ _ found (rw found refl) refl))))))

pub add_opening-returns-in_err-place-in-Some-eq123-clause-opens :
    goal.add_opening-returns-in_err-place-in-Some-eq123-clause-opens
add_opening-returns-in_err-place-in-Some-eq123-clause-opens g m c =
    let t = c.args.self.now.source.bytes.now in
    let R = within c.args.self.now.edition t c.args.nesting in
    let f = g.M.MakeTexts.source c.args.self.now.texts.now in
    let old = c.loop-elements.invariant in
    let found = sym (rw c.in-Some-eq123.field-0-test at c.in-Some-eq123.ensures) in
    let p = err_from_is_err_and c.from_residual-in_err-place-in-Some-eq123.result
    c.from_residual-in_err-place-in-Some-eq123.ensures.1 in
    rw (p.1, p.2)
    (peek_fails_where_seen_part_fails (layout_at t R) _ (sym old.unended)
    (bind_fails_second here_is_functional at_place
    (bind_fails_where_first_fails (opening_fails_with_its_next_piece t R f g.M.MakeTexts.made _
    (next_piece_is_functional t R (within_is_functional c.args.self.now.edition t _)) _ _ c.run_end-to.ensures.run _
    old.gathered.beyond
    (piece_at_brace_fails_as_placeable t R _ _ found (rw found refl) refl
    (bind_fails_where_first_fails c.in_err-place-in-Some-eq123.ensures.parses))))))

pub add_opening-returns-in_err-add_text_run-in-Some-eq123-clause-opens :
    goal.add_opening-returns-in_err-add_text_run-in-Some-eq123-clause-opens
add_opening-returns-in_err-add_text_run-in-Some-eq123-clause-opens g m c =
    rw (memory_is_err c.from_residual.result c.from_residual.ensures.1) no_memory

pub add_opening-returns-in_default-byte_at-clause-opens : goal.add_opening-returns-in_default-byte_at-clause-opens
add_opening-returns-in_default-byte_at-clause-opens g m c =
    let t = c.args.self.now.source.bytes.now in
    let R = within c.args.self.now.edition t c.args.nesting in
    let f = g.M.MakeTexts.source c.args.self.now.texts.now in
    let old = c.loop-elements.invariant in
    let functional = within_is_functional c.args.self.now.edition t c.args.nesting in
    let run = c.run_end-to.ensures.run in
    let ends = c.get_ending-ending.ensures.parses in
    let apart : (slice_get t c.run_end-to.result ≡ Some left_brace → ⊥)
    × (slice_get t c.run_end-to.result ≡ Some right_brace → ⊥) =
    elim c.in_default-byte_at.branch [
      | goal.add_opening-in_default-byte_at-via-in-Some+in_default w ↦
          let test = w.in_default-byte_at.field-0-test in
          let is = sym w.in_default-byte_at.ensures in
          (place_of_byte_has_no_other _ _ is test.0.1, place_of_byte_has_no_other _ _ is test.1)
      | goal.add_opening-in_default-byte_at-via-in_default w ↦
          let none = sym c.byte_at.ensures ∙ w.in_default-byte_at.is in (none_is_no_byte none, none_is_no_byte none)
    ] in
    let there =
    opening_is_read_with_its_last_run t R f g.M.MakeTexts.made _ (next_piece_is_functional t R functional) _ _ run _
    old.gathered.beyond (run_ends_line t R _ _ run apart.0 apart.1) in
    record {
      opening =
          Some (record {
            start = c.args.ptr;
            spaces = 0;
            pieces = old.gathered.pieces
                ++ run_of (record { start = c.loop-elements.place; end = c.run_end-to.result });
            ending = ending_view c.get_ending-ending.result.0;
          });
      pieces = map (piece_of f) old.gathered.pieces;
      settled = settled_pieces_map_to_settled f old.gathered.settled;
      made = old.gathered.same ∙ elements_of_pieces_are_those_of_items f old.gathered.pieces;
      same = ending_of_opening_comes_after_its_items f old.gathered.settled _ _;
      read = λ ls last h. layout_by_its_eol_is_layout t _ _ _ _ (sym old.unended)
          (goes_on at_place (goes_on there (goes_on ends (goes_on h given))));
      fails = λ e h.
          peek_fails_where_seen_part_fails (layout_at t R) _ (sym old.unended)
          (bind_fails_second here_is_functional at_place
          (bind_fails_second (pieces_are_functional t R functional) there
          (bind_fails_second (ending_is_functional t) ends (bind_fails_where_first_fails h))));
    }

pub add_opening-returns-in_default-byte_at-clause-rest : goal.add_opening-returns-in_default-byte_at-clause-rest
add_opening-returns-in_default-byte_at-clause-rest g m c = (
  c.run_end-to.ensures.run.forward,
  EndsAt-ending_read c.args.self.now.source.bytes.now _ _ _ c.get_ending-ending.ensures.parses,
)

pub get_long_pattern-returns-in_err-opening-clause-parses : goal.get_long_pattern-returns-in_err-opening-clause-parses
get_long_pattern-returns-in_err-opening-clause-parses g m c =
    let t = c.args.self.now.source.bytes.now in
    let p = err_from_is_err_and c.from_residual.result c.from_residual.ensures.1 in
    rw (p.1, p.2)
    (bind_fails_where_first_fails
    (bind_fails_second (inline_blank_is_functional t) (passed c.requires.blank) c.in_err-opening.ensures.opens))

pub get_long_pattern-returns-in_err-end-clause-parses : goal.get_long_pattern-returns-in_err-end-clause-parses
get_long_pattern-returns-in_err-end-clause-parses g m c =
    let t = c.args.self.now.source.bytes.now in
    let p = err_from_is_err_and c.from_residual-in_err-end.result c.from_residual-in_err-end.ensures.1 in
    rw (p.1, p.2)
    (bind_fails_where_first_fails (bind_fails_second (inline_blank_is_functional t) (passed c.requires.blank)
    (c.in_ok-opening.ensures.opens.fails _ c.in_err-end.ensures.parses)))

pub get_long_pattern-returns-in_err-end_elements-clause-parses :
    goal.get_long_pattern-returns-in_err-end_elements-clause-parses
get_long_pattern-returns-in_err-end_elements-clause-parses g m c =
    rw (memory_is_err c.from_residual-in_err-end_elements.result
    c.from_residual-in_err-end_elements.ensures.1) no_memory

pub get_long_pattern-returns-then-is_empty-clause-parses : goal.get_long_pattern-returns-then-is_empty-clause-parses
get_long_pattern-returns-then-is_empty-clause-parses g m c =
    let t = c.args.self.now.source.bytes.now in
    let f = g.M.MakeTexts.source c.args.self.now.texts.now in
    let opened = c.in_ok-opening.ensures.opens in
    let elements = c.end_elements.new.elements in
    let size : length elements.items ≡ vec_len elements = omega (arith, elements.ok.0) in
    let none = no_elements elements.items _ size c.if-is_empty.ensures in
    made_was_read c.in_ok-end.ensures.parses (λ ls there same.
    let made_of = append_to_equal_is_all _ c.in_ok-end_elements.ensures opened.made
    (layout_is_spelled_by_settled_pieces f t c.args.self.now.edition (record { opening = opened.opening; lines = ls })
    opened.settled _
    opened.same _ same) in
    made (goes_on (goes_on (passed c.requires.blank) (opened.read ls _ there)) given)
    (no_elements_spell_no_pattern f g.M.MakeTexts.made _ elements.items made_of none))

pub get_long_pattern-returns-else-is_empty-clause-parses : goal.get_long_pattern-returns-else-is_empty-clause-parses
get_long_pattern-returns-else-is_empty-clause-parses g m c =
    let t = c.args.self.now.source.bytes.now in
    let f = g.M.MakeTexts.source c.args.self.now.texts.now in
    let opened = c.in_ok-opening.ensures.opens in
    let elements = c.end_elements.new.elements in
    let size : length elements.items ≡ vec_len elements = omega (arith, elements.ok.0) in
    made_was_read c.in_ok-end.ensures.parses (λ ls there same.
    let made_of = append_to_equal_is_all _ c.in_ok-end_elements.ensures opened.made
    (layout_is_spelled_by_settled_pieces f t c.args.self.now.edition (record { opening = opened.opening; lines = ls })
    opened.settled _
    opened.same _ same) in
    made (goes_on (goes_on (passed c.requires.blank) (opened.read ls _ there)) given)
    (some_elements_spell_pattern f g.M.MakeTexts.made _ (record { elements = elements }) made_of
    (nonzero_count_is_not_empty elements.items _ size c.if-is_empty.ensures)))

pub get_pattern-returns-in_ok-pattern-in-Some-clause-parses :
    goal.get_pattern-returns-in_ok-pattern-in-Some-clause-parses
get_pattern-returns-in_ok-pattern-in-Some-clause-parses g m c =
    made (c.in-Some.ensures.opens _ c.args.ptr c.skip_blank_inline-start.ensures.blank)
    c.in_ok-pattern-in-Some.ensures

pub get_pattern-returns-in-None-clause-parses : goal.get_pattern-returns-in-None-clause-parses
get_pattern-returns-in-None-clause-parses g m c = c.get_long_pattern.ensures.parses

pub get_pattern-returns-in_err-pattern-in-Some-clause-parses :
    goal.get_pattern-returns-in_err-pattern-in-Some-clause-parses
get_pattern-returns-in_err-pattern-in-Some-clause-parses g m c =
    rw (memory_is_err c.from_residual.result c.from_residual.ensures.1) no_memory

pub gather_pieces-returns-in-None-clause-parses : goal.gather_pieces-returns-in-None-clause-parses
gather_pieces-returns-in-None-clause-parses g m c =
    items_made_to_end_are_list (piece_view g.M.MakeTexts.made) _ c.loop-elements.invariant.gathered
    (no_piece_is_read_at_end_of_text
    c.args.self.now.source.bytes.now
    (within c.args.self.now.edition c.args.self.now.source.bytes.now c.args.nesting) _ (sym c.in-None.ensures))

pub gather_pieces-returns-then-is_eol_at-clause-parses : goal.gather_pieces-returns-then-is_eol_at-clause-parses
gather_pieces-returns-then-is_eol_at-clause-parses g m c =
    items_made_to_end_are_list (piece_view g.M.MakeTexts.made) _ c.loop-elements.invariant.gathered
    (no_piece_is_read_at_eol c.args.self.now.source.bytes.now
    (within c.args.self.now.edition c.args.self.now.source.bytes.now
    c.args.nesting) _ _
    (sym c.in-Some.ensures) (λ e. cc) (sym c.if-is_eol_at.ensures))

pub gather_pieces-returns-then-byte-eq125-clause-parses : goal.gather_pieces-returns-then-byte-eq125-clause-parses
gather_pieces-returns-then-byte-eq125-clause-parses g m c =
    many_fails_where_item_fails c.loop-elements.invariant.gathered.beyond (refused (λ k from to (a, b, d). rw (a, b, d)
    (closing_brace_is_refused_as_piece c.args.self.now.source.bytes.now
    (within c.args.self.now.edition c.args.self.now.source.bytes.now
    c.args.nesting) _ _
    (sym c.in-Some.ensures) (sym c.if-is_eol_at.ensures)
    c.if-byte-eq125.true)))

pub gather_pieces-returns-in_err-place-in-Some-clause-parses :
    goal.gather_pieces-returns-in_err-place-in-Some-clause-parses
gather_pieces-returns-in_err-place-in-Some-clause-parses g m c =
    let p = err_from_is_err_and c.from_residual.result c.from_residual.ensures.1 in
    rw (p.1, p.2)
    (many_fails_where_item_fails c.loop-elements.invariant.gathered.beyond
    (piece_at_brace_fails_as_placeable c.args.self.now.source.bytes.now
    (within c.args.self.now.edition c.args.self.now.source.bytes.now
    c.args.nesting) _ _
    (sym c.in-Some.ensures) (sym c.if-is_eol_at.ensures)
    c.if-byte-eq123.true (bind_fails_where_first_fails c.in_err-place-in-Some.ensures.parses)))

pub gather_pieces-loop-elements-preserved-in-Continue-branch-2 :
    goal.gather_pieces-loop-elements-preserved-in-Continue-branch-2
gather_pieces-loop-elements-preserved-in-Continue-branch-2 g m c =
    let t = c.args.self.now.source.bytes.now in
    let read = c.in_ok-place-in-Some.ensures in
    let (e, there, added) = read.parses in
    let piece = c.in_ok-add_placed-in-Some.ensures in
    record {
      forward = omega (arith, c.loop-elements.invariant.forward, read.within.0);
      within = read.within.1;
      gathered =
          item_is_made_next (piece_view g.M.MakeTexts.made) _ _ _ piece.1 c.loop-elements.invariant.gathered
          (next_piece_is_functional t (within c.args.self.now.edition t c.args.nesting)
          (within_is_functional c.args.self.now.edition t _)) _
          (placeable_at_brace_is_next_piece t (within c.args.self.now.edition t c.args.nesting) _ _
          (sym c.in-Some.ensures)
          (sym c.if-is_eol_at.ensures) c.if-byte-eq123.true _
          (goes_on there given)) (piece.2 _ _ added);
    }

pub gather_pieces-add_placed-requires : goal.gather_pieces-add_placed-requires
gather_pieces-add_placed-requires g m c =
    let (e, there, added) = c.in_ok-place-in-Some.ensures.parses in (_, _, added)

pub gather_pieces-loop-elements-preserved : goal.gather_pieces-loop-elements-preserved
gather_pieces-loop-elements-preserved g m c =
    let t = c.args.self.now.source.bytes.now in
    let run = c.run_end-to.ensures.run in
    record {
      forward = omega (arith, c.loop-elements.invariant.forward, run.forward);
      within = c.run_end-to.ensures.within;
      gathered =
          item_is_made_next (piece_view g.M.MakeTexts.made) _ _ _ c.in_ok-add_run-in-Some.ensures
          c.loop-elements.invariant.gathered
          (next_piece_is_functional t (within c.args.self.now.edition t c.args.nesting)
          (within_is_functional c.args.self.now.edition t _)) _
          (run_at_plain_byte_is_next_piece t (within c.args.self.now.edition t c.args.nesting) _ _
          (sym c.in-Some.ensures)
          (sym c.if-is_eol_at.ensures) c.if-byte-eq125.false
          c.if-byte-eq123.false _ run) refl;
    }

pub gather_pieces-returns-in_err-add_placed-in-Some-clause-parses :
    goal.gather_pieces-returns-in_err-add_placed-in-Some-clause-parses
gather_pieces-returns-in_err-add_placed-in-Some-clause-parses g m c =
    rw (memory_is_err c.from_residual-in_err-add_placed-in-Some.result
    c.from_residual-in_err-add_placed-in-Some.ensures.1) no_memory

pub gather_pieces-returns-in_err-add_run-in-Some-clause-parses :
    goal.gather_pieces-returns-in_err-add_run-in-Some-clause-parses
gather_pieces-returns-in_err-add_run-in-Some-clause-parses g m c =
    rw (memory_is_err c.from_residual-in_err-add_run-in-Some.result
    c.from_residual-in_err-add_run-in-Some.ensures.1) no_memory

pub gather_pieces-loop-elements-init : goal.gather_pieces-loop-elements-init
gather_pieces-loop-elements-init g m c = record {
  forward = omega arith;
  within = c.requires.within;
  gathered = rw c.requires.empty (no_items_are_made_at_start (piece_view g.M.MakeTexts.made));
}

pub gather_pieces-loop-elements-smaller : goal.gather_pieces-loop-elements-smaller
gather_pieces-loop-elements-smaller g m c =
    let t = c.args.self.now.source.bytes.now in
    let run = c.run_end-to.ensures.run in
    let there = run_there t (within c.args.self.now.edition t c.args.nesting) _ _ (sym c.in-Some.ensures)
    (sym c.if-is_eol_at.ensures) c.if-byte-eq125.false c.if-byte-eq123.false in
    let longer = run_that_passes_goes_further (is_run_place t) c.loop-elements.place c.run_end-to.result run there in
    omega (arith, longer, c.run_end-to.ensures.within)

pub gather_line-returns-in_err-end-clause-adds : goal.gather_line-returns-in_err-end-clause-adds
gather_line-returns-in_err-end-clause-adds g m c =
    let t = c.args.self.now.source.bytes.now in
    let p = err_from_is_err_and c.from_residual.result c.from_residual.ensures.1 in
    rw (p.1, p.2) (
      bind_fails_second here_is_functional at_place
          (bind_fails_second (inline_blank_is_functional t) (passed c.requires.blank)
          (bind_fails_second here_is_functional at_place
          (bind_fails_where_first_fails c.in_err-end.ensures.parses))),
      refl,
    )

pub gather_line-returns-in_err-next-clause-adds : goal.gather_line-returns-in_err-next-clause-adds
gather_line-returns-in_err-next-clause-adds g m c =
    rw (memory_is_err c.from_residual-in_err-next.result c.from_residual-in_err-next.ensures.1)
    (no_memory, c.in_err-next.ensures.stays)

pub gather_line-returns-clause-adds : goal.gather_line-returns-clause-adds
gather_line-returns-clause-adds g m c =
    let t = c.args.self.now.source.bytes.now in
    let (added, found, pushed, is, ends) = c.in_ok-next.ensures.adds in
    made_was_read c.in_ok-end.ensures.parses (λ ps there same. (
      added,
      pushed,
      made (line_is_read_from_its_parts t
          (within c.args.self.now.edition t c.args.nesting) _ _ c.requires.blank _ _ _ _ there ends)
          (is ∙ rw same refl),
    ))

pub gather_line-returns-clause-within : goal.gather_line-returns-clause-within
gather_line-returns-clause-within g m c =
    let pieces = c.in_ok-end.ensures in
    let next = c.in_ok-next.ensures in
    let onward =
    line_takes_bytes c.args.self.now.source.bytes.now _ _ _ c.requires.within pieces.within.0 next.within.0 pieces.stops
    next.further in
    (omega (arith, onward, c.requires.blank.forward), next.within.1)

pub gather_lines-returns-in-None-clause-parses : goal.gather_lines-returns-in-None-clause-parses
gather_lines-returns-in-None-clause-parses g m c =
    items_made_to_end_are_list (line_view g.M.MakeTexts.made) _ c.loop-byte.invariant.gathered
    (no_byte c.skip_blank_inline-first.ensures.blank (sym c.in-None.ensures))

pub gather_lines-returns-in-None-clause-beyond : goal.gather_lines-returns-in-None-clause-beyond
gather_lines-returns-in-None-clause-beyond g m c =
    block_at_no_byte_is_empty c.args.self.now.source.bytes.now c.skip_blank_inline-first.ensures.blank
    (sym c.in-None.ensures)

pub gather_lines-returns-then-not-belongs-clause-beyond : goal.gather_lines-returns-then-not-belongs-clause-beyond
gather_lines-returns-then-not-belongs-clause-beyond g m c =
    block_before_other_line_is_empty c.args.self.now.source.bytes.now c.skip_blank_inline-first.ensures.blank _
    (sym c.if-not-belongs.ensures)

pub gather_lines-returns-then-not-belongs-clause-parses : goal.gather_lines-returns-then-not-belongs-clause-parses
gather_lines-returns-then-not-belongs-clause-parses g m c =
    items_made_to_end_are_list (line_view g.M.MakeTexts.made) _ c.loop-byte.invariant.gathered
    (other_line c.skip_blank_inline-first.ensures.blank (sym c.in-Some.ensures) (sym c.if-not-belongs.ensures))

pub gather_lines-returns-in_err-start-in-Some-clause-parses :
    goal.gather_lines-returns-in_err-start-in-Some-clause-parses
gather_lines-returns-in_err-start-in-Some-clause-parses g m c =
    let t = c.args.self.now.source.bytes.now in
    let p = err_from_is_err_and c.from_residual.result c.from_residual.ensures.1 in
    rw (p.1, p.2)
    (many_fails_where_item_fails c.loop-byte.invariant.gathered.beyond
    (own_line_fails t (within c.args.self.now.edition t c.args.nesting) c.skip_blank_inline-first.ensures.blank
    (sym c.in-Some.ensures) (sym c.if-not-belongs.ensures)
    (bind_fails_where_first_fails c.in_err-start-in-Some.ensures.adds.0)))

pub gather_lines-loop-byte-preserved : goal.gather_lines-loop-byte-preserved
gather_lines-loop-byte-preserved g m c =
    let t = c.args.self.now.source.bytes.now in
    let read = c.in_ok-start-in-Some.ensures in
    made_was_read read.adds.2 (λ l there same. record {
      forward = omega (arith, c.loop-byte.invariant.forward, read.within.0);
      within = read.within.1;
      gathered =
          item_is_made_next (line_view g.M.MakeTexts.made) _ _ _ read.adds.1 c.loop-byte.invariant.gathered
          (next_line_is_functional t (within c.args.self.now.edition t c.args.nesting)
          (within_is_functional c.args.self.now.edition t _)) _
          (own_line c.skip_blank_inline-first.ensures.blank (sym c.in-Some.ensures) (sym c.if-not-belongs.ensures)
          (goes_on there given)) same;
    })

pub gather_lines-loop-byte-init : goal.gather_lines-loop-byte-init
gather_lines-loop-byte-init g m c = record {
  forward = omega arith;
  within = c.requires.within;
  gathered = rw c.requires.empty (no_items_are_made_at_start (line_view g.M.MakeTexts.made));
}
