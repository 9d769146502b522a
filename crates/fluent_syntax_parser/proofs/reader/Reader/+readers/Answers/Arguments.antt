-- The answers of the readers of argument lists.
use Rattle.std.proofs.Common.{◌≡◌, ◌∙◌, refl, sym, ap, arith, false, None, inl, inr}
use Rattle.std.specs.Prelude.{◌⊎◌, not}
use Rattle.std.proofs.lemmas.Option.{gets}
use Rattle.std.proofs.lemmas.Result.{err_from_is_err_and}
use Rattle.fluent_syntax_tree.specs.Kind.{DuplicatedNamedArgument}
use Rattle.fluent_syntax_tree.specs.Spans.{bytes_at}
use Rattle.fluent_syntax_tree.specs.Tree.{some_arguments}
use Rattle.fluent_syntax_tree.proofs.Views.{view-roll-CallArguments}
use Rattle.fluent_syntax_parser.specs.Gathered.{names_in}
use Rattle.fluent_syntax_parser.proofs.scanning.Names.{none_are_named, some_are_named, some_spans_have_some_names}
use Rattle.fluent_syntax_parser.proofs.scanning.Names.{name_is_used_in_either_order}
use Rattle.fluent_syntax_grammar.specs.Arguments.{argument_name}
use Rattle.fluent_syntax_grammar.specs.Bytes.{colon, left_parenthesis}
use Rattle.fluent_syntax_grammar.specs.Construct.{goes_on, given, failed, passed, first, second}
use Rattle.fluent_syntax_grammar.specs.Grammar.{within}
use Rattle.fluent_syntax_grammar.specs.Places.{has_byte}
use Rattle.fluent_syntax_grammar.proofs.FunctionalWords.{blank_is_functional, optional_is_functional}
use Rattle.fluent_syntax_grammar.proofs.FunctionalWords.{token_is_functional}
use Rattle.fluent_syntax_grammar.proofs.Nesting.{within_is_functional}
use Rattle.fluent_syntax_parser.specs.Made.{made}
use Rattle.fluent_syntax_parser.specs.Outcomes.{no_memory, refused, too_deep}
use Rattle.fluent_syntax_parser.specs.declared.fault.Fault.TheVariants as fault
use Rattle.fluent_syntax_parser.proofs.expressions.ArgumentNames.{argument_name_is_name_text_there}
use Rattle.fluent_syntax_parser.proofs.expressions.ArgumentLists.{arguments_made_to_end_are_all}
use Rattle.fluent_syntax_parser.proofs.expressions.ArgumentLists.{argument_fails_with_its_inline}
use Rattle.fluent_syntax_parser.proofs.expressions.ArgumentLists.{positional_after_named_is_refused}
use Rattle.fluent_syntax_parser.proofs.expressions.ArgumentLists.{argument_list_ends_at_parenthesis}
use Rattle.fluent_syntax_parser.proofs.expressions.ArgumentLists.{argument_list_at_end_of_text_is_refused, named}
use Rattle.fluent_syntax_parser.proofs.expressions.ArgumentLists.{no_arguments_are_made_at_start}
use Rattle.fluent_syntax_parser.proofs.expressions.ArgumentLists.{argument_fails_with_its_named_rest}
use Rattle.fluent_syntax_parser.proofs.expressions.ArgumentLists.{one_named, positional_argument_is_made_next}
use Rattle.fluent_syntax_parser.proofs.expressions.ArgumentLists.{positional, byte_is_token}
use Rattle.fluent_syntax_parser.proofs.readers.ContinuesFrom.{many_fails_where_item_fails}
use Rattle.fluent_syntax_parser.proofs.readers.Fails.{bind_fails_where_first_fails}
use Rattle.fluent_syntax_parser.proofs.readers.Fails.{argument_list_in_nonzero_depth_fails_alike}
use Rattle.fluent_syntax_parser.proofs.readers.Fails.{bind_fails_second, branch_on_false_fails_where_second_fails}
use Rattle.fluent_syntax_parser.proofs.readers.Fails.{branch_fails_with_first_when_true}
use Rattle.fluent_syntax_parser.proofs.readers.Fails.{argument_list_is_in_nonzero_depth}
use Rattle.fluent_syntax_parser.proofs.readers.Fails.{call_at_depth_zero_is_too_deep, memory_is_err}
use Rattle.fluent_syntax_parser.proofs.expressions.LastPlaced.{expression_is_placed_in_equal_list}
use Rattle.fluent_syntax_parser.proofs.expressions.InlineStarts.{inline_at_value_start_is_argument_value}
use Rattle.fluent_syntax_parser.proofs.expressions.InlineStarts.{argument_value_at_other_start_is_refused}
use Rattle.fluent_syntax_parser.proofs.expressions.InlineStarts.{argument_value_fails_as_its_inline}
use Rattle.fluent_syntax_parser.proofs.readers.Made.{made_was_read}
use Rattle.fluent_syntax_parser.proofs.reader.Reader.+readers.Goals as goal
use Rattle.fluent_syntax_parser.proofs.reader.Reader.+readers.Goals.{
  get_arguments-in_default-via-in-Some+else-is_byte_at,
}
use Rattle.fluent_syntax_parser.proofs.reader.Reader.+readers.Goals.{get_arguments-in_default-via-in_default}

pub get_call_arguments-returns-then-not-bracket-clause-parses :
    goal.get_call_arguments-returns-then-not-bracket-clause-parses
get_call_arguments-returns-then-not-bracket-clause-parses g m c =
    made
    (goes_on (passed c.skip_blank-start.ensures.blank)
    (goes_on c.take_byte_if-bracket.ensures.parses
    (second c.if-not-bracket.true given)))
    refl

pub get_call_arguments-returns-then-nesting-eq0-clause-parses :
    goal.get_call_arguments-returns-then-nesting-eq0-clause-parses
get_call_arguments-returns-then-nesting-eq0-clause-parses g m c =
    too_deep (call_at_depth_zero_is_too_deep _ _ _ _ _ _ _ c.if-nesting-eq0.true c.skip_blank-start.ensures.blank
    c.take_byte_if-bracket.ensures.parses c.if-not-bracket.false)

pub get_call_arguments-returns-in_err-arguments-clause-parses :
    goal.get_call_arguments-returns-in_err-arguments-clause-parses
get_call_arguments-returns-in_err-arguments-clause-parses g m c =
    let t = c.args.self.now.source.bytes.now in
    let p = err_from_is_err_and c.from_residual.result c.from_residual.ensures.1 in
    rw (p.1, p.2)
    (bind_fails_second (blank_is_functional t) (passed c.skip_blank-start.ensures.blank)
    (bind_fails_second (optional_is_functional t left_parenthesis) c.take_byte_if-bracket.ensures.parses
    (branch_fails_with_first_when_true c.if-not-bracket.false
    (bind_fails_where_first_fails
    (bind_fails_second (blank_is_functional t) (passed c.skip_blank-start-2.ensures.blank)
    (argument_list_in_nonzero_depth_fails_alike c.args.self.now.edition t c.if-nesting-eq0.false
    c.in_err-arguments.ensures.parses))))))

pub get_call_arguments-returns-clause-parses : goal.get_call_arguments-returns-clause-parses
get_call_arguments-returns-clause-parses g m c =
    made_was_read c.in_ok-arguments.ensures.parses (λ a read same. made
    (goes_on (passed c.skip_blank-start.ensures.blank)
    (goes_on c.take_byte_if-bracket.ensures.parses
    (first c.if-not-bracket.false
    (goes_on (goes_on (passed c.skip_blank-start-2.ensures.blank)
    (argument_list_is_in_nonzero_depth c.args.self.now.edition c.args.self.now.source.bytes.now _ _ _
    c.if-nesting-eq0.false read))
    given))))
    (ap some_arguments same))

pub add_argument_value-returns-in_err-end-in-Quote-clause-parses :
    goal.add_argument_value-returns-in_err-end-in-Quote-clause-parses
add_argument_value-returns-in_err-end-in-Quote-clause-parses g m c =
    let t = c.args.self.now.source.bytes.now in
    let p = err_from_is_err_and c.from_residual.result c.from_residual.ensures.1 in
    rw (p.1, p.2)
    (argument_value_fails_as_its_inline t _ c.args.ptr c.start.result c.in-Quote.is c.start.ensures
    c.in_err-end-in-Quote.ensures.parses)

pub add_argument_value-returns-in_ok-end-in-Quote-clause-parses :
    goal.add_argument_value-returns-in_ok-end-in-Quote-clause-parses
add_argument_value-returns-in_ok-end-in-Quote-clause-parses g m c =
    let t = c.args.self.now.source.bytes.now in
    let (e, read, added) = c.in_ok-end-in-Quote.ensures.parses in (
      e,
      inline_at_value_start_is_argument_value t _ c.args.ptr c.start.result _ c.in-Quote.is c.start.ensures read,
      added,
    )

pub add_argument_value-returns-in_default : goal.add_argument_value-returns-in_default
add_argument_value-returns-in_default g m c = record {
  parses = refused (λ k from to (a, b, d).
      let arm = c.in_default in
      rw (a, b, d)
      (argument_value_at_other_start_is_refused c.args.self.now.source.bytes.now _ c.args.ptr c.start.result
      arm.not-Quote arm.not-Digit arm.not-Letter
      c.start.ensures));
  within = tt;
}

pub get_arguments-last_inline-requires : goal.get_arguments-last_inline-requires
get_arguments-last_inline-requires g m c =
    let (e, read, added) = c.in_ok-next.ensures.parses in
    (_, _, expression_is_placed_in_equal_list g.M.MakeTexts.made _ _ c.deref.ensures.value added)

pub get_arguments-add_named-requires : goal.get_arguments-add_named-requires
get_arguments-add_named-requires g m c =
    let (e, read, added) = c.in_ok-end-in-Some.ensures.parses in (_, _, added)

pub get_arguments-add_positional-requires : goal.get_arguments-add_positional-requires
get_arguments-add_positional-requires g m c =
    let (e, read, added) = c.in_ok-next.ensures.parses in (_, _, added)

pub get_arguments-returns-then-place-self-clause-parses : goal.get_arguments-returns-then-place-self-clause-parses
get_arguments-returns-then-place-self-clause-parses g m c =
    many_fails_where_item_fails c.loop-noted.invariant.gathered.beyond (refused (λ k from to (a, b, d). rw (a, b, d)
    (argument_list_at_end_of_text_is_refused c.args.self.now.source.bytes.now _ _ _
    (omega (arith, c.if-place-self.true)))))

pub get_arguments-returns-in_err-next-clause-parses :
    goal.get_arguments-returns-in_err-next-clause-parses
get_arguments-returns-in_err-next-clause-parses g m c =
    let t = c.args.self.now.source.bytes.now in
    let p = err_from_is_err_and c.from_residual.result c.from_residual.ensures.1 in
    rw (p.1, p.2)
    (many_fails_where_item_fails c.loop-noted.invariant.gathered.beyond
    (argument_fails_with_its_inline t _ _ _ (omega (arith, c.if-place-self.false, c.loop-noted.invariant.within))
    (sym c.loop-noted-test.ensures) c.in_err-next.ensures.parses))

pub get_arguments-returns-then-not-is_new-clause-parses : goal.get_arguments-returns-then-not-is_new-clause-parses
get_arguments-returns-then-not-is_new-clause-parses g m c =
    let t = c.args.self.now.source.bytes.now in
    let names = c.loop-noted.noted.names.items in
    let used = name_is_used_in_either_order t (bytes_at t c.in-Some.name) names ∙ c.in_ok-is_new-in-Some.ensures.new
    ∙ ap not c.if-not-is_new.true in
    let (e, read, added) = c.in_ok-next.ensures.parses in
    let there =
    c.last_inline.ensures _ _
    (expression_is_placed_in_equal_list g.M.MakeTexts.made _ _ c.deref.ensures.value added) in
    let is = sym (c.in-Some.ensures c.args.nesting _ e read there) in
    let text = sym (argument_name_is_name_text_there t _ _ e _ read c.in-Some.name is) in
    let next = c.in_ok-next.next in
    many_fails_where_item_fails c.loop-noted.invariant.gathered.beyond
    (refused {f = fault.Duplicated} {from = c.loop-noted.place} {place = next} (λ k from to (a, b, d).
    rw (a ∙ ap DuplicatedNamedArgument text, b, d)
    (named t _ (names_in t names) _
    (omega (arith, c.if-place-self.false, c.loop-noted.invariant.within)) (sym c.loop-noted-test.ensures) e _
    read c.in-Some.name is (sym c.if-is_byte_at.ensures) _
    (first used (failed refl)))))

pub get_arguments-skip_blank-start-requires : goal.get_arguments-skip_blank-start-requires
get_arguments-skip_blank-start-requires g m c = grind (arith, gets)

pub get_arguments-returns-in_err-end-in-Some-clause-parses :
    goal.get_arguments-returns-in_err-end-in-Some-clause-parses
get_arguments-returns-in_err-end-in-Some-clause-parses g m c =
    let t = c.args.self.now.source.bytes.now in
    let names = c.loop-noted.noted.names.items in
    let new = name_is_used_in_either_order t (bytes_at t c.in-Some.name) names ∙ c.in_ok-is_new-in-Some.ensures.new
    ∙ ap not c.if-not-is_new.false in
    let mark = sym c.if-is_byte_at.ensures in
    let (e, read, added) = c.in_ok-next.ensures.parses in
    let there =
    c.last_inline.ensures _ _
    (expression_is_placed_in_equal_list g.M.MakeTexts.made _ _ c.deref.ensures.value added) in
    let p = err_from_is_err_and c.from_residual-in_err-end-in-Some.result
    c.from_residual-in_err-end-in-Some.ensures.1 in
    rw (p.1, p.2)
    (many_fails_where_item_fails c.loop-noted.invariant.gathered.beyond
    (argument_fails_with_its_named_rest t _ (names_in t names) _
    (omega (arith, c.if-place-self.false, c.loop-noted.invariant.within)) (sym c.loop-noted-test.ensures) e _
    read (within_is_functional c.args.self.now.edition t _) c.in-Some.name
    (sym (c.in-Some.ensures c.args.nesting _ e read there)) mark
    (branch_on_false_fails_where_second_fails new
    (bind_fails_second (token_is_functional t colon) (byte_is_token t colon _ mark)
    (bind_fails_second (blank_is_functional t) (passed c.skip_blank-start.ensures.blank)
    (bind_fails_where_first_fails c.in_err-end-in-Some.ensures.parses))))))

pub get_arguments-returns-clause-parses : goal.get_arguments-returns-clause-parses
get_arguments-returns-clause-parses g m c =
    let whole = view-roll-CallArguments g.M.MakeTexts.made (record {
      positional = c.loop-noted.positional;
      named = c.loop-noted.named;
    }) in
    made_was_read
    (arguments_made_to_end_are_all c.args.self.now.source.bytes.now _ _ _ _ _ _ _ _ _ c.loop-noted.invariant.gathered
    (argument_list_ends_at_parenthesis c.args.self.now.source.bytes.now _ _ _ (sym c.loop-noted-test.ensures)))
    (λ a read same. made read
    (whole ∙ same))

pub get_arguments-loop-noted-preserved-then-is_byte_at : goal.get_arguments-loop-noted-preserved-then-is_byte_at
get_arguments-loop-noted-preserved-then-is_byte_at g m c =
    let t = c.args.self.now.source.bytes.now in
    let old = c.loop-noted in
    let new = name_is_used_in_either_order t (bytes_at t c.in-Some.name) old.noted.names.items
    ∙ c.in_ok-is_new-in-Some.ensures.new
    ∙ ap not c.if-not-is_new.false in
    let noted = c.in_ok-is_new-in-Some.ensures.noted c.if-not-is_new.false in
    let named = c.in_ok-add_named-in-Some.ensures in
    let (e, read, added) = c.in_ok-next.ensures.parses in
    let there =
    c.last_inline.ensures _ _
    (expression_is_placed_in_equal_list g.M.MakeTexts.made _ _ c.deref.ensures.value added) in
    let (value, read_value, added_value) = c.in_ok-end-in-Some.ensures.parses in
    record {
      forward =
          omega (
            arith,
            old.invariant.forward,
            c.in_ok-next.ensures.within.0,
            c.skip_blank-start.ensures.blank.forward,
            c.in_ok-end-in-Some.ensures.within.0,
            c.skip_separator-place.ensures.within.0,
          );
      within = c.skip_separator-place.ensures.within.1;
      gathered =
          one_named t _ _ g.M.MakeTexts.made _ (within_is_functional c.args.self.now.edition t _) _ _ _
          old.noted.names.items
          old.invariant.gathered (omega (arith, c.if-place-self.false, old.invariant.within))
          (sym c.loop-noted-test.ensures) e _ read named.0 c.in-Some.name
          (sym (c.in-Some.ensures c.args.nesting _ e read there)) (sym c.if-is_byte_at.ensures) new
          named.2 _ named.1 _ noted.0 _ _ _
          c.skip_blank-start.ensures.blank value read_value (named.3 _ _ added_value)
          c.skip_separator-place.ensures.parses;
      noted = noted.1;
    }

pub get_arguments-returns-then-not-is_empty-clause-parses : goal.get_arguments-returns-then-not-is_empty-clause-parses
get_arguments-returns-then-not-is_empty-clause-parses g m c =
    let t = c.args.self.now.source.bytes.now in
    let old = c.loop-noted in
    let some = some_are_named old.noted.names.items c.if-not-is_empty.ensures in
    let (e, read, added) = c.in_ok-next.ensures.parses in
    let there =
    c.last_inline.ensures _ _
    (expression_is_placed_in_equal_list g.M.MakeTexts.made _ _ c.deref.ensures.value added) in
    let is : (argument_name e ≡ None) ⊎ (has_byte t colon c.in_ok-next.next ≡ false) =
    elim c.in_default.branch [
      | get_arguments-in_default-via-in-Some+else-is_byte_at w ↦ inr (sym w.if-is_byte_at.ensures)
      | get_arguments-in_default-via-in_default w ↦ inl (sym (w.in_default.ensures c.args.nesting _ e read there))
    ] in
    many_fails_where_item_fails old.invariant.gathered.beyond (refused (λ k from to (a, b, d). rw (a, b, d)
    (positional t _ (names_in t old.noted.names.items) old.place
    (omega (arith, c.if-place-self.false, old.invariant.within)) (sym c.loop-noted-test.ensures) e _
    read is _
    (positional_after_named_is_refused t (within c.args.self.now.edition t c.args.nesting)
    (names_in t old.noted.names.items) e _
    (some_spans_have_some_names t old.noted.names.items some)))))

pub get_arguments-loop-noted-preserved : goal.get_arguments-loop-noted-preserved
get_arguments-loop-noted-preserved g m c =
    let t = c.args.self.now.source.bytes.now in
    let old = c.loop-noted in
    let none = none_are_named old.noted.names.items c.if-not-is_empty.ensures in
    let argument = c.in_ok-add_positional-in_default.ensures in
    let (e, read, added) = c.in_ok-next.ensures.parses in
    let there =
    c.last_inline.ensures _ _
    (expression_is_placed_in_equal_list g.M.MakeTexts.made _ _ c.deref.ensures.value added) in
    let is : (argument_name e ≡ None) ⊎ (has_byte t colon c.in_ok-next.next ≡ false) =
    elim c.in_default.branch [
      | get_arguments-in_default-via-in-Some+else-is_byte_at w ↦ inr (sym w.if-is_byte_at.ensures)
      | get_arguments-in_default-via-in_default w ↦ inl (sym (w.in_default.ensures c.args.nesting _ e read there))
    ] in
    record {
      forward =
          omega (
            arith,
            old.invariant.forward,
            c.in_ok-next.ensures.within.0,
            c.skip_separator-place-in_default.ensures.within.0,
          );
      within = c.skip_separator-place-in_default.ensures.within.1;
      gathered =
          positional_argument_is_made_next t _ _ g.M.MakeTexts.made _
          (within_is_functional c.args.self.now.edition t _) _ _ _
          old.noted.names.items
          old.invariant.gathered (omega (arith, c.if-place-self.false, old.invariant.within))
          (sym c.loop-noted-test.ensures) e _ read is none argument.0 (argument.2 _ _ added) _ argument.1 _
          c.skip_separator-place-in_default.ensures.parses;
      noted = old.invariant.noted;
    }

pub get_arguments-returns-clause-within : goal.get_arguments-returns-clause-within
get_arguments-returns-clause-within g m c = grind (arith, gets)

pub get_arguments-returns-in_err-add_named-in-Some-clause-parses :
    goal.get_arguments-returns-in_err-add_named-in-Some-clause-parses
get_arguments-returns-in_err-add_named-in-Some-clause-parses g m c =
    rw (memory_is_err c.from_residual-in_err-add_named-in-Some.result
    c.from_residual-in_err-add_named-in-Some.ensures.1) no_memory

pub get_arguments-returns-in_err-add_positional-in_default-clause-parses :
    goal.get_arguments-returns-in_err-add_positional-in_default-clause-parses
get_arguments-returns-in_err-add_positional-in_default-clause-parses g m c =
    rw (memory_is_err c.from_residual-in_err-add_positional-in_default.result
    c.from_residual-in_err-add_positional-in_default.ensures.1) no_memory

pub get_arguments-returns-in_err-is_new-in-Some-clause-parses :
    goal.get_arguments-returns-in_err-is_new-in-Some-clause-parses
get_arguments-returns-in_err-is_new-in-Some-clause-parses g m c =
    rw (memory_is_err c.from_residual-in_err-is_new-in-Some.result
    c.from_residual-in_err-is_new-in-Some.ensures.1) no_memory

pub get_arguments-loop-noted-init : goal.get_arguments-loop-noted-init
get_arguments-loop-noted-init g m c = record {
  forward = omega arith;
  within = c.requires;
  gathered =
      rw (c.new-positional.ensures.items, c.new-named.ensures.items, c.new-noted.ensures.names)
      (no_arguments_are_made_at_start c.args.self.now.source.bytes.now _ _ g.M.MakeTexts.made _);
  noted = rw c.new-noted.ensures.names c.new-noted.ensures.noted;
}
