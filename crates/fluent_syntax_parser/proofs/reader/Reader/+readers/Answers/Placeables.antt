-- The answers of the readers of placeables and what is in them.
use Rattle.std.proofs.Common.{◌∙◌, refl, sym, ap, rules}
use Rattle.std.proofs.lemmas.Result.{err_from_is_err_and}
use Rattle.fluent_syntax_grammar.specs.Bytes.{left_brace}
use Rattle.fluent_syntax_grammar.specs.Construct.{stops, goes_on, given, failed, passed, chosen, first, second}
use Rattle.fluent_syntax_grammar.specs.Expressions.{is_term_attribute}
use Rattle.fluent_syntax_grammar.proofs.FunctionalWords.{blank_is_functional, token_is_functional}
use Rattle.fluent_syntax_grammar.proofs.Nesting.{within_is_functional}
use Rattle.fluent_syntax_parser.specs.Outcomes.{refused, too_deep}
use Rattle.fluent_syntax_parser.proofs.readers.Fails.{expression_in_braces_is_in_family}
use Rattle.fluent_syntax_parser.proofs.readers.Fails.{expression_in_nonzero_depth_fails_alike}
use Rattle.fluent_syntax_parser.proofs.readers.Fails.{bind_fails_where_first_fails}
use Rattle.fluent_syntax_parser.proofs.readers.Fails.{bind_fails_second, placeable_at_depth_zero_is_too_deep}
use Rattle.fluent_syntax_parser.proofs.expressions.LastPlaced.{expression_is_placed_in_equal_list}
use Rattle.fluent_syntax_parser.proofs.readers.Made.{mapping_keeps_is_term_attribute}
use Rattle.fluent_syntax_parser.proofs.expressions.Selects.{select_is_read_past_blank}
use Rattle.fluent_syntax_parser.proofs.reader.Reader.+readers.Goals as goal

pub add_placeable-returns-in_err-start-clause-parses : goal.add_placeable-returns-in_err-start-clause-parses
add_placeable-returns-in_err-start-clause-parses g m c =
    let p = err_from_is_err_and c.from_residual.result c.from_residual.ensures.1 in
    rw (p.1, p.2) (refused (λ k from to h.
    stops (c.in_err-start.ensures.parses k from to h)))

pub add_placeable-returns-then-nesting-eq0-clause-parses : goal.add_placeable-returns-then-nesting-eq0-clause-parses
add_placeable-returns-then-nesting-eq0-clause-parses g m c =
    too_deep (placeable_at_depth_zero_is_too_deep _ _ _ _ _ c.if-nesting-eq0.true c.in_ok-start.ensures.parses)

pub add_placeable-returns-in_err-ptr-clause-parses : goal.add_placeable-returns-in_err-ptr-clause-parses
add_placeable-returns-in_err-ptr-clause-parses g m c =
    let t = c.args.self.now.source.bytes.now in
    let p = err_from_is_err_and c.from_residual-in_err-ptr.result c.from_residual-in_err-ptr.ensures.1 in
    rw (p.1, p.2)
    (bind_fails_second (token_is_functional t left_brace) c.in_ok-start.ensures.parses
    (bind_fails_second (blank_is_functional t) (passed c.skip_blank-start.ensures.blank)
    (bind_fails_where_first_fails
    (expression_in_nonzero_depth_fails_alike c.args.self.now.edition t c.if-nesting-eq0.false
    c.in_err-ptr.ensures.parses))))

pub add_placeable-returns-in_err-end-clause-parses : goal.add_placeable-returns-in_err-end-clause-parses
add_placeable-returns-in_err-end-clause-parses g m c =
    let (a, read, added) = c.in_ok-ptr.ensures.parses in
    let p = err_from_is_err_and c.from_residual-in_err-end.result c.from_residual-in_err-end.ensures.1 in
    rw (p.1, p.2) (refused (λ k from to h.
    goes_on c.in_ok-start.ensures.parses
    (goes_on (passed c.skip_blank-start.ensures.blank)
    (goes_on
    (expression_in_braces_is_in_family c.args.self.now.edition c.args.self.now.source.bytes.now _ _ _
    c.if-nesting-eq0.false read)
    (goes_on (passed c.skip_blank_inline-ptr.ensures.blank)
    (stops (c.in_err-end.ensures.parses k from to h)))))))

pub add_placeable-returns-clause-parses : goal.add_placeable-returns-clause-parses
add_placeable-returns-clause-parses g m c =
    let (a, read, added) = c.in_ok-ptr.ensures.parses in (
      a,
      goes_on c.in_ok-start.ensures.parses
          (goes_on (passed c.skip_blank-start.ensures.blank)
          (goes_on
          (expression_in_braces_is_in_family c.args.self.now.edition c.args.self.now.source.bytes.now _ _ _
          c.if-nesting-eq0.false read)
          (goes_on (passed c.skip_blank_inline-ptr.ensures.blank)
          (goes_on c.in_ok-end.ensures.parses
          given)))),
      added,
    )

pub add_expression-returns-in_err-ptr-clause-parses : goal.add_expression-returns-in_err-ptr-clause-parses
add_expression-returns-in_err-ptr-clause-parses g m c =
    let p = err_from_is_err_and c.from_residual.result c.from_residual.ensures.1 in
    rw (p.1, p.2) (bind_fails_where_first_fails c.in_err-ptr.ensures.parses)

pub add_expression-returns-then-is_arrow-clause-parses : goal.add_expression-returns-then-is_arrow-clause-parses
add_expression-returns-then-is_arrow-clause-parses g m c =
    let t = c.args.self.now.source.bytes.now in
    let (e, read, added) = c.in_ok-ptr.ensures.parses in
    select_is_read_past_blank g.M.MakeTexts.made c.args.self.now.edition t _ _ _ _ _ read c.skip_blank-ptr.ensures.blank
    (sym c.if-is_arrow.ensures) (within_is_functional c.args.self.now.edition t _)
    (c.end_select.ensures.parses _ e added)

pub add_expression-returns-then-is_term_attribute-clause-parses :
    goal.add_expression-returns-then-is_term_attribute-clause-parses
add_expression-returns-then-is_term_attribute-clause-parses g m c =
    let v = g.M.MakeTexts.made in
    let (e, read, added) = c.in_ok-ptr.ensures.parses in
    let there = c.last_inline.ensures _ _ (expression_is_placed_in_equal_list v _ _ c.deref.ensures.value added) in
    refused (λ k from to (a, b, d). rw (a, b, d)
    (goes_on read
    (goes_on (passed c.skip_blank-ptr.ensures.blank)
    (goes_on (chosen given)
    (second (sym c.if-is_arrow.ensures)
    (first (sym (mapping_keeps_is_term_attribute _ e) ∙ ap is_term_attribute (sym there)
    ∙ sym c.if-is_term_attribute.ensures)
    (failed refl)))))))

pub add_expression-returns-clause-parses : goal.add_expression-returns-clause-parses
add_expression-returns-clause-parses g m c =
    let v = g.M.MakeTexts.made in
    let (e, read, added) = c.in_ok-ptr.ensures.parses in
    let there = c.last_inline.ensures _ _ (expression_is_placed_in_equal_list v _ _ c.deref.ensures.value added) in (
      _,
      goes_on read
          (goes_on (passed c.skip_blank-ptr.ensures.blank)
          (goes_on (chosen given)
          (second (sym c.if-is_arrow.ensures)
          (second
          (sym (mapping_keeps_is_term_attribute _ e) ∙ ap is_term_attribute (sym there)
          ∙ sym c.if-is_term_attribute.ensures)
          given)))),
      added,
    )

pub add_expression-last_inline-requires : goal.add_expression-last_inline-requires
add_expression-last_inline-requires g m c =
    let (e, read, added) = c.in_ok-ptr.ensures.parses in
    (_, _, expression_is_placed_in_equal_list g.M.MakeTexts.made _ _ c.deref.ensures.value added)

pub add_expression-end_select-requires : goal.add_expression-end_select-requires
add_expression-end_select-requires g m c = λ κs le.
    let (e, read, added) = c.in_ok-ptr.ensures.parses in
    (search rules, (le.0, (le.1, (c.skip_blank-ptr.ensures.within, (sym c.if-is_arrow.ensures, (_, _, added))))))
