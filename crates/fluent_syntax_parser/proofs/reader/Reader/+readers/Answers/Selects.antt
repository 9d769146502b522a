-- The answers of the readers of selects and their variants.
use Rattle.std.proofs.Common.{◌∙◌, refl, sym, ap, arith}
use Rattle.std.proofs.lemmas.Result.{err_from_is_err_and}
use Rattle.fluent_syntax_tree.specs.Tree.{inline_map, pattern_map, select, variant}
use Rattle.fluent_syntax_tree.specs.View.{key_view}
use Rattle.fluent_syntax_grammar.proofs.Tests.{true_and_true}
use Rattle.fluent_syntax_parser.proofs.expressions.Stars.{and_with_a_false_is_false}
use Rattle.fluent_syntax_grammar.specs.Bytes.{asterisk, left_bracket, right_bracket}
use Rattle.fluent_syntax_grammar.specs.Construct.{stops, goes_on, given, failed, passed, first, second}
use Rattle.fluent_syntax_grammar.specs.Grammar.{within}
use Rattle.fluent_syntax_grammar.specs.Patterns.{pattern}
use Rattle.fluent_syntax_grammar.proofs.FunctionalRules.{key_is_functional, next_variant_is_functional}
use Rattle.fluent_syntax_grammar.proofs.FunctionalWords.{blank_is_functional, optional_is_functional}
use Rattle.fluent_syntax_grammar.proofs.FunctionalWords.{token_is_functional}
use Rattle.fluent_syntax_grammar.proofs.Nesting.{within_is_functional}
use Rattle.fluent_syntax_parser.specs.Outcomes.{no_memory, refused}
use Rattle.fluent_syntax_parser.proofs.readers.ContinuesFrom.{many_fails_where_item_fails}
use Rattle.fluent_syntax_parser.proofs.readers.Fails.{bind_fails_where_first_fails, bind_fails_second}
use Rattle.fluent_syntax_parser.proofs.readers.Fails.{branch_fails_with_first_when_true}
use Rattle.fluent_syntax_parser.proofs.readers.Fails.{star_is_functional}
use Rattle.fluent_syntax_parser.proofs.readers.Fails.{memory_is_err}
use Rattle.fluent_syntax_parser.proofs.expressions.GatheredVariants.{variants_made_to_end_are_all}
use Rattle.fluent_syntax_parser.proofs.expressions.GatheredVariants.{no_variants_are_made_at_start}
use Rattle.fluent_syntax_parser.proofs.expressions.GatheredVariants.{variant_is_made_next}
use Rattle.fluent_syntax_parser.proofs.expressions.LastPlaced.{added_placeable_has_equal_tree}
use Rattle.fluent_syntax_parser.proofs.expressions.LastPlaced.{expression_is_placed_in_equal_list}
use Rattle.fluent_syntax_parser.proofs.readers.Made.{no_value_read, made_was_read, made_value_was_read}
use Rattle.fluent_syntax_parser.proofs.expressions.Selects.{select_start_is_functional, same_selector_fault_of_tree}
use Rattle.fluent_syntax_parser.proofs.expressions.Selects.{select_fails_with_its_variants}
use Rattle.fluent_syntax_parser.proofs.expressions.Selects.{read_variants_are_read_as_select}
use Rattle.fluent_syntax_parser.proofs.reader.Reader.+readers.Goals as goal

pub end_select-last_inline-requires : goal.end_select-last_inline-requires
end_select-last_inline-requires g m c =
    let (old, tree, added) = c.requires.selector in
    (old, tree, expression_is_placed_in_equal_list g.M.MakeTexts.made _ _ c.deref.ensures.value added)

pub end_select-returns-in_err-start-clause-parses : goal.end_select-returns-in_err-start-clause-parses
end_select-returns-in_err-start-clause-parses g m c = λ old e added.
    let t = c.args.self.now.source.bytes.now in
    let there =
    c.last_inline.ensures old _
    (expression_is_placed_in_equal_list g.M.MakeTexts.made _ _ c.deref.ensures.value added) in
    let p = err_from_is_err_and c.from_residual.result c.from_residual.ensures.1 in
    rw (p.1, p.2)
    (select_fails_with_its_variants c.args.self.now.edition t _ e _ (same_selector_fault_of_tree _ _ e there)
    (refused (λ k from to h. stops (c.in_err-start.ensures.parses k from to h))))

pub end_select-returns-in_err-end-clause-parses : goal.end_select-returns-in_err-end-clause-parses
end_select-returns-in_err-end-clause-parses g m c = λ old e added.
    let t = c.args.self.now.source.bytes.now in
    let there =
    c.last_inline.ensures old _
    (expression_is_placed_in_equal_list g.M.MakeTexts.made _ _ c.deref.ensures.value added) in
    let p = err_from_is_err_and c.from_residual-in_err-end.result c.from_residual-in_err-end.ensures.1 in
    rw (p.1, p.2)
    (select_fails_with_its_variants c.args.self.now.edition t _ e _ (same_selector_fault_of_tree _ _ e there)
    (bind_fails_second (select_start_is_functional t _) c.in_ok-start.ensures.parses c.in_err-end.ensures.parses))

pub end_select-returns-in_err-add_variants-clause-parses : goal.end_select-returns-in_err-add_variants-clause-parses
end_select-returns-in_err-add_variants-clause-parses g m c = λ old e added.
    rw (memory_is_err c.from_residual-in_err-add_variants.result
    c.from_residual-in_err-add_variants.ensures.1) no_memory

pub end_select-returns-clause-parses : goal.end_select-returns-clause-parses
end_select-returns-clause-parses g m c = λ old e added.
    let t = c.args.self.now.source.bytes.now in
    let v = g.M.MakeTexts.made in
    let there = c.last_inline.ensures old _ (expression_is_placed_in_equal_list v _ _ c.deref.ensures.value added) in
    made_was_read c.in_ok-end.ensures.parses (λ vs read same. (
      _,
      read_variants_are_read_as_select c.args.self.now.edition t _ e _ (same_selector_fault_of_tree _ _ e there)
          (goes_on c.in_ok-start.ensures.parses read),
      added_placeable_has_equal_tree v _ _ _ (c.in_ok-add_variants.ensures old _ added)
          (ap (select (inline_map (g.M.MakeTexts.source c.args.self.now.texts.now) e)) same),
    ))

pub gather_variants-returns-then-star-clause-parses : goal.gather_variants-returns-then-star-clause-parses
gather_variants-returns-then-star-clause-parses g m c =
    many_fails_where_item_fails c.loop-starred.invariant.gathered.beyond (refused (λ k from to (a, b, d). rw (a, b, d)
    (goes_on c.take_byte_if-star.ensures.parses
    (stops
    (first (true_and_true c.if-starred.true c.if-star.true)
    (failed refl))))))

pub gather_variants-returns-then-has_default-clause-parses : goal.gather_variants-returns-then-has_default-clause-parses
gather_variants-returns-then-has_default-clause-parses g m c =
    variants_made_to_end_are_all g.M.MakeTexts.made _ c.loop-starred.invariant.gathered
    (goes_on c.take_byte_if-star.ensures.parses
    (goes_on (second (and_with_a_false_is_false _ _ c.else-starred.either) given)
    (goes_on c.take_byte_if-bracket.ensures.parses
    (second c.if-not-bracket.true
    (first (sym c.if-has_default.ensures)
    given)))))

pub gather_variants-returns-then-not-bracket-clause-parses : goal.gather_variants-returns-then-not-bracket-clause-parses
gather_variants-returns-then-not-bracket-clause-parses g m c =
    many_fails_where_item_fails c.loop-starred.invariant.gathered.beyond (refused (λ k from to (a, b, d). rw (a, b, d)
    (goes_on c.take_byte_if-star.ensures.parses
    (goes_on (second (and_with_a_false_is_false _ _ c.else-starred.either) given)
    (goes_on c.take_byte_if-bracket.ensures.parses
    (second c.if-not-bracket.true
    (second (sym c.if-has_default.ensures)
    (failed refl))))))))

pub gather_variants-returns-in_err-key-clause-parses : goal.gather_variants-returns-in_err-key-clause-parses
gather_variants-returns-in_err-key-clause-parses g m c =
    let p = err_from_is_err_and c.from_residual.result c.from_residual.ensures.1 in
    rw (p.1, p.2) (many_fails_where_item_fails c.loop-starred.invariant.gathered.beyond (refused (λ k from to h.
    (goes_on c.take_byte_if-star.ensures.parses
    (goes_on (second (and_with_a_false_is_false _ _ c.else-starred.either) given)
    (goes_on c.take_byte_if-bracket.ensures.parses
    (first c.if-not-bracket.false
    (goes_on (passed c.skip_blank-start.ensures.blank)
    (stops (c.in_err-key.ensures.parses k from to h))))))))))

pub gather_variants-returns-in_err-next-clause-parses : goal.gather_variants-returns-in_err-next-clause-parses
gather_variants-returns-in_err-next-clause-parses g m c =
    let p = err_from_is_err_and c.from_residual-in_err-next.result c.from_residual-in_err-next.ensures.1 in
    rw (p.1, p.2) (many_fails_where_item_fails c.loop-starred.invariant.gathered.beyond (refused (λ k from to h.
    (goes_on c.take_byte_if-star.ensures.parses
    (goes_on (second (and_with_a_false_is_false _ _ c.else-starred.either) given)
    (goes_on c.take_byte_if-bracket.ensures.parses
    (first c.if-not-bracket.false
    (goes_on (passed c.skip_blank-start.ensures.blank)
    (goes_on c.in_ok-key.ensures.parses
    (goes_on (passed c.skip_blank-next.ensures.blank)
    (stops (c.in_err-next.ensures.parses k from to h))))))))))))

pub gather_variants-returns-in_err-value-clause-parses :
    goal.gather_variants-returns-in_err-value-clause-parses
gather_variants-returns-in_err-value-clause-parses g m c =
    let t = c.args.self.now.source.bytes.now in
    let p = err_from_is_err_and c.from_residual-in_err-value.result c.from_residual-in_err-value.ensures.1 in
    rw (p.1, p.2)
    (many_fails_where_item_fails c.loop-starred.invariant.gathered.beyond
    (bind_fails_second (optional_is_functional t asterisk) c.take_byte_if-star.ensures.parses
    (bind_fails_second (star_is_functional c.loop-starred.starred c.take_byte_if-star.result.0)
    (second (and_with_a_false_is_false _ _ c.else-starred.either) given)
    (bind_fails_second (optional_is_functional t left_bracket) c.take_byte_if-bracket.ensures.parses
    (branch_fails_with_first_when_true c.if-not-bracket.false
    (bind_fails_second (blank_is_functional t) (passed c.skip_blank-start.ensures.blank)
    (bind_fails_second (key_is_functional t) c.in_ok-key.ensures.parses
    (bind_fails_second (blank_is_functional t) (passed c.skip_blank-next.ensures.blank)
    (bind_fails_second (token_is_functional t right_bracket) c.in_ok-next.ensures.parses
    (bind_fails_where_first_fails c.in_err-value.ensures.parses))))))))))

pub gather_variants-returns-in_default-clause-parses : goal.gather_variants-returns-in_default-clause-parses
gather_variants-returns-in_default-clause-parses g m c =
    let t = c.args.self.now.source.bytes.now in
    let found = rw c.in_default.is at c.in_ok-value.ensures.parses in
    let value_read = pattern c.args.self.now.edition t (within c.args.self.now.edition t c.args.nesting) in
    made_was_read found (λ o read same.
    let none = no_value_read (pattern_map (g.M.MakeTexts.source c.args.self.now.texts.now)) value_read o read same in
    many_fails_where_item_fails c.loop-starred.invariant.gathered.beyond (refused (λ k from to (a, b, d). rw (a, b, d)
    (goes_on c.take_byte_if-star.ensures.parses
    (goes_on (second (and_with_a_false_is_false _ _ c.else-starred.either) given)
    (goes_on c.take_byte_if-bracket.ensures.parses
    (first c.if-not-bracket.false
    (goes_on (passed c.skip_blank-start.ensures.blank)
    (goes_on c.in_ok-key.ensures.parses
    (goes_on (passed c.skip_blank-next.ensures.blank)
    (goes_on c.in_ok-next.ensures.parses
    (goes_on none
    (failed refl)))))))))))))

pub gather_variants-loop-starred-preserved : goal.gather_variants-loop-starred-preserved
gather_variants-loop-starred-preserved g m c =
    let t = c.args.self.now.source.bytes.now in
    let found = rw c.in-Some.is at c.in_ok-value.ensures.parses in
    let old = c.loop-starred in
    let added = c.in_ok-add_variant.ensures in
    let value_read = pattern c.args.self.now.edition t (within c.args.self.now.edition t c.args.nesting) in
    made_was_read found (λ o read same.
    made_value_was_read (pattern_map (g.M.MakeTexts.source c.args.self.now.texts.now)) value_read o read same
    (λ value there same_value. record {
      forward =
          omega (
            arith,
            old.invariant.forward,
            c.take_byte_if-star.ensures.forward,
            c.take_byte_if-bracket.ensures.forward,
            c.skip_blank-start.ensures.blank.forward,
            c.in_ok-key.ensures.within.0,
            c.skip_blank-next.ensures.blank.forward,
            c.in_ok-next.ensures.within.0,
            c.in_ok-value.ensures.within.0,
            c.skip_blank-place.ensures.blank.forward,
          );
      within = c.skip_blank-place.ensures.within;
      gathered =
          variant_is_made_next g.M.MakeTexts.made _ _ added.0 added.1 old.invariant.gathered
          (next_variant_is_functional c.args.self.now.edition t _ (within_is_functional c.args.self.now.edition t _)
          old.starred)
          (variant (key_view (λ s. s) c.in_ok-key.key) value c.take_byte_if-star.result.0) _
          (goes_on c.take_byte_if-star.ensures.parses
          (goes_on (second (and_with_a_false_is_false _ _ c.else-starred.either) given)
          (goes_on c.take_byte_if-bracket.ensures.parses
          (first c.if-not-bracket.false
          (goes_on (passed c.skip_blank-start.ensures.blank)
          (goes_on c.in_ok-key.ensures.parses
          (goes_on (passed c.skip_blank-next.ensures.blank)
          (goes_on c.in_ok-next.ensures.parses
          (goes_on there
          (goes_on (passed c.skip_blank-place.ensures.blank)
          given))))))))))
          (added.2 ∙ rw same_value refl);
    }))

pub gather_variants-returns-in_err-add_variant-clause-parses :
    goal.gather_variants-returns-in_err-add_variant-clause-parses
gather_variants-returns-in_err-add_variant-clause-parses g m c =
    rw (memory_is_err c.from_residual-in_err-add_variant.result c.from_residual-in_err-add_variant.ensures.1) no_memory

pub gather_variants-loop-starred-init : goal.gather_variants-loop-starred-init
gather_variants-loop-starred-init g m c = record {
  forward = omega arith;
  within = c.requires.within;
  gathered = rw c.requires.empty (no_variants_are_made_at_start g.M.MakeTexts.made);
}
