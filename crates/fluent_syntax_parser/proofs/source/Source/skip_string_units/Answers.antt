use Rattle.std.proofs.Common.{refl, sym, arith}
use Rattle.std.proofs.lemmas.Option.{gets}
use Rattle.std.proofs.lemmas.Result.{err_from_is_err_and}
use Rattle.fluent_syntax_grammar.specs.Construct.{failed, first, second}
use Rattle.fluent_syntax_grammar.specs.Strings.{before_quote, unit_and_more, bad_unit}
use Rattle.fluent_syntax_parser.proofs.scanning.StringBytes.{units_hold_before_plain_bytes, place_of_other_stop_is_lf}
use Rattle.fluent_syntax_parser.proofs.source.Source.skip_string_units.Goals as goal

pub returns-in-None-clause-parses : goal.returns-in-None-clause-parses
returns-in-None-clause-parses c =
    let none = sym c.in-None.ensures in
    λ k from to (a, b, d). rw (a, b, d)
    (c.loop-unit.invariant.rest _
    (units_hold_before_plain_bytes _ _ _ _ c.plain_end-end.ensures.text
    (bad_unit (rw none refl)
    (rw none
    (failed refl)))))

pub returns-in-Some-eq34-clause-parses : goal.returns-in-Some-eq34-clause-parses
returns-in-Some-eq34-clause-parses c =
    let quote = sym (rw c.in-Some-eq34.field-0-test at c.in-Some-eq34.ensures) in
    c.loop-unit.invariant.rest _
    (units_hold_before_plain_bytes _ _ _ _ c.plain_end-end.ensures.text (before_quote (rw quote refl)))

pub skip_escape-requires : goal.skip_escape-requires
skip_escape-requires c = grind (arith, gets)

pub returns-in_err-unit-in-Some-eq92-clause-parses : goal.returns-in_err-unit-in-Some-eq92-clause-parses
returns-in_err-unit-in-Some-eq92-clause-parses c =
    let p = err_from_is_err_and c.from_residual.result c.from_residual.ensures.1 in
    let found = sym (rw c.in-Some-eq92.field-0-test at c.in-Some-eq92.ensures) in
    rw (p.1, p.2) (λ k from to h.
    c.loop-unit.invariant.rest _
    (units_hold_before_plain_bytes _ _ _ _ c.plain_end-end.ensures.text
    (bad_unit (rw found refl)
    (rw found
    (second refl
    (first refl
    (c.in_err-unit-in-Some-eq92.ensures.parses k from to h)))))))

pub loop-unit-preserved : goal.loop-unit-preserved
loop-unit-preserved c =
    let found = sym (rw c.in-Some-eq92.field-0-test at c.in-Some-eq92.ensures) in
    record {
      forward =
          omega (
            arith,
            c.loop-unit.invariant.forward,
            c.plain_end-end.ensures.text.forward,
            c.in_ok-unit-in-Some-eq92.ensures.within.0,
          );
      within = c.in_ok-unit-in-Some-eq92.ensures.within.1;
      rest =
          λ o h. c.loop-unit.invariant.rest o
          (units_hold_before_plain_bytes _ _ _ o c.plain_end-end.ensures.text
          (unit_and_more (rw found refl) (rw found (second refl (first refl c.in_ok-unit-in-Some-eq92.ensures.parses)))
          h));
    }

pub returns-in-Some-clause-parses : goal.returns-in-Some-clause-parses
returns-in-Some-clause-parses c =
    let text = c.plain_end-end.ensures.text in
    let found = place_of_other_stop_is_lf c.args.self.now.bytes.now c.plain_end-end.result c.in-Some.field-0
    (sym c.in-Some.ensures)
    text.longest c.in-Some.field-0-test.0.1 c.in-Some.field-0-test.1 in
    λ k from to (a, b, d). rw (a, b, d)
    (c.loop-unit.invariant.rest _
    (units_hold_before_plain_bytes _ _ _ _ text
    (bad_unit (rw found refl)
    (rw found
    (first refl
    (failed refl))))))
