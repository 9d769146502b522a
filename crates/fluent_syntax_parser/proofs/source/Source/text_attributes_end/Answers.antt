use Rattle.std.proofs.Common.{[], arith, refl}
use Rattle.fluent_syntax_grammar.specs.Construct.{goes_on, passed, stops}
use Rattle.fluent_syntax_grammar.specs.Entries.{no_more, one_more}
use Rattle.fluent_syntax_parser.proofs.entry_forms.AnyDepth.{parts_of_attribute_read_as_attribute}
use Rattle.fluent_syntax_parser.proofs.source.Source.text_attributes_end.Goals as goal

pub loop-start-init : goal.loop-start-init
loop-start-init c = record {
  forward = omega arith;
  inside = c.requires;
  passed = λ n rest end found. (rest, found);
}

pub loop-start-preserved : goal.loop-start-preserved
loop-start-preserved c =
    let t = c.args.self.now.bytes.now in
    let inv = c.loop-start.invariant in
    let mark = c.in-Ok.ensures in
    let field = c.in_ok-opening.ensures in
    let text = c.in_ok-text.ensures in
    let opens = rw c.in-Some.is at text.opens in
    record {
      forward = omega (
        arith,
        inv.forward,
        c.skip_blank_inline-dot.ensures.blank.forward,
        mark.within.0,
        field.within.0,
        text.within.0,
      );
      inside = text.within.1;
      passed = λ n rest end found.
          let attribute =
          parts_of_attribute_read_as_attribute c.args.edition t _ _ _ _ _ _ c.skip_blank_inline-dot.ensures.blank
          mark.parses field.opens opens n in
          inv.passed n _ end (one_more attribute.1 found);
    }

pub returns-in_default-clause-attributes : goal.returns-in_default-clause-attributes
returns-in_default-clause-attributes c = λ n.
    c.loop-start.invariant.passed n [] _
    (no_more (goes_on (passed c.skip_blank_inline-dot.ensures.blank)
    (stops (c.in_default.ensures.parses _ _ _ (refl, refl, refl)))))
