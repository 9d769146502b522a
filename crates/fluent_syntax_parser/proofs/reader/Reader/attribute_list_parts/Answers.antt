use Rattle.std.proofs.Common.{arith, subst}
use Rattle.fluent_syntax_grammar.specs.Construct.{Read}
use Rattle.fluent_syntax_grammar.specs.Entries.{attribute_of}
use Rattle.fluent_syntax_grammar.specs.Grammar.{within}
use Rattle.fluent_syntax_grammar.proofs.DeeperEntries.{attributes_are_too_deep_by_first}
use Rattle.fluent_syntax_grammar.proofs.DeeperEntries.{attributes_are_too_deep_by_later}
use Rattle.fluent_syntax_grammar.proofs.Nesting.{within_is_functional}
use Rattle.fluent_syntax_parser.specs.Outcomes.{no_memory, too_deep}
use Rattle.fluent_syntax_parser.proofs.entry_forms.ExtentForms.{gathered_ranges_are_all_at_refusal}
use Rattle.fluent_syntax_parser.proofs.entry_forms.ExtentForms.{no_ranges_are_gathered_at_start}
use Rattle.fluent_syntax_parser.proofs.entry_forms.ExtentForms.{ranges_with_one_more_are_gathered}
use Rattle.fluent_syntax_parser.proofs.readers.Fails.{memory_is_err, failure_of_refusal_is_refused, failure_is_too_deep}
use Rattle.fluent_syntax_parser.proofs.reader.Reader.attribute_list_parts.Goals as goal

pub loop-ranges-preserved-in_ok-add-in-Ok : goal.loop-ranges-preserved-in_ok-add-in-Ok
loop-ranges-preserved-in_ok-add-in-Ok g c =
    let t = c.args.self.now.source.bytes.now in
    let edition = c.args.self.now.edition in
    let R = within edition t c.args.nesting in
    let old = c.loop-ranges.invariant in
    let read = c.in-Ok.ensures in
    let (a, parts, begins, same) = read.finds in
    record {
      forward = omega (arith, old.forward, read.within.0);
      within = read.within.1;
      gathered =
          ranges_with_one_more_are_gathered edition t R c.args.ptr _ _ _ _ c.in_ok-add-in-Ok.ensures.added old.gathered
          a parts begins;
      deeper = λ h. old.deeper
          (attributes_are_too_deep_by_later edition t R (within_is_functional edition t c.args.nesting)
          (subst (λ i. attribute_of edition t R i (Read a c.in-Ok.ranges.span.end)) begins parts.whole) h);
    }

pub returns-in-Err-Refused-clause-finds : goal.returns-in-Err-Refused-clause-finds
returns-in-Err-Refused-clause-finds g c =
    let t = c.args.self.now.source.bytes.now in
    let R = within c.args.self.now.edition t c.args.nesting in
    let found = rw c.in-Err-Refused.field-0-is at c.in-Err-Refused.ensures.finds in (
      _,
      gathered_ranges_are_all_at_refusal c.args.self.now.edition t R c.args.ptr _ _ c.loop-ranges.invariant.gathered
          (failure_of_refusal_is_refused found),
    )

pub returns-in-Err-TooDeep-clause-finds : goal.returns-in-Err-TooDeep-clause-finds
returns-in-Err-TooDeep-clause-finds g c =
    let t = c.args.self.now.source.bytes.now in
    let found = rw c.in-Err-TooDeep.field-0-is at c.in-Err-TooDeep.ensures.finds in
    too_deep (c.loop-ranges.invariant.deeper
    (attributes_are_too_deep_by_first c.args.self.now.edition t (within c.args.self.now.edition t c.args.nesting)
    (failure_is_too_deep found)))

pub returns-in_err-add-in-Ok-clause-finds : goal.returns-in_err-add-in-Ok-clause-finds
returns-in_err-add-in-Ok-clause-finds g c =
    rw (memory_is_err c.from_residual.result c.from_residual.ensures.1) no_memory

pub returns-in-Err-Memory-clause-finds : goal.returns-in-Err-Memory-clause-finds
returns-in-Err-Memory-clause-finds g c = no_memory

pub loop-ranges-init : goal.loop-ranges-init
loop-ranges-init g c = record {
  forward = omega arith;
  within = c.requires;
  gathered = rw c.new-attributes.ensures.items (no_ranges_are_gathered_at_start _ _ _ _);
  deeper = λ h. h;
}
