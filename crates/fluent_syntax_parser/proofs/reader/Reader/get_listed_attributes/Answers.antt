use Rattle.std.proofs.Common.{arith}
use Rattle.fluent_syntax_tree.specs.View.{attribute_view}
use Rattle.fluent_syntax_grammar.specs.Entries.{no_more, one_more}
use Rattle.fluent_syntax_parser.proofs.readers.Gathers as gathers
use Rattle.fluent_syntax_grammar.specs.Entries.{attributes_of}
use Rattle.fluent_syntax_grammar.specs.Grammar.{within}
use Rattle.fluent_syntax_grammar.proofs.DeeperEntries.{attributes_are_too_deep_by_first}
use Rattle.fluent_syntax_grammar.proofs.DeeperEntries.{attributes_are_too_deep_by_later}
use Rattle.fluent_syntax_grammar.proofs.Nesting.{within_is_functional}
use Rattle.fluent_syntax_parser.specs.Outcomes.{no_memory, too_deep}
use Rattle.fluent_syntax_parser.proofs.readers.Made.{made_was_read}
use Rattle.fluent_syntax_parser.proofs.readers.Fails.{memory_is_err, failure_of_refusal_is_refused, failure_is_too_deep}
use Rattle.fluent_syntax_parser.proofs.reader.Reader.get_listed_attributes.Goals as goal

pub loop-next-preserved : goal.loop-next-preserved
loop-next-preserved g c =
    let t = c.args.self.now.source.bytes.now in
    let R = within c.args.self.now.edition t c.args.nesting in
    let old = c.loop-next.invariant in
    let read = c.in-Ok.ensures in
    made_was_read read.adds.2 (λ a there same. record {
      forward = omega (arith, old.forward, read.within.0);
      within = read.within.1;
      gathered =
          gathers.list_with_one_more_is_made (attributes_of c.args.self.now.edition t R) _
          (attribute_view g.M.MakeTexts.made) c.args.ptr
          _ _ _ _ _ read.adds.1 old.gathered a same (λ more end h. one_more there h);
      deeper = λ h. old.deeper
          (attributes_are_too_deep_by_later c.args.self.now.edition t R
          (within_is_functional c.args.self.now.edition t c.args.nesting) there h);
    })

pub returns-in-Err-Refused-clause-parses : goal.returns-in-Err-Refused-clause-parses
returns-in-Err-Refused-clause-parses g c =
    let t = c.args.self.now.source.bytes.now in
    let R = within c.args.self.now.edition t c.args.nesting in
    let found = rw c.in-Err-Refused.field-0-is at c.in-Err-Refused.ensures.adds in
    rw found.1
    (gathers.list_made_to_end_is_whole (attributes_of c.args.self.now.edition t R) _
    (attribute_view g.M.MakeTexts.made) c.args.ptr _ _
    _ c.loop-next.invariant.gathered (no_more (failure_of_refusal_is_refused found.0)))

pub returns-in-Err-TooDeep-clause-parses : goal.returns-in-Err-TooDeep-clause-parses
returns-in-Err-TooDeep-clause-parses g c =
    let t = c.args.self.now.source.bytes.now in
    let found = rw c.in-Err-TooDeep.field-0-is at c.in-Err-TooDeep.ensures.adds in
    too_deep (c.loop-next.invariant.deeper
    (attributes_are_too_deep_by_first c.args.self.now.edition t (within c.args.self.now.edition t c.args.nesting)
    (failure_is_too_deep found.0)))

pub returns-in-Err-Memory-clause-parses : goal.returns-in-Err-Memory-clause-parses
returns-in-Err-Memory-clause-parses g c = no_memory

pub returns-in_err-attributes-clause-parses : goal.returns-in_err-attributes-clause-parses
returns-in_err-attributes-clause-parses g c =
    rw (memory_is_err c.from_residual.result c.from_residual.ensures.1) no_memory

pub loop-next-init : goal.loop-next-init
loop-next-init g c = record {
  forward = omega arith;
  within = c.requires;
  gathered = rw c.in_ok-attributes.ensures.items (gathers.no_list_is_made_at_start _ _ _ _);
  deeper = λ h. h;
}
