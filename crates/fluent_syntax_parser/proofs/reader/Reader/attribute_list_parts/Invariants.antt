use Rattle.std.proofs.Common.{length, ◌-◌, ◌≤◌}
use Rattle.fluent_syntax_grammar.specs.Entries.{attributes_of}
use Rattle.fluent_syntax_grammar.specs.Grammar as grammar
use Rattle.fluent_syntax_grammar.specs.Nesting.{TooDeep}
use Rattle.fluent_syntax_parser.proofs.entry_forms.ExtentForms.{GathersRanges}
use Rattle.fluent_syntax_parser.proofs.reader.Reader.attribute_list_parts.Given as goal

abbrev pub invariant-loop-ranges : goal.invariant-loop-ranges
invariant-loop-ranges g l = record {
  forward : l.ptr ≤ l.place;
  within : l.place ≤ length l.self.source.bytes.now;
  gathered :
      GathersRanges l.self.edition l.self.source.bytes.now
      (grammar.within l.self.edition l.self.source.bytes.now l.nesting) l.ptr l.attributes.items l.place;
  deeper :
      TooDeep
      (attributes_of l.self.edition l.self.source.bytes.now
      (grammar.within l.self.edition l.self.source.bytes.now l.nesting)) l.place →
      TooDeep
      (attributes_of l.self.edition l.self.source.bytes.now
      (grammar.within l.self.edition l.self.source.bytes.now l.nesting)) l.ptr;
}

abbrev pub decreases-loop-ranges : goal.decreases-loop-ranges
decreases-loop-ranges g l = length l.self.source.bytes.now - l.place
