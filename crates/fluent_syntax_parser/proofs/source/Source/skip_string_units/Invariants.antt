use Rattle.std.proofs.Common.{length, ◌-◌, ◌≤◌}
use Rattle.fluent_syntax_grammar.specs.Construct.{Outcome}
use Rattle.fluent_syntax_grammar.specs.Strings.{string_units}
use Rattle.fluent_syntax_parser.proofs.source.Source.skip_string_units.Given as goal

-- what the units from here on give, the units from the start on give
abbrev pub invariant-loop-unit : goal.invariant-loop-unit
invariant-loop-unit l = record {
  forward : l.ptr ≤ l.unit;
  within : l.unit ≤ length l.self.bytes.now;
  rest : (o : Outcome (Unit {0})) → string_units l.self.bytes.now l.unit o → string_units l.self.bytes.now l.ptr o;
}

abbrev pub decreases-loop-unit : goal.decreases-loop-unit
decreases-loop-unit l = length l.self.bytes.now - l.unit
