use Rattle.std.proofs.Common.{◌≡◌, drop, not}
use Rattle.std.specs.List.{find}
use Rattle.fluent_syntax_writer.specs.RuleSets.{keeps}
use Rattle.fluent_syntax_writer.proofs.canonical.rule_set.RuleSet.first_of.Given as goal

abbrev pub invariant-loop-rule : goal.invariant-loop-rule
invariant-loop-rule l = record {
  rest : find (λ rule. not (keeps l.self rule)) (drop l.rule-index l.rules)
      ≡ find (λ rule. not (keeps l.self rule)) l.rules;
}
