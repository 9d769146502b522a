use Rattle.std.proofs.Common.{ap, not, ◌==◌}
use Rattle.std.proofs.lemmas.Nat.Bits.{shr_and_one}
use Rattle.fluent_syntax_writer.specs.RuleSets.{number}
use Rattle.fluent_syntax_writer.proofs.canonical.rule_set.RuleSet.contains.Goals as goal

pub returns : goal.returns
returns c = ap (λ n. not (n == 0)) (shr_and_one c.args.self.bits (number c.args.rule))
