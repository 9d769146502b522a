use Rattle.std.proofs.Common.{ap, ◌∙◌, ◌==◌}
use Rattle.std.proofs.lemmas.Nat.Bits.{bit_at_or}
use Rattle.fluent_syntax_writer.specs.RuleSets.{number}
use Rattle.fluent_syntax_writer.proofs.rules.Sets.{max_is_zero_if_both_are}
use Rattle.fluent_syntax_writer.proofs.canonical.rule_set.RuleSet.union.Goals as goal

pub returns : goal.returns
returns c = λ rule.
    ap (λ n. n == 0) (bit_at_or c.args.self.bits c.args.other.bits (number rule)) ∙ max_is_zero_if_both_are _ _
