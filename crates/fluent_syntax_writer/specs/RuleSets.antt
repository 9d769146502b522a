-- Sets of broken rules, and which rules are kept.
use Rattle.std.specs.Prelude.{ℕ, ◌≡◌, Bool, ◌==◌}
use Rattle.std.specs.Int.{bit_at}
use denote.Enum.Declared.{tag_of}
use Rattle.fluent_syntax_writer.specs.contracts.canonical.rules.Rule.{the_type}
use Rattle.fluent_syntax_writer.specs.declared.canonical.rule_set.RuleSet.{RuleSet}
use Rattle.fluent_syntax_writer.specs.declared.canonical.rules.Rule.{Rule}

-- the number of a rule, in the order in which they are declared
abbrev pub number : Rule → ℕ
number rule = tag_of the_type rule

-- the bit of the rule is not set
abbrev pub keeps : RuleSet → Rule → Bool
keeps broken rule = bit_at broken.bits (number rule) == 0

-- The set is that of the rules that the test refuses.
abbrev pub HoldsBroken : RuleSet → (Rule → Bool) → Type 0
HoldsBroken broken test = (rule : Rule) → keeps broken rule ≡ test rule
