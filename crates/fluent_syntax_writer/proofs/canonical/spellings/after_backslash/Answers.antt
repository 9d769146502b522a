use Rattle.fluent_syntax_writer.proofs.rules.Strings.{or_with_false_is_same}
use Rattle.fluent_syntax_grammar.specs.Spellings.{is_units}
use Rattle.fluent_syntax_writer.proofs.canonical.spellings.after_backslash.Goals as goal

pub returns-in-117 : goal.returns-in-117
returns-in-117 c = λ rest. rw c.in-117.is (or_with_false_is_same (is_units 4 rest))
