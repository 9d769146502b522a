-- The numbers of the rules of canonical trees, as statuses.
use Rattle.std.specs.Prelude.{ℕ}
use Rattle.fluent_syntax_writer.specs.declared.canonical.rules.Rule.{Rule}
use Rattle.fluent_syntax_writer.specs.declared.canonical.rules.Rule.TheVariants as rule

abbrev pub rule_number : Rule → ℕ
rule_number rule.Junk = 101
rule_number rule.EmptyMessage = 102
rule_number rule.LfInComment = 103
rule_number rule.EmptyPattern = 104
rule_number rule.EmptyText = 105
rule_number rule.BraceInText = 106
rule_number rule.CrBeforeLf = 107
rule_number rule.LfWithinText = 108
rule_number rule.TextAfterText = 109
rule_number rule.BlankFirstText = 110
rule_number rule.LeadingSpace = 111
rule_number rule.BlankEnd = 112
rule_number rule.LineOfSpaces = 113
rule_number rule.MarkedLine = 114
rule_number rule.ForbiddenSelector = 115
rule_number rule.SecondDefault = 116
rule_number rule.TermAttribute = 117
rule_number rule.ForbiddenCallee = 118
rule_number rule.ForbiddenArgument = 119
rule_number rule.RepeatedArgument = 120
rule_number rule.MisspelledString = 121
rule_number rule.MisspelledNumber = 122
rule_number rule.MisspelledName = 123
rule_number rule.EmptyComment = 124
rule_number rule.BlankCommentLine = 125
rule_number rule.HiddenMark = 126
rule_number rule.CommonIndent = 127
rule_number rule.SpacesOnBlankLine = 128
rule_number rule.NoDefault = 129
