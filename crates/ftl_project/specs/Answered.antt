-- What runs that change no file say of each text.
use Rattle.std.specs.Prelude.{◌≡◌, ◌==◌, List, Bool, true, false, not, length}
use Rattle.fluent_syntax_tree.specs.Entry.{BodyTree}
use Rattle.fluent_syntax_tree.specs.declared.edition.Edition.TheVariants.{One}
use Rattle.fluent_syntax_tree.specs.declared.errors.ParserError.{ParserError}
use Rattle.fluent_syntax_grammar.specs.Written.{Text, written}
use Rattle.ftl.specs.Answer.{IsAnswer}
use Rattle.ftl.specs.Errors.{HasErrors}
use Rattle.ftl.specs.FromJson.{IsSpelled}
use Rattle.ftl.specs.Lossless.{is_lossless}
use Rattle.ftl.specs.declared.command.Command.{Command}
use Rattle.ftl.specs.declared.outcome.Outcome.{Outcome}
use Rattle.ftl.specs.declared.outcome.Outcome.TheVariants.{Clean, SyntaxErrors}
use Rattle.ftl_project.specs.Reports.{Reports}
use Rattle.ftl_project.specs.Runs.{TaskAnswers}
use Rattle.ftl_files.specs.declared.options.Form.{Form}
use Rattle.ftl_files.specs.declared.options.Reading.{Reading}

-- of one that is checked: as many errors as it has, and what is reported of them
abbrev pub IsChecked : Reading → Form → TaskAnswers
IsChecked reading form path text errors has_problems report_text =
    (found : List ParserError) × HasErrors reading.edition text found × Reports form path text found report_text
    × (errors ≡ length found) × (has_problems ≡ not (errors == 0))

-- whether something was found
abbrev pub has_errors : Outcome → Bool
has_errors Clean = false
has_errors SyntaxErrors = true

-- of one that a command answers: the command's text
abbrev pub IsPrinted : Command → TaskAnswers
IsPrinted command path text errors has_problems printed =
    (outcome : Outcome) × IsAnswer command text printed outcome × (errors ≡ 0)
    × (has_problems ≡ has_errors outcome)

-- of one that spells a tree as JSON: the text of that tree, or, if texts are split, of a tree; a problem is that the
-- tree is not safe to write
abbrev pub IsConverted : (with_junk splits_lines : Bool) → TaskAnswers
IsConverted with_junk splits_lines path text errors has_problems converted =
    (tree : BodyTree Text) × (splits_lines ≡ false → IsSpelled text tree) × (converted ≡ written with_junk tree)
    × (errors ≡ 0) × (has_problems ≡ not (is_lossless One tree))

-- of one whose tree is written with its places: nothing but that no error is counted
abbrev pub IsOfNoError : TaskAnswers
IsOfNoError path text errors has_problems printed = errors ≡ 0
