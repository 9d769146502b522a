-- Which files may be rewritten, and as what.
use Rattle.std.specs.Prelude.{◌≡◌, true}
use Rattle.fluent_syntax_grammar.specs.RoundTrip.{tree_of}
use Rattle.fluent_syntax_grammar.specs.Written.{Text}
use Rattle.fluent_syntax_tree.specs.Entry.{BodyTree}
use Rattle.fluent_syntax_tree.specs.declared.edition.Edition.{Edition}
use Rattle.fluent_syntax_tree.specs.declared.edition.Edition.TheVariants.{One, Two}
use Rattle.ftl.specs.Answer.{IsAnswer}
use Rattle.ftl.specs.BlankLines.{IsKept}
use Rattle.ftl.specs.Formatted.{IsFormattedAgain}
use Rattle.ftl.specs.Lossless.{is_lossless}
use Rattle.ftl.specs.declared.command.Command.{Command}
use Rattle.ftl.specs.declared.command.Command.TheVariants.{Format, FormatTwo}
use Rattle.ftl.specs.declared.outcome.Outcome.{Outcome}
use Rattle.ftl.specs.declared.outcome.Outcome.TheVariants.{Clean}
use Rattle.ftl_files.specs.declared.options.BlankLines.{BlankLines}
use Rattle.ftl_files.specs.declared.options.BlankLines.TheVariants.{Keep, Normal}
use Rattle.ftl_project.specs.declared.formatting.replacement.FormatOptions.{FormatOptions}

-- the command that formats by the edition
abbrev pub format_of : Edition → Command
format_of One = Format
format_of Two = FormatTwo

-- What the formatted text of a tree reads as, and what formatting it again gives. By edition two it is the tree itself.
abbrev pub Settles : Edition → (tree : BodyTree Text) → (text : Text) → Type 0
Settles One tree text = (again : Text) (next : Outcome) → (second : IsAnswer Format text again next) →
    IsFormattedAgain tree text again (tree_of text second.tiles) Clean next
Settles Two tree text = (again : Text) (next : Outcome) → (second : IsAnswer FormatTwo text again next) →
    (next ≡ Clean) × (tree_of text second.tiles ≡ tree) × (again ≡ text)

-- What is written of the bytes, of which that is the normal text: that text, or what is kept of them.
abbrev pub IsWritten : BlankLines → Edition → (bytes normal text : Text) → Type 0
IsWritten Normal edition bytes normal text = text ≡ normal
IsWritten Keep edition bytes normal text = IsKept edition bytes normal text

-- The text is what is written of the bytes, which have no error, and are safe to write.
pub record IsRewriting (options : FormatOptions) (bytes text : Text) : Type 0 where
  pub normal : Text
  pub answer : IsAnswer (format_of options.reading.edition) bytes normal Clean
  pub lossless : is_lossless options.reading.edition (tree_of bytes answer.tiles) ≡ true
  -- the normal text reads as the same messages and terms, and formatting it again changes nothing
  pub settles : Settles options.reading.edition (tree_of bytes answer.tiles) normal
  pub written : IsWritten options.blank_lines options.reading.edition bytes normal text
