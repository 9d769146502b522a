-- The numbers of commands and editions.
use Rattle.std.specs.Prelude.{◌≢◌, ℕ}
use Rattle.fluent_syntax_tree.specs.declared.edition.Edition.{Edition}
use Rattle.fluent_syntax_tree.specs.declared.edition.Edition.TheVariants.{One, Two}
use Rattle.ftl.specs.declared.command.Command.{Command}
use Rattle.ftl.specs.declared.command.Command.TheVariants.{Check, Format, Runtime, Json, CheckTwo, FormatTwo}
use Rattle.fluent_syntax_c.specs.declared.arguments.CommandKind.{CommandKind}
use Rattle.fluent_syntax_c.specs.declared.arguments.CommandKind.TheVariants.{Answer, FromJson}

abbrev pub command_number : Command → ℕ
command_number Check = 0
command_number Format = 1
command_number Runtime = 2
command_number Json = 3
command_number CheckTwo = 4
command_number FormatTwo = 5

-- the number that asks for the text of a tree that is spelled as JSON
abbrev pub from_json_number : ℕ
from_json_number = 6

-- the number of what is asked for
abbrev pub command_kind_number : CommandKind → ℕ
command_kind_number (Answer command) = command_number command
command_kind_number FromJson = from_json_number

abbrev pub edition_number : Edition → ℕ
edition_number One = 1
edition_number Two = 2

-- No command has the number.
abbrev pub IsNoCommand : ℕ → Type 0
IsNoCommand number = (expected : CommandKind) → command_kind_number expected ≢ number

-- No edition has the number.
abbrev pub IsNoEdition : ℕ → Type 0
IsNoEdition number = (edition : Edition) → edition_number edition ≢ number
