-- Which command of the engine does what is asked.
use Rattle.std.specs.Prelude.{Option, None, Some}
use Rattle.fluent_syntax_tree.specs.declared.edition.Edition.{Edition}
use Rattle.fluent_syntax_tree.specs.declared.edition.Edition.TheVariants.{One, Two}
use Rattle.ftl.specs.declared.command.Command.{Command}
use Rattle.ftl.specs.declared.command.Command.TheVariants as commands
use Rattle.ftl_args.specs.declared.request.Task.{Task}
use Rattle.ftl_args.specs.declared.request.Task.TheVariants.{Check, Format, FromJson, Json, Runtime, SpannedJson}

-- by the edition, where the edition matters; no command writes places, and JSON is no Fluent text
abbrev pub command_of : Task → Edition → Option Command
command_of Check One = Some commands.Check
command_of Check Two = Some commands.CheckTwo
command_of (Format change) One = Some commands.Format
command_of (Format change) Two = Some commands.FormatTwo
command_of Runtime edition = Some commands.Runtime
command_of Json edition = Some commands.Json
command_of SpannedJson edition = None
command_of (FromJson conversion) edition = None
