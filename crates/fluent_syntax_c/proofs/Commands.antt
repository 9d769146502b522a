-- Which numbers are those of commands.
use Rattle.std.proofs.Common.{◌≢◌}
use Rattle.ftl.specs.declared.command.Command.{Command}
use Rattle.ftl.specs.declared.command.Command.TheVariants.{Check, Format, Runtime, Json, CheckTwo, FormatTwo}
use Rattle.fluent_syntax_c.specs.Arguments.{command_number, from_json_number}

-- no command of a text has the number of that of JSON
pub text_command_is_not_json : (command : Command) → command_number command ≢ from_json_number
text_command_is_not_json Check = λ e. cc
text_command_is_not_json Format = λ e. cc
text_command_is_not_json Runtime = λ e. cc
text_command_is_not_json Json = λ e. cc
text_command_is_not_json CheckTwo = λ e. cc
text_command_is_not_json FormatTwo = λ e. cc
