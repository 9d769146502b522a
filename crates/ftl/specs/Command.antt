-- The words of the program.
use Rattle.std.specs.Prelude.{ℕ, List, codes}
use Rattle.ftl.specs.declared.command.Command.{Command}
use Rattle.ftl.specs.declared.command.Command.TheVariants.{Check, Format, Runtime, Json, CheckTwo, FormatTwo}

-- the word that names a command
abbrev pub word_of : Command → List ℕ
word_of Check = codes "check"
word_of Format = codes "format"
word_of Runtime = codes "runtime"
word_of Json = codes "json"
word_of CheckTwo = codes "check-two"
word_of FormatTwo = codes "format-two"
