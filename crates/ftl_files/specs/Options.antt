-- The names of what the words' options ask for.
use Rattle.std.specs.Prelude.{ℕ, ℤ, List, codes, pos}
use Rattle.fluent_syntax_tree.specs.declared.edition.Edition.{Edition}
use Rattle.fluent_syntax_tree.specs.declared.edition.Edition.TheVariants.{One, Two}
use Rattle.ftl_files.specs.declared.options.BlankLines.{BlankLines}
use Rattle.ftl_files.specs.declared.options.BlankLines.TheVariants.{Keep, Normal}
use Rattle.ftl_files.specs.declared.options.Color.{Color}
use Rattle.ftl_files.specs.declared.options.Color.TheVariants.{Always, Auto, Never}
use Rattle.ftl_files.specs.declared.options.Output.{Output}
use Rattle.ftl_files.specs.declared.options.Output.TheVariants.{Full, Github, Json, Lines}

abbrev pub output_name : Output → List ℕ
output_name Lines = codes "lines"
output_name Full = codes "full"
output_name Json = codes "json"
output_name Github = codes "github"

abbrev pub color_name : Color → List ℕ
color_name Auto = codes "auto"
color_name Always = codes "always"
color_name Never = codes "never"

abbrev pub blank_lines_name : BlankLines → List ℕ
blank_lines_name Normal = codes "normal"
blank_lines_name Keep = codes "keep"

abbrev pub edition_number : Edition → ℤ
edition_number One = pos 1
edition_number Two = pos 2
