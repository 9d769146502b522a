-- How deeply an input nests, read by what a number means.
use Rattle.std.specs.Prelude.{◌≡◌, ℕ, List}
use Rattle.fluent_syntax_tree.specs.declared.edition.Edition.{Edition}
use Rattle.fluent_syntax_grammar.specs.Nesting.{NestsDeeper}
use Rattle.ftl.specs.Answer.{ReadsDeeper}
use Rattle.ftl.specs.declared.command.Command.{Command}
use Rattle.fluent_syntax_c.specs.Arguments.{command_number, edition_number}

-- The input nests deeper than n, read by the command of the number.
abbrev pub CommandReadsDeeper : (number : ℕ) (input : List ℕ) (n : ℕ) → Type 0
CommandReadsDeeper number input n =
    (command : Command) × (command_number command ≡ number) × ReadsDeeper command input n

-- The input nests deeper than n, read by the edition of the number.
abbrev pub EditionReadsDeeper : (number : ℕ) (input : List ℕ) (n : ℕ) → Type 0
EditionReadsDeeper number input n =
    (edition : Edition) × (edition_number edition ≡ number) × NestsDeeper edition input n
