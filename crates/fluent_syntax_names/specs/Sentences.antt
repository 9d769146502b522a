-- What is said of a finding of each kind, and of each difference.
use Rattle.std.specs.Prelude.{ℕ, List, ◌++◌, codes, Option, Some, None, if◌then◌else◌}
use Rattle.std.specs.Fmt.{decimal}
use Rattle.fluent_syntax_names.specs.MissingParts.{is_junk}
use Rattle.fluent_syntax_names.specs.ShownNames.{shown_name}
use Rattle.fluent_syntax_names.specs.declared.missing_part.MissingPart.{MissingPart}
use Rattle.fluent_syntax_names.specs.declared.differences.Difference.{Difference}
use Rattle.fluent_syntax_names.specs.declared.differences.Difference.TheVariants as differs
use Rattle.fluent_syntax_names.specs.declared.differences.Side.{Side}
use Rattle.fluent_syntax_names.specs.declared.differences.Side.TheVariants.{Reference, Other}
use Rattle.fluent_syntax_names.specs.declared.finding.Kind.{Kind}
use Rattle.fluent_syntax_names.specs.declared.finding.Kind.TheVariants as kind

-- of the name at its place, with that of its entry or its `-`
abbrev pub sentence_of : Kind → List ℕ → List ℕ
sentence_of kind.DefinedTwice name = codes "`" ++ name ++ codes "` is defined twice"
sentence_of kind.AttributeTwice name = codes "the entry has the attribute `" ++ name ++ codes "` twice"
sentence_of kind.VariantTwice name = codes "the select has the variant `" ++ name ++ codes "` twice"
sentence_of kind.UndefinedMessage name = codes "no file defines the message `" ++ name ++ codes "`"
sentence_of kind.UndefinedTerm name = codes "no file defines the term `" ++ name ++ codes "`"
sentence_of kind.UndefinedAttribute name = codes "no file defines the attribute `" ++ name ++ codes "`"
sentence_of kind.UndefinedValue name = codes "no file gives the message `" ++ name ++ codes "` a value"
sentence_of kind.CyclicReference name = codes "`" ++ name ++ codes "` leads back to this reference"
sentence_of kind.PluralCategory name = codes "no number chooses the variant `" ++ name ++ codes "` in this language"

-- and of the line where the name was given first
abbrev pub first_on_line : Option ℕ → List ℕ
first_on_line None = codes ""
first_on_line (Some line) = codes ", first on line " ++ decimal line

-- of the name of the entry, and of that of what one of the files has in it
abbrev pub difference_sentence : Difference → (entry name : List ℕ) → List ℕ
difference_sentence differs.Missing entry name = codes "`" ++ entry ++ codes "` is missing"
difference_sentence differs.MissingValue entry name = codes "the value of `" ++ entry ++ codes "` is missing"
difference_sentence differs.MissingAttribute entry name =
    codes "the attribute `" ++ name ++ codes "` of `" ++ entry ++ codes "` is missing"
difference_sentence differs.MissingReference entry name =
    codes "`" ++ entry ++ codes "` does not refer to `" ++ name ++ codes "`"
difference_sentence differs.Obsolete entry name = codes "the reference does not define `" ++ entry ++ codes "`"
difference_sentence differs.ObsoleteValue entry name = codes "the reference gives `" ++ entry ++ codes "` no value"
difference_sentence differs.ObsoleteAttribute entry name =
    codes "the reference does not define the attribute `" ++ name ++ codes "` of `" ++ entry ++ codes "`"
difference_sentence differs.ObsoleteReference entry name =
    codes "the reference's `" ++ entry ++ codes "` does not refer to `" ++ name ++ codes "`"
difference_sentence differs.UnknownVariable entry name = codes "the reference does not use `$" ++ name ++ codes "`"
difference_sentence differs.UnknownFunction entry name = codes "the reference does not call `" ++ name ++ codes "`"

-- of the name of an entry that this file defines and the other one has as junk, and its place in the reference's file
abbrev pub junk_sentence : Side → (entry place : List ℕ) → List ℕ
junk_sentence Reference entry place = codes "`" ++ entry ++ codes "` is junk here; the reference has it at " ++ place
junk_sentence Other entry place = codes "`" ++ entry ++ codes "` is junk in the reference (" ++ place ++ codes ")"

-- of a part that the file of this side has, by its text: with the place in the reference, where it has one there
abbrev pub part_sentence : Side → (text : List ℕ) → MissingPart → Difference → (place : Option (List ℕ)) → List ℕ
part_sentence side text missing difference None =
    difference_sentence difference (shown_name text missing.entry) (shown_name text missing.name)
part_sentence side text missing difference (Some place) =
    if is_junk missing then junk_sentence side (shown_name text missing.entry) place
    else difference_sentence difference (shown_name text missing.entry) (shown_name text missing.name)
    ++ (codes " (" ++ (place ++ codes ")"))
