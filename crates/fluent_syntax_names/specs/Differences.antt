-- What is reported where one of two files lacks what the other has.
use Rattle.std.specs.Prelude.{ℕ, List, Option, None, Some, codes}
use Rattle.fluent_syntax_names.specs.declared.finding.Severity.{Severity}
use Rattle.fluent_syntax_names.specs.declared.finding.Severity.TheVariants.{Error, Warning}
use Rattle.fluent_syntax_names.specs.declared.missing_part.Part.{Part}
use Rattle.fluent_syntax_names.specs.declared.missing_part.Part.TheVariants as part
use Rattle.fluent_syntax_names.specs.declared.differences.Difference.{Difference}
use Rattle.fluent_syntax_names.specs.declared.differences.Difference.TheVariants as differs
use Rattle.fluent_syntax_names.specs.declared.differences.Side.{Side}
use Rattle.fluent_syntax_names.specs.declared.differences.Side.TheVariants.{Reference, Other}

-- of a part that this file has and the other one lacks: a translation may leave a variable or a function out
abbrev pub side_difference : Side → Part → Option Difference
side_difference Reference part.Entry = Some differs.Missing
side_difference Reference part.Value = Some differs.MissingValue
side_difference Reference part.Attribute = Some differs.MissingAttribute
side_difference Reference part.Reference = Some differs.MissingReference
side_difference Reference part.Variable = None
side_difference Reference part.Function = None
side_difference Other part.Entry = Some differs.Obsolete
side_difference Other part.Value = Some differs.ObsoleteValue
side_difference Other part.Attribute = Some differs.ObsoleteAttribute
side_difference Other part.Reference = Some differs.ObsoleteReference
side_difference Other part.Variable = Some differs.UnknownVariable
side_difference Other part.Function = Some differs.UnknownFunction

-- as a command line has it
abbrev pub difference_name : Difference → List ℕ
difference_name differs.Missing = codes "missing"
difference_name differs.MissingValue = codes "missing-value"
difference_name differs.MissingAttribute = codes "missing-attribute"
difference_name differs.MissingReference = codes "missing-reference"
difference_name differs.Obsolete = codes "obsolete"
difference_name differs.ObsoleteValue = codes "obsolete-value"
difference_name differs.ObsoleteAttribute = codes "obsolete-attribute"
difference_name differs.ObsoleteReference = codes "obsolete-reference"
difference_name differs.UnknownVariable = codes "unknown-variable"
difference_name differs.UnknownFunction = codes "unknown-function"

abbrev pub difference_severity : Difference → Severity
difference_severity differs.Missing = Error
difference_severity differs.MissingValue = Error
difference_severity differs.MissingAttribute = Error
difference_severity differs.MissingReference = Warning
difference_severity differs.Obsolete = Warning
difference_severity differs.ObsoleteValue = Warning
difference_severity differs.ObsoleteAttribute = Warning
difference_severity differs.ObsoleteReference = Warning
difference_severity differs.UnknownVariable = Error
difference_severity differs.UnknownFunction = Warning
