-- How grave each kind is, and what it is called.
use Rattle.std.specs.Prelude.{ℕ, Bool, true, false, List, codes}
use Rattle.fluent_syntax_names.specs.declared.finding.Kind.{Kind}
use Rattle.fluent_syntax_names.specs.declared.finding.Kind.TheVariants as kind
use Rattle.fluent_syntax_names.specs.declared.finding.Severity.{Severity}
use Rattle.fluent_syntax_names.specs.declared.finding.Severity.TheVariants.{Error, Warning}

abbrev pub severity_of : Kind → Severity
severity_of kind.DefinedTwice = Error
severity_of kind.AttributeTwice = Error
severity_of kind.VariantTwice = Warning
severity_of kind.UndefinedMessage = Error
severity_of kind.UndefinedTerm = Error
severity_of kind.UndefinedAttribute = Error
severity_of kind.UndefinedValue = Error
severity_of kind.CyclicReference = Error
severity_of kind.PluralCategory = Warning

-- as a command line has it
abbrev pub name_of : Kind → List ℕ
name_of kind.DefinedTwice = codes "defined-twice"
name_of kind.AttributeTwice = codes "attribute-twice"
name_of kind.VariantTwice = codes "variant-twice"
name_of kind.UndefinedMessage = codes "undefined-message"
name_of kind.UndefinedTerm = codes "undefined-term"
name_of kind.UndefinedAttribute = codes "undefined-attribute"
name_of kind.UndefinedValue = codes "undefined-value"
name_of kind.CyclicReference = codes "cyclic-reference"
name_of kind.PluralCategory = codes "plural-category"

-- whether one in a file is one whatever there is in other files
abbrev pub is_local : Kind → Bool
is_local kind.DefinedTwice = true
is_local kind.AttributeTwice = true
is_local kind.VariantTwice = true
is_local kind.UndefinedMessage = false
is_local kind.UndefinedTerm = false
is_local kind.UndefinedAttribute = false
is_local kind.UndefinedValue = false
is_local kind.CyclicReference = true
is_local kind.PluralCategory = true
