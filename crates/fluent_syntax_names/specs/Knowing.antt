-- Which names are known to be defined.
use Rattle.std.specs.Prelude.{◌≡◌, Bool, ◌||◌, List, []}
use Rattle.std.specs.Borrow.{Bor}
use Rattle.std.specs.List.{list_any}
use Rattle.std.specs.Str.{bytes_eq}
use Rattle.fluent_syntax_tree.specs.declared.spans.Span.{Span}
use Rattle.fluent_syntax_names.specs.Findings.{defined_in}
use Rattle.fluent_syntax_names.specs.Mentions.{Mentions}
use Rattle.fluent_syntax_names.specs.FirstPlaces.{place_of}
use Rattle.fluent_syntax_names.specs.QualifiedNames.{Text, nameless}
use Rattle.fluent_syntax_names.specs.Tables.{has_name}
use Rattle.fluent_syntax_names.specs.declared.defined_names.DefinedNames.{DefinedNames}
use Rattle.fluent_syntax_names.specs.declared.known_names.KnownNames.{KnownNames}

-- whether the files that were added define the name, spelled so
abbrev pub defines_name : DefinedNames → Text → Bool
defines_name names name = has_name (place_of names.places.table) name

-- the names now are those before, and what the mentions of the text define
abbrev pub AddsDefined : (old new : DefinedNames) → Text → Mentions Span → Type 0
AddsDefined old new text ms = (name : Text) →
    defines_name new name ≡ (defines_name old name || list_any (bytes_eq name) (defined_in text nameless ms []))

-- whether one of the others defines it
abbrev pub others_define : List (Bor DefinedNames) → Text → Bool
others_define others name = list_any (λ other. defines_name other.now name) others

-- whether the table or one of the others has it
abbrev pub knows : KnownNames → Text → Bool
knows known name = has_name (place_of known.own.now.table) name || others_define known.others.now name
