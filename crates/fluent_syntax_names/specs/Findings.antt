-- What is found in a set of files of one language.
use Rattle.std.specs.Prelude.{ℕ, ◌+◌, Bool, true, false, ◌||◌, List, [], ◌∷◌, ◌++◌, Option, Some, None, filter, map}
use Rattle.std.specs.Prelude.{if◌then◌else◌}
use Rattle.std.specs.List.{list_any}
use Rattle.std.specs.Str.{bytes_eq}
use Rattle.fluent_syntax_tree.specs.declared.spans.Span.{Span}
use Rattle.fluent_syntax_names.specs.declared.mention.Mention.{Mention}
use Rattle.fluent_syntax_names.specs.declared.mention.Mention.TheVariants as says
use Rattle.fluent_syntax_names.specs.declared.finding.Finding.{Finding}
use Rattle.fluent_syntax_names.specs.declared.finding.Place.{Place}
use Rattle.fluent_syntax_names.specs.declared.finding.Kind.{Kind}
use Rattle.fluent_syntax_names.specs.declared.finding.Kind.TheVariants as kind
use Rattle.fluent_syntax_names.specs.declared.name_index.NameIndex.{NameIndex}
use Rattle.fluent_syntax_names.specs.declared.qualified_names.EntryName.{EntryName}
use Rattle.fluent_syntax_names.specs.declared.qualified_names.PatternName.{PatternName}
use Rattle.fluent_syntax_names.specs.Mentions.{Mentions}
use Rattle.fluent_syntax_names.specs.PluralCategories.{Words, unchosen_keys}
use Rattle.fluent_syntax_names.specs.FirstPlaces.{first_of, place_where}
use Rattle.fluent_syntax_names.specs.Severities.{is_local}
use Rattle.fluent_syntax_names.specs.QualifiedNames.{Text, message_name, term_name, nameless, name_at, qualified_name}
use Rattle.fluent_syntax_names.specs.QualifiedNames.{qualified_attribute, qualified_key}
use Rattle.fluent_syntax_names.specs.QualifiedNames.{qualified_value, qualified_pattern}
use Rattle.fluent_syntax_names.specs.Cycles.{pattern_after, referenced_pattern, no_pattern, links, is_cyclic}

-- ---- What the files define

-- whose attributes follow the mention
abbrev pub owner_after : EntryName → Mention Span → EntryName
owner_after owner (says.Message x v) = message_name x
owner_after owner (says.Term x) = term_name x
owner_after owner _ = owner

-- a message, and its value where it has one
abbrev pub message_defines : Text → EntryName → Bool → List Text → List Text
message_defines text message true tail = qualified_name text message ∷ (qualified_value text message ∷ tail)
message_defines text message false tail = qualified_name text message ∷ tail

-- what the mention defines, as it is spelled, before others: `name`, `name=`, `-name`, `name.attribute`,
-- `-name.attribute`
abbrev pub defines : Text → EntryName → Mention Span → List Text → List Text
defines text owner (says.Message x v) tail = message_defines text (message_name x) v tail
defines text owner (says.Term x) tail = qualified_name text (term_name x) ∷ tail
defines text owner (says.Attribute x) tail = qualified_attribute text owner x ∷ tail
defines text owner _ tail = tail

-- what each mention adds before others, where it is known whose attributes they are
abbrev pub gathered : (EntryName → Mention Span → List Text → List Text) → EntryName → Mentions Span → List Text
    → List Text
gathered adds owner [] tail = tail
gathered adds owner (m ∷ ms) tail = adds owner m (gathered adds (owner_after owner m) ms tail)

abbrev pub defined_in : Text → EntryName → Mentions Span → List Text → List Text
defined_in text owner ms tail = gathered (defines text) owner ms tail

-- an item before others, where there is one
abbrev pub put : {A : Type 0} → Option A → List A → List A
put None tail = tail
put (Some x) tail = x ∷ tail

abbrev pub defined_by : List NameIndex → List Text
defined_by [] = []
defined_by (file ∷ files) = defined_in file.text.now nameless file.mentions.items (defined_by files)

-- whether some file defines the name, spelled so
abbrev pub is_defined : List NameIndex → Text → Bool
is_defined files name = list_any (bytes_eq name) (defined_by files)

-- ---- What a file has defined so far

-- each name has the place where it was defined first
pub record Known : Type 0 where
  -- messages and terms of the file
  pub names : Text → Option Span
  -- attributes of the last of them, and the keys of the variants in it
  pub parts : Text → Option Span

abbrev pub nothing : Known
nothing = record { names = λ name. None; parts = λ name. None }

-- a name more, where it is new
abbrev pub noted : (Text → Option Span) → Text → Span → Text → Option Span
noted known name place = λ n. first_of (known n) (place_where n name place)

abbrev pub after : Text → Known → Mention Span → Known
after text known (says.Message x v) =
    record { names = noted known.names (qualified_name text (message_name x)) x; parts = λ name. None }
after text known (says.Term x) =
    record { names = noted known.names (qualified_name text (term_name x)) x; parts = λ name. None }
after text known (says.Attribute x) =
    record { names = known.names; parts = noted known.parts (name_at text x) x }
after text known (says.VariantKey x first) =
    record { names = known.names; parts = noted known.parts (qualified_key text first x) x }
after text known _ = known

-- ---- What is found at a mention

abbrev pub finding_at : Kind → ℕ → Span → Option Place → Finding
finding_at kind file place other = record { kind = kind; file = file; place = Some place; other = other }

-- given twice, where there is a first place
abbrev pub twice : Kind → ℕ → Span → Option Span → Option Finding
twice kind file place None = None
twice kind file place (Some first) = Some (finding_at kind file place (Some (record { file = file; span = first })))

abbrev pub undefined_attribute : (Text → Bool) → ℕ → Text → EntryName → Span → Option Finding
undefined_attribute is_defined file text entry a =
    if is_defined (qualified_attribute text entry a) then None
    else Some (finding_at kind.UndefinedAttribute file a None)

-- a term has a value
abbrev pub undefined_value : (Text → Bool) → ℕ → Text → EntryName → Option Finding
undefined_value is_defined file text entry =
    if entry.is_term then None
    else if is_defined (qualified_value text entry) then None
    else Some (finding_at kind.UndefinedValue file entry.name None)

-- of an entry that some file defines: its value, or an attribute
abbrev pub undefined_reference : (Text → Bool) → ℕ → Text → EntryName → Option Span → Option Finding
undefined_reference is_defined file text entry None = undefined_value is_defined file text entry
undefined_reference is_defined file text entry (Some a) = undefined_attribute is_defined file text entry a

-- of a reference to the entry, or to an attribute of it
abbrev pub undefined_entry : (Text → Bool) → ℕ → Text → Kind → EntryName → Option Span → Option Finding
undefined_entry is_defined file text kind entry attribute =
    if is_defined (qualified_name text entry) then undefined_reference is_defined file text entry attribute
    else Some (finding_at kind file entry.name None)

abbrev pub finding_of : (Text → Bool) → ℕ → Text → Known → Mention Span → Option Finding
finding_of is_defined file text known (says.Message x v) =
    twice kind.DefinedTwice file x (known.names (qualified_name text (message_name x)))
finding_of is_defined file text known (says.Term x) =
    twice kind.DefinedTwice file x (known.names (qualified_name text (term_name x)))
finding_of is_defined file text known (says.Attribute x) =
    twice kind.AttributeTwice file x (known.parts (name_at text x))
finding_of is_defined file text known (says.VariantKey x first) =
    twice kind.VariantTwice file x (known.parts (qualified_key text first x))
finding_of is_defined file text known (says.MessageReference x a) =
    undefined_entry is_defined file text kind.UndefinedMessage (message_name x) a
finding_of is_defined file text known (says.TermReference x a) =
    undefined_entry is_defined file text kind.UndefinedTerm (term_name x) a
finding_of is_defined file text known _ = None

-- a reference to the target, in the pattern, where it comes back
abbrev pub cycle_to : (Text → Text → Bool) → ℕ → Text → PatternName → Option PatternName → Option Finding
cycle_to is_cyclic file text pattern None = None
cycle_to is_cyclic file text pattern (Some target) =
    if is_cyclic (qualified_pattern text pattern) (qualified_pattern text target)
    then Some (finding_at kind.CyclicReference file target.entry.name None)
    else None

abbrev pub cycle : (Text → Text → Bool) → ℕ → Text → PatternName → Mention Span → Option Finding
cycle is_cyclic file text pattern mention = cycle_to is_cyclic file text pattern (referenced_pattern mention)

-- ---- All that is found, in the order of the files and of their mentions

-- what is known of all files: which names they define, and which references come back
pub record Set : Type 0 where
  pub defines : Text → Bool
  pub is_cyclic : Text → Text → Bool

abbrev pub findings_in : Set → ℕ → Text → Known → PatternName → Mentions Span → List Finding → List Finding
findings_in all file text known pattern [] tail = tail
findings_in all file text known pattern (m ∷ ms) tail =
    put (finding_of all.defines file text known m)
    (put (cycle all.is_cyclic file text pattern m)
    (findings_in all file text (after text known m) (pattern_after pattern m) ms tail))

-- each key that a language with these plural categories never chooses
abbrev pub unchosen_findings : Option Words → ℕ → NameIndex → List Finding → List Finding
unchosen_findings None number file tail = tail
unchosen_findings (Some categories) number file tail =
    map (λ key. finding_at kind.PluralCategory number key None) (unchosen_keys file categories) ++ tail

-- in each file what is found at its mentions, and then the keys that its language never chooses
abbrev pub findings_from : Set → Option Words → ℕ → List NameIndex → List Finding → List Finding
findings_from all categories number [] tail = tail
findings_from all categories number (file ∷ files) tail =
    findings_in all number file.text.now nothing no_pattern file.mentions.items
    (unchosen_findings categories number file (findings_from all categories (number + 1) files tail))

abbrev pub set_of : List NameIndex → Set
set_of files = record { defines = is_defined files; is_cyclic = is_cyclic (links files) }

abbrev pub all_findings : List NameIndex → List Finding
all_findings files = findings_from (set_of files) None 0 files []

-- what is known of files among others, of which it is known whether they define a name
abbrev pub set_with_externals : List NameIndex → (Text → Bool) → Set
set_with_externals files others = record {
  defines = λ name. is_defined files name || others name;
  is_cyclic = is_cyclic (links files);
}

-- what is found in the files of a language, where others may define what they refer to
abbrev pub findings_in_language : Option Words → List NameIndex → (Text → Bool) → List Finding
findings_in_language categories files others = findings_from (set_with_externals files others) categories 0 files []

-- the same where its plural categories are not known
abbrev pub findings_with_externals : List NameIndex → (Text → Bool) → List Finding
findings_with_externals = findings_in_language None

-- what is found in a file of a language by itself that is found whatever there is in other files
abbrev pub local_findings_in_language : Option Words → NameIndex → List Finding
local_findings_in_language categories file =
    filter (λ f. is_local f.kind) (findings_from (set_of (file ∷ [])) categories 0 (file ∷ []) [])

-- the same where its plural categories are not known
abbrev pub local_findings : NameIndex → List Finding
local_findings = local_findings_in_language None
