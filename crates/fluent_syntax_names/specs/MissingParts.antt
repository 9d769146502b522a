-- What one file says and another lacks.
use Rattle.std.specs.Prelude.{Bool, true, false, not, ◌||◌, ◌&&◌, List, [], ◌∷◌, Option, Some, None, if◌then◌else◌}
use Rattle.std.specs.Prelude.{is_some, codes}
use Rattle.std.specs.List.{list_any}
use Rattle.std.specs.Str.{bytes_eq}
use Rattle.fluent_syntax_tree.specs.declared.spans.Span.{Span}
use Rattle.fluent_syntax_names.specs.declared.missing_part.MissingPart.{MissingPart}
use Rattle.fluent_syntax_names.specs.declared.missing_part.Part.{Part}
use Rattle.fluent_syntax_names.specs.declared.missing_part.Part.TheVariants as part
use Rattle.fluent_syntax_names.specs.declared.mention.Mention.{Mention}
use Rattle.fluent_syntax_names.specs.declared.mention.Mention.TheVariants as says
use Rattle.fluent_syntax_names.specs.declared.name_index.NameIndex.{NameIndex}
use Rattle.fluent_syntax_names.specs.declared.qualified_names.EntryName.{EntryName}
use Rattle.fluent_syntax_names.specs.EntryPlaces.{entry_place, is_first}
use Rattle.fluent_syntax_names.specs.Findings.{put, owner_after, is_defined}
use Rattle.fluent_syntax_names.specs.QualifiedNames.{Text, nameless, message_name, term_name}
use Rattle.fluent_syntax_names.specs.Findings.{gathered}
use Rattle.fluent_syntax_names.specs.MessageReferences.{reachable_messages, references_of}
use Rattle.fluent_syntax_names.specs.Mentions.{Mentions}
use Rattle.fluent_syntax_names.specs.QualifiedNames.{qualified_name, qualified_attribute, qualified_value}
use Rattle.fluent_syntax_names.specs.QualifiedNames.{qualified_function, qualified_variable}
use Rattle.fluent_syntax_names.specs.QualifiedNames.{name_at, qualified_reference, variable_of}

-- ---- What entries use

-- what the mention uses in the entry, as it is spelled, before others: `name>message`, `name>-term`, `name$variable`,
-- `(FUNCTION`
abbrev pub uses : Text → EntryName → Mention Span → List Text → List Text
uses text owner (says.MessageReference x a) tail = qualified_reference text owner (message_name x) ∷ tail
uses text owner (says.TermReference x a) tail = qualified_reference text owner (term_name x) ∷ tail
uses text owner (says.Variable x) tail = qualified_variable text owner x ∷ tail
uses text owner (says.Function x) tail = qualified_function text x ∷ tail
uses text owner _ tail = tail

abbrev pub used_in : Text → EntryName → Mentions Span → List Text → List Text
used_in text owner ms tail = gathered (uses text) owner ms tail

-- whether the file uses this, spelled so
abbrev pub is_used : NameIndex → Text → Bool
is_used file name = list_any (bytes_eq name) (used_in file.text.now nameless file.mentions.items [])

-- ---- What the other file lacks

-- what the other file defines, what it uses, which messages an entry of it leads to, and where it has an entry; and
-- where the one has an entry
pub record Other : Type 0 where
  pub defines : Text → Bool
  pub uses : Text → Bool
  pub reachable : Text → Option (List Text)
  pub place : Text → Option Span
  pub own_place : Text → Option Span

abbrev pub missing_part_of : Other → Text → EntryName → Part → Span → Option MissingPart
missing_part_of other text owner part name = Some (record {
  part = part;
  name = name;
  entry = owner.name;
  in_other = other.place (qualified_name text owner);
})

-- a part of an entry that the other defines
abbrev pub missing_part : Other → Text → EntryName → (is_there : Bool) → Part → Span → Option MissingPart
missing_part other text owner is_there part name =
    if not (other.defines (qualified_name text owner)) then None
    else if is_there then None
    else missing_part_of other text owner part name

abbrev pub missing_value : Other → Text → EntryName → (has_value : Bool) → Option MissingPart
missing_value other text message false = None
missing_value other text message true =
    missing_part other text message (other.defines (qualified_value text message)) part.Value message.name

-- of entries of one name the first one
abbrev pub missing_first : Other → Text → EntryName → Option MissingPart
missing_first other text entry =
    if is_first (other.own_place (qualified_name text entry)) entry.name
    then missing_part_of other text entry part.Entry entry.name
    else None

abbrev pub missing_entry : Other → Text → EntryName → (has_value : Bool) → Option MissingPart
missing_entry other text entry has_value =
    if other.defines (qualified_name text entry) then missing_value other text entry has_value
    else missing_first other text entry

abbrev pub missing_attribute : Other → Text → EntryName → Span → Option MissingPart
missing_attribute other text owner attribute =
    if owner.is_term then None
    else missing_part other text owner (other.defines (qualified_attribute text owner attribute)) part.Attribute
    attribute

abbrev pub missing_reference : Other → Text → EntryName → EntryName → Option MissingPart
missing_reference other text owner target =
    missing_part other text owner (other.uses (qualified_reference text owner target)) part.Reference target.name

-- a message may use the variable that does, and one that the other file doesn't define, since another file may
abbrev pub one_may_use : Other → (variable message : Text) → Bool
one_may_use other variable message = not (other.defines message) || other.uses (variable_of message variable)

-- one of the messages that are led to may; where there are too many to be followed, some may
abbrev pub some_may_use : Other → (variable : Text) → Option (List Text) → Bool
some_may_use other variable None = true
some_may_use other variable (Some messages) = list_any (one_may_use other variable) messages

-- a message may be given the variable that it uses, or that one may use that it leads to
abbrev pub may_use : Other → Text → EntryName → Span → Bool
may_use other text owner variable =
    other.uses (qualified_variable text owner variable)
    || some_may_use other (name_at text variable) (other.reachable (qualified_name text owner))

abbrev pub missing_variable : Other → Text → EntryName → Span → Option MissingPart
missing_variable other text owner variable =
    if owner.is_term then None
    else missing_part other text owner (may_use other text owner variable) part.Variable variable

-- of Fluent itself, so that each program has them
abbrev pub is_built_in : (function : Text) → Bool
is_built_in function = bytes_eq function (codes "NUMBER") || bytes_eq function (codes "DATETIME")

-- any entry may call what one of the other file calls
abbrev pub may_call : Other → Text → Span → Bool
may_call other text function =
    is_built_in (name_at text function) || other.uses (qualified_function text function)

abbrev pub missing_function : Other → Text → EntryName → Span → Option MissingPart
missing_function other text owner function =
    missing_part other text owner (may_call other text function) part.Function function

abbrev pub missing_part_at : Other → Text → EntryName → Mention Span → Option MissingPart
missing_part_at other text owner (says.Message x v) = missing_entry other text (message_name x) v
missing_part_at other text owner (says.Term x) = missing_entry other text (term_name x) false
missing_part_at other text owner (says.Attribute x) = missing_attribute other text owner x
missing_part_at other text owner (says.MessageReference x a) = missing_reference other text owner (message_name x)
missing_part_at other text owner (says.TermReference x a) = missing_reference other text owner (term_name x)
missing_part_at other text owner (says.Variable x) = missing_variable other text owner x
missing_part_at other text owner (says.Function x) = missing_function other text owner x
missing_part_at other text owner _ = None

abbrev pub missing_parts_in : Other → Text → EntryName → Mentions Span → List MissingPart → List MissingPart
missing_parts_in other text owner [] tail = tail
missing_parts_in other text owner (m ∷ ms) tail =
    put (missing_part_at other text owner m) (missing_parts_in other text (owner_after owner m) ms tail)

abbrev pub other_of : (one other : NameIndex) → Other
other_of one file = record {
  defines = is_defined (file ∷ []);
  uses = is_used file;
  reachable = reachable_messages (references_of file);
  place = entry_place file.text.now file.mentions.items;
  own_place = entry_place one.text.now one.mentions.items;
}

-- what the one says and the other lacks, in the order of the one's text
abbrev pub all_missing_parts : (one other : NameIndex) → List MissingPart
all_missing_parts one other = missing_parts_in (other_of one other) one.text.now nameless one.mentions.items []

-- ---- What is junk

abbrev pub is_entry_part : Part → Bool
is_entry_part part.Entry = true
is_entry_part _ = false

-- whether the other file has it as junk, which only a message or a term can be
abbrev pub is_junk : MissingPart → Bool
is_junk missing = is_entry_part missing.part && is_some missing.in_other
