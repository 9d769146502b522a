-- Where a file has its messages and terms.
use Rattle.std.specs.Prelude.{ℕ, Bool, false, ◌||◌, ◌==◌, [], ◌∷◌, Option, Some, None, count_by, take_while}
use Rattle.std.specs.Char.{is_ascii_alphanumeric}
use Rattle.fluent_syntax_tree.specs.Bytes.{hyphen, underscore}
use Rattle.fluent_syntax_tree.specs.declared.spans.Span.{Span}
use Rattle.fluent_syntax_names.specs.Mentions.{Mentions}
use Rattle.fluent_syntax_names.specs.FirstPlaces.{first_of, place_where}
use Rattle.fluent_syntax_names.specs.QualifiedNames.{Text, name_at, qualified_name, message_name, term_name}
use Rattle.fluent_syntax_names.specs.declared.mention.Mention.{Mention}
use Rattle.fluent_syntax_names.specs.declared.name_index.NameIndex.{NameIndex}
use Rattle.fluent_syntax_names.specs.declared.mention.Mention.TheVariants as says

-- the name in the mention, where it is that of a message or a term of this name, a term's with its `-`
abbrev pub definition_named : Text → Mention Span → (entry : Text) → Option Span
definition_named text (says.Message x v) entry = place_where entry (qualified_name text (message_name x)) x
definition_named text (says.Term x) entry = place_where entry (qualified_name text (term_name x)) x
definition_named text _ entry = None

-- letters, digits, `-` and `_`
abbrev pub is_name_byte : ℕ → Bool
is_name_byte b = is_ascii_alphanumeric b || b == hyphen || b == underscore

-- the name with which the bytes begin, a term's with its `-`: no byte of a name follows
abbrev pub name_prefix : Text → Text
name_prefix bytes = take_while is_name_byte bytes

-- the range of the mention, where it is junk that begins with the name
abbrev pub junk_named : Text → Mention Span → (entry : Text) → Option Span
junk_named text (says.Junk x) entry = place_where entry (name_prefix (name_at text x)) x
junk_named text _ entry = None

-- the first place that a mention has for the name
abbrev pub first_place_in : (Mention Span → Text → Option Span) → Mentions Span → Text → Option Span
first_place_in named [] entry = None
first_place_in named (m ∷ ms) entry = first_of (named m entry) (first_place_in named ms entry)

-- where the text that says this has the message or the term: its name where it is defined first, or else the first junk
-- that begins with it
abbrev pub entry_place : Text → Mentions Span → (entry : Text) → Option Span
entry_place text ms entry =
    first_of (first_place_in (definition_named text) ms entry) (first_place_in (junk_named text) ms entry)

-- whether the place begins where the first one does
abbrev pub is_first : (first : Option Span) → (place : Span) → Bool
is_first None place = false
is_first (Some first) place = first.start == place.start

-- whether the mention is the first definition of its name, by these places
abbrev pub is_first_definition : (Text → Option Span) → Text → Mention Span → Bool
is_first_definition places text (says.Message x v) = is_first (places (qualified_name text (message_name x))) x
is_first_definition places text (says.Term x) = is_first (places (qualified_name text (term_name x))) x
is_first_definition places text _ = false

-- how many messages and terms the file defines, each name once
abbrev pub entry_count : NameIndex → ℕ
entry_count file =
    count_by (is_first_definition (entry_place file.text.now file.mentions.items) file.text.now) file.mentions.items
