-- How the names of entries and of attributes are spelled.
use Rattle.std.specs.Prelude.{ℕ, ◌&&◌, nat_le, List, [], ◌∷◌, ◌++◌, length, slice_range, if◌then◌else◌, true, false}
use Rattle.std.specs.Prelude.{Option, Some, None}
use Rattle.std.specs.Fmt.{decimal}
use Rattle.fluent_syntax_tree.specs.Bytes.{hyphen, full_stop, equals_sign, dollar_sign, greater_than, left_bracket}
use Rattle.fluent_syntax_tree.specs.Bytes.{left_parenthesis}
use Rattle.fluent_syntax_tree.specs.declared.spans.Span.{Span}
use Rattle.fluent_syntax_names.specs.declared.qualified_names.EntryName.{EntryName}
use Rattle.fluent_syntax_names.specs.declared.qualified_names.PatternName.{PatternName}

abbrev pub Text : Type 0
Text = List ℕ

abbrev pub message_name : Span → EntryName
message_name x = record { is_term = false; name = x }

abbrev pub term_name : Span → EntryName
term_name x = record { is_term = true; name = x }

-- before any entry
abbrev pub nameless : EntryName
nameless = message_name (record { start = 0; end = 0 })

-- the bytes of a range of the text; none where it reaches beyond the text
abbrev pub name_at : List ℕ → Span → List ℕ
name_at text span =
    if nat_le span.start span.end && nat_le span.end (length text) then slice_range text span.start span.end else []

-- `name`, and of a term `-name`
abbrev pub qualified_name : List ℕ → EntryName → List ℕ
qualified_name text entry = (if entry.is_term then hyphen ∷ [] else []) ++ name_at text entry.name

-- `name.attribute`, and of a term `-name.attribute`
abbrev pub qualified_attribute : List ℕ → EntryName → Span → List ℕ
qualified_attribute text entry attribute = (qualified_name text entry ++ full_stop ∷ []) ++ name_at text attribute

-- `name=`, the value of a message, and of a term `-name=`
abbrev pub qualified_value : List ℕ → EntryName → List ℕ
qualified_value text message = qualified_name text message ++ equals_sign ∷ []

-- `name$variable`, a variable that the entry of that name uses
abbrev pub variable_of : (entry variable : List ℕ) → List ℕ
variable_of entry variable = (entry ++ dollar_sign ∷ []) ++ variable

abbrev pub qualified_variable : List ℕ → EntryName → Span → List ℕ
qualified_variable text entry variable = variable_of (qualified_name text entry) (name_at text variable)

-- `name>other`, that an entry refers to another, or to an attribute of it
abbrev pub qualified_reference : List ℕ → EntryName → EntryName → List ℕ
qualified_reference text entry other = (qualified_name text entry ++ greater_than ∷ []) ++ qualified_name text other

-- `(FUNCTION`, whatever the entry that calls it. No name begins so.
abbrev pub qualified_function : List ℕ → Span → List ℕ
qualified_function text function = left_parenthesis ∷ name_at text function

-- `12[key`, the key of a variant in the select whose first key is at 12. A name begins with a letter and a number
-- does not, so keys that are spelled alike are of one kind. No attribute is spelled so.
abbrev pub qualified_key : List ℕ → (first key : Span) → List ℕ
qualified_key text first key = (decimal first.start ++ left_bracket ∷ []) ++ name_at text key

abbrev pub qualified_part : List ℕ → EntryName → Option Span → List ℕ
qualified_part text entry None = qualified_value text entry
qualified_part text entry (Some attribute) = qualified_attribute text entry attribute

-- a pattern: the value of an entry, or an attribute of it
abbrev pub qualified_pattern : List ℕ → PatternName → List ℕ
qualified_pattern text pattern = qualified_part text pattern.entry pattern.attribute
