-- Names, as they are shown.
use Rattle.std.specs.Prelude.{ℕ, Bool, List, ◌-◌, ◌&&◌, ◌||◌, ◌==◌, nat_le, nat_lt, [], ◌∷◌, length, slice_index}
use Rattle.std.specs.Prelude.{if◌then◌else◌, slice_range}
use Rattle.std.specs.List.{suffix_len}
use Rattle.std.specs.Str.{bytes_eq}
use Rattle.fluent_syntax_tree.specs.Bytes.{full_stop, hyphen}
use Rattle.fluent_syntax_tree.specs.declared.spans.Span.{Span}
use Rattle.fluent_syntax_names.specs.QualifiedNames.{Text, name_at}

-- whether a character of the text begins there, or the text ends
abbrev pub is_boundary : Text → ℕ → Bool
is_boundary text i =
    nat_le i (length text)
    && (nat_le (length text) i || nat_lt (slice_index text i) 128 || nat_le 192 (slice_index text i))

-- the characters of a range of the text; none where it is no range of them
abbrev pub characters_at : Text → Span → Text
characters_at text span =
    if nat_le span.start span.end && is_boundary text span.start && is_boundary text span.end
    then slice_range text span.start span.end else []

-- the range of a name with the `-` before it, where there is one
abbrev pub with_hyphen : Text → Span → Span
with_hyphen text name =
    if bytes_eq (name_at text (record { start = name.start - 1; end = name.start })) (hyphen ∷ [])
    then record { start = name.start - 1; end = name.end }
    else name

-- a name as it is shown: that of a term has its `-`
abbrev pub shown_name : Text → Span → Text
shown_name text name = characters_at text (with_hyphen text name)

-- ---- names in sentences

-- a letter, a digit, `-` or `_`
abbrev pub is_name_byte : ℕ → Bool
is_name_byte b =
    (nat_le 97 b && nat_le b 122) || (nat_le 65 b && nat_le b 90) || (nat_le 48 b && nat_le b 57) || b == 45 || b == 95

-- where the name begins that ends the bytes
abbrev pub last_name_start : List ℕ → ℕ
last_name_start bytes = length bytes - suffix_len is_name_byte bytes

-- where the name of the entry begins that a `.` before the name follows, or else that `.`
abbrev pub entry_start : Text → Span → ℕ
entry_start text name = last_name_start (name_at text (record { start = 0; end = name.start - 1 }))

-- whether the name follows that of an entry and a `.`
abbrev pub is_after_entry : Text → Span → Bool
is_after_entry text name =
    bytes_eq (name_at text (record { start = name.start - 1; end = name.start })) (full_stop ∷ [])
    && nat_lt (entry_start text name) (name.start - 1)

-- the range of a name with that of its entry and the `.` before it, or with the `-` before it
abbrev pub with_entry : Text → Span → Span
with_entry text name =
    if is_after_entry text name then record { start = entry_start text name; end = name.end } else with_hyphen text name

-- a name as sentences have it: an attribute in a reference is `name.attribute` or `-name.attribute`
abbrev pub full_name : Text → Span → Text
full_name text name = characters_at text (with_entry text name)
