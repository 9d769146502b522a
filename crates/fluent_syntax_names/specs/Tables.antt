-- What tables hold while files are gone through.
use Rattle.std.specs.Prelude.{◌≡◌, Bool, ◌||◌, List, Option, None, is_some}
use Rattle.std.specs.List.{list_any}
use Rattle.std.specs.Str.{bytes_eq}
use Rattle.fluent_syntax_tree.specs.declared.spans.Span.{Span}
use Rattle.fluent_syntax_names.specs.declared.mention.Mention.{Mention}
use Rattle.fluent_syntax_names.specs.Findings.{Known, after}
use Rattle.fluent_syntax_names.specs.QualifiedNames.{Text}
use Rattle.fluent_syntax_names.specs.FirstPlaces.{Notes}

-- names with their places
abbrev pub Lookup : Type 0
Lookup = Text → Option Span

abbrev pub has_name : Lookup → Text → Bool
has_name known name = is_some (known name)

-- the names known now are those known before, and those that `more` puts before others
abbrev pub NotesNames : (old new : Lookup) → (more : List Text → List Text) → Type 0
NotesNames old new more = (rest : List Text) (name : Text) →
    (has_name new name || list_any (bytes_eq name) rest) ≡ (has_name old name || list_any (bytes_eq name) (more rest))

-- what `left` puts before others is still to be noted, of what `all` does
abbrev pub LeavesNames : (old now : Lookup) → (left all : List Text → List Text) → Type 0
LeavesNames old now left all = (rest : List Text) (name : Text) →
    (has_name now name || list_any (bytes_eq name) (left rest))
    ≡ (has_name old name || list_any (bytes_eq name) (all rest))

-- the tables hold what is known
abbrev pub Holds : (names parts : Lookup) → Known → Type 0
Holds names parts known =
    ((name : Text) → names name ≡ known.names name) × ((name : Text) → parts name ≡ known.parts name)

-- the tables go on as what is known does
abbrev pub HoldsAfter : (old_names old_parts new_names new_parts : Lookup) → Text → Mention Span → Type 0
HoldsAfter old_names old_parts new_names new_parts text mention = (known : Known) →
    Holds old_names old_parts known → Holds new_names new_parts (after text known mention)

-- the entry is noted, and no part of it
abbrev pub NotesEntry : (old_names new_names new_parts : Lookup) → Text → Span → Type 0
NotesEntry old_names new_names new_parts name place =
    Notes old_names new_names name place × ((n : Text) → new_parts n ≡ None)

-- the part is noted, and no entry
abbrev pub NotesPart : (old_names new_names old_parts new_parts : Lookup) → Text → Span → Type 0
NotesPart old_names new_names old_parts new_parts name place =
    ((n : Text) → new_names n ≡ old_names n) × Notes old_parts new_parts name place
