-- Tables that grow by the names of one mention after another.
use Rattle.std.proofs.Common.{◌≡◌, ℕ, ◌+◌, ◌<◌, ◌≤◌, Bool, true, false}
use Rattle.std.proofs.Common.{List, [], length, get_or, drop, refl, sym, ap}
use Rattle.std.proofs.Common.{◌∙◌, Option, Some, None, Result, Ok, Err, subst}
use Rattle.std.specs.Prelude.{◌||◌, is_some, if◌then◌else◌, OnOk}
use Rattle.std.specs.List.{list_any}
use Rattle.std.specs.Str.{bytes_eq}
use Rattle.std.proofs.lemmas.List.{drop_all}
use Rattle.fluent_syntax_tree.specs.declared.spans.Span.{Span}
use Rattle.fluent_syntax_names.proofs.Adding.{drop_one_node}
use Rattle.fluent_syntax_names.specs.Mentions.{Mentions}
use Rattle.fluent_syntax_names.specs.declared.mention.Mention.{Mention}
use Rattle.fluent_syntax_names.specs.declared.name_index.NameIndex.{NameIndex}
use Rattle.fluent_syntax_names.specs.declared.qualified_names.EntryName.{EntryName}
use Rattle.fluent_syntax_names.specs.Findings.{put, gathered, defined_in, owner_after, defined_by}
use Rattle.fluent_syntax_names.specs.QualifiedNames.{Text, nameless}
use Rattle.fluent_syntax_names.specs.Findings.{is_defined}
use Rattle.fluent_syntax_names.specs.FirstPlaces.{first_of, Notes}
use Rattle.fluent_syntax_names.specs.Tables.{Lookup, has_name, NotesNames, LeavesNames}

-- ---- One name

first_of-is_some : (before : Option Span) (same : Bool) (place : Span) (others : Bool)
    → (is_some (first_of before (if same then Some place else None)) || others)
    ≡ (is_some before || (same || others))
first_of-is_some None true place others = refl
first_of-is_some None false place others = refl
first_of-is_some (Some x) same place others = refl

pub NotesNames-one : (old new : Lookup) (bytes noted : Text) (place : Span) → bytes ≡ noted → Notes old new bytes place
    → NotesNames old new (put (Some noted))
NotesNames-one old new bytes noted place e notes =
    let P : Text → Type 0 = λ n. NotesNames old new (put (Some n)) in
    let one : P bytes =
    λ rest name.
    ap (λ o. is_some o || list_any (bytes_eq name) rest) (notes name)
    ∙ first_of-is_some (old name) (bytes_eq name bytes) place (list_any (bytes_eq name) rest) in
    subst P e one

-- some names, and further ones where they were noted
pub NotesNames-more : {A E : Type 0} (r : Result A E) (a b c : Lookup) (f g : List Text → List Text) → NotesNames a b f
    → OnOk r (NotesNames b c g) → OnOk r (NotesNames a c (λ tail. f (g tail)))
NotesNames-more (Ok x) a b c f g first second = λ rest name. second rest name ∙ first (g rest) name
NotesNames-more (Err x) a b c f g first second = second

-- ---- The mentions of a file

module _ (old now next : Lookup) (all : List Text → List Text)
    (adds : EntryName → Mention Span → List Text → List Text) (owner : EntryName) (ms : Mentions Span) (i : ℕ) where
  pub names_are_left_after_next_mention : (m d : Mention Span) → i < length ms → m ≡ get_or ms i d
      → LeavesNames old now (gathered adds owner (drop i ms)) all → NotesNames now next (adds owner m)
      → LeavesNames old next (gathered adds (owner_after owner m) (drop (i + 1) ms)) all
  names_are_left_after_next_mention m d within is left notes = λ rest name.
      let cut = drop_one_node ms i m d within is in
      notes (gathered adds (owner_after owner m) (drop (i + 1) ms) rest) name
      ∙ ap (λ l. has_name now name || list_any (bytes_eq name) (gathered adds owner l rest)) (sym cut)
      ∙ left rest name

  pub names_at_last_mention_are_all : length ms ≤ i → LeavesNames old now (gathered adds owner (drop i ms)) all
      → NotesNames old now all
  names_at_last_mention_are_all end left = λ rest name.
      ap (λ l. has_name now name || list_any (bytes_eq name) (gathered adds owner l rest)) (sym (drop_all i ms end))
      ∙ left rest name

-- ---- The files

pub bool_equals_itself_or_false : (b : Bool) → b ≡ (b || false)
bool_equals_itself_or_false true = refl
bool_equals_itself_or_false false = refl

-- what is noted, where nothing was before
pub noted_names_are_all : (old new : Lookup) → ((name : Text) → old name ≡ None) → (all : List Text → List Text)
    → NotesNames old new all → (name : Text) → has_name new name ≡ list_any (bytes_eq name) (all [])
noted_names_are_all old new none all notes = λ name.
    bool_equals_itself_or_false (has_name new name) ∙ notes [] name
    ∙ ap (λ o. is_some o || list_any (bytes_eq name) (all [])) (none name)

module _ (files : List NameIndex) (now next : Lookup) (i : ℕ) where
  abbrev pub left_of_files : Lookup → ℕ → Type 0
  left_of_files known n = (name : Text) →
      (has_name known name || list_any (bytes_eq name) (defined_by (drop n files))) ≡ is_defined files name

  pub no_file_is_gathered_at_start : ((name : Text) → now name ≡ None) → left_of_files now 0
  no_file_is_gathered_at_start none = λ name. ap (λ o. is_some o || is_defined files name) (none name)

  pub next_file_is_gathered : (file : NameIndex) → i < length files → file ≡ get_or files i file → left_of_files now i
      → NotesNames now next (defined_in file.text.now nameless file.mentions.items) → left_of_files next (i + 1)
  next_file_is_gathered file within is left notes = λ name.
      let cut = drop_one_node files i file file within is in
      notes (defined_by (drop (i + 1) files)) name
      ∙ ap (λ l. has_name now name || list_any (bytes_eq name) (defined_by l)) (sym cut)
      ∙ left name

  pub gathered_files_define_their_names : length files ≤ i → left_of_files now i → (name : Text)
      → has_name now name ≡ is_defined files name
  gathered_files_define_their_names end left = λ name.
      bool_equals_itself_or_false (has_name now name)
      ∙ ap (λ l. has_name now name || list_any (bytes_eq name) (defined_by l)) (sym (drop_all i files end))
      ∙ left name
