-- A table of references that grows by one name or one reference after another.
use Rattle.std.proofs.Common.{◌≡◌, inl, inr, ℕ, ◌+◌, ◌<◌, ◌≤◌, Bool, true, false, List, [], ◌∷◌, ◌++◌, length}
use Rattle.std.proofs.Common.{get_or, set, map, drop, Vec, Option, Some, None, refl, sym, ap, ◌∙◌, subst, arith}
use Rattle.std.specs.Prelude.{filter, cond, if◌then◌else◌}
use Rattle.std.specs.Borrow.{Bor}
use Rattle.std.specs.Str.{bytes_eq}
use Rattle.std.specs.declared.alloc.Global.{Global}
use Rattle.std.proofs.lemmas.Bool.{cases_eq}
use Rattle.std.proofs.lemmas.List.{append-nil, map-append, map-set, map_push}
use Rattle.std.proofs.lemmas.List.{get_or_append_left, get_or_push, length_push}
use Rattle.std.proofs.lemmas.List.{get_or-map, length-map, get_or-set_same, get_or-set_other, length-set}
use Rattle.std.proofs.lemmas.List.{drop_all}
use Rattle.std.proofs.lemmas.List.Elements.{filter-append}
use Rattle.std.proofs.lemmas.Slice.Eq.{bytes_eq-Decides}
use Rattle.fluent_syntax_tree.specs.declared.spans.Span.{Span}
use Rattle.fluent_syntax_names.proofs.Adding.{drop_one_node}
use Rattle.fluent_syntax_names.specs.Cycles.{Link}
use Rattle.fluent_syntax_names.specs.Findings.{owner_after}
use Rattle.fluent_syntax_names.specs.MessageReferences.{followed_limit, refers, references_in, messages_of}
use Rattle.fluent_syntax_names.specs.Mentions.{Mentions}
use Rattle.fluent_syntax_names.specs.NamedLists.{AddsItem, AddsName, IsNew, Numbering, Within, lists_of, numbers_of}
use Rattle.fluent_syntax_names.specs.FirstPlaces.{first_of, place_of, place_where}
use Rattle.fluent_syntax_names.specs.Rows.{Rows, row_at, rows_of, texts_at, texts_of, HasReferences}
use Rattle.fluent_syntax_names.specs.Rows.{IsMessageReferences, AddsReferences}
use Rattle.fluent_syntax_names.specs.QualifiedNames.{Text, nameless}
use Rattle.fluent_syntax_names.specs.declared.message_references.MessageReferences.{MessageReferences}
use Rattle.fluent_syntax_names.specs.declared.mention.Mention.{Mention}
use Rattle.fluent_syntax_names.specs.declared.named_lists.NamedLists.{NamedLists}
use Rattle.fluent_syntax_names.specs.declared.first_places.FirstPlaces.{FirstPlaces}
use Rattle.fluent_syntax_names.specs.declared.qualified_names.EntryName.{EntryName}
use Rattle.fluent_syntax_names.proofs.Listed.{length-items, list_at_index_has_its_items}
use Rattle.fluent_syntax_names.proofs.Numbered.{numbering_with_new_is_injective, empty_numbering_is_injective}
use Rattle.fluent_syntax_names.proofs.Numbered.{empty_numbering_is_within_zero, numbering_with_new_is_within_one_more}

-- before any name
pub HasReferences-none : (number : Numbering) → ((x : Text) → number x ≡ None) → HasReferences [] number []
HasReferences-none number none = record {
  within = empty_numbering_is_within_zero number none;
  apart = empty_numbering_is_injective number none;
  has_messages = λ x. ap (row_at []) (none x);
}

-- ---- A new name

abbrev Lists : Type 0
Lists = NamedLists (Vec ℕ Global)

module _ (all : List Link) (old new : Lists) (name : Text) (last : ℕ) (is : IsNew old new name last)
    (adds_references : HasReferences all (numbers_of old) (rows_of old)) where
  abbrev rows : Rows
  rows = rows_of old

  abbrev more : Rows
  more = rows ++ [] ∷ []

  last_is_number_of_rows : last ≡ length rows
  last_is_number_of_rows = is.last ∙ sym (length-map (lists_of old) texts_of)

  -- the row of the new name is empty
  row_of_new_name_is_empty : (b : Bool) → row_at more (if b then Some last else None) ≡ []
  row_of_new_name_is_empty true = get_or_push rows [] [] last (sym last_is_number_of_rows)
  row_of_new_name_is_empty false = refl

  row_of_old_name_stays : (x : Text) (o : Option ℕ) → numbers_of old x ≡ o
      → row_at more (first_of o (place_where x name last)) ≡ row_at rows o
  row_of_old_name_stays x None was = row_of_new_name_is_empty (bytes_eq x name)
  row_of_old_name_stays x (Some u) was = get_or_append_left rows ([] ∷ []) [] u (adds_references.within x u was)

  rows_with_new_name_have_references : HasReferences all (numbers_of new) more
  rows_with_new_name_have_references = record {
    within = subst (Within (numbers_of new)) (sym (length_push rows []))
        (numbering_with_new_is_within_one_more (numbers_of old) (numbers_of new) name last is.absent is.notes
        (length rows) last_is_number_of_rows adds_references.within);
    apart = numbering_with_new_is_injective (numbers_of old) (numbers_of new) name last is.absent is.notes
        (length rows) last_is_number_of_rows adds_references.within adds_references.apart;
    has_messages = λ x. ap (row_at more) (is.notes x) ∙ row_of_old_name_stays x (numbers_of old x) refl
        ∙ adds_references.has_messages x;
  }

pub HasReferences-name : (all : List Link) (old new : Lists) (name : Text) (number : ℕ) → AddsName old new name number
    → HasReferences all (numbers_of old) (rows_of old) → HasReferences all (numbers_of new) (rows_of new)
HasReferences-name all old new name number adds adds_references = elim adds.adds [
  | inl same ↦ subst (λ (n : Lists). HasReferences all (numbers_of n) (rows_of n)) (sym same) adds_references
  | inr is ↦
      subst (λ (r : Rows). HasReferences all (numbers_of new) r)
      (sym (ap (map texts_of) is.longer ∙ map_push texts_of (lists_of old) []))
      (rows_with_new_name_have_references all old new name number is adds_references)
]

-- ---- A new reference

module _ (before : List Link) (number : Numbering) (rows : Rows) (adds_references : HasReferences before number rows)
    (link : Link)
    (u : ℕ) (from : number link.from ≡ Some u) where
  abbrev longer : List Text
  longer = get_or rows u [] ++ link.to ∷ []

  abbrev reference_rows : Rows
  reference_rows = set rows u longer

  abbrev with_link : List Link
  with_link = before ++ link ∷ []

  -- what the link adds for a name
  abbrev added : Bool → List Text
  added b = cond b (link.to ∷ []) []

  targets_of_one_link_are_added : (b : Bool) → map (λ (l : Link). l.to) (cond b (link ∷ []) []) ≡ added b
  targets_of_one_link_are_added true = refl
  targets_of_one_link_are_added false = refl

  messages_with_link_add_its_target : (x : Text)
      → messages_of with_link x ≡ messages_of before x ++ added (bytes_eq x link.from)
  messages_with_link_add_its_target x =
      let test = λ (l : Link). bytes_eq x l.from in
      ap (map (λ (l : Link). l.to)) (filter-append test before (link ∷ []))
      ∙ map-append (λ (l : Link). l.to) (filter test before) (filter test (link ∷ []))
      ∙ ap (λ l. messages_of before x ++ l) (targets_of_one_link_are_added (bytes_eq x link.from))

  -- another name has what it had
  row_of_other_name_has_its_messages : (x : Text) → bytes_eq x link.from ≡ false
      → row_at rows (number x) ≡ messages_of with_link x
  row_of_other_name_has_its_messages x apart =
      adds_references.has_messages x
      ∙ sym (append-nil (messages_of before x))
      ∙ ap (λ b. messages_of before x ++ added b) (sym apart)
      ∙ sym (messages_with_link_add_its_target x)

  row_by_number_is_its_messages : (x : Text) (o : Option ℕ) → number x ≡ o → (b : Bool) → bytes_eq x link.from ≡ b
      → row_at reference_rows o ≡ messages_of with_link x
  row_by_number_is_its_messages x None is true same =
      let never : None ≡ Some u = sym is ∙ ap number ((bytes_eq-Decides x link.from).0 same) ∙ from in absurd (cc)
  row_by_number_is_its_messages x None is false apart =
      ap (row_at rows) (sym is) ∙ row_of_other_name_has_its_messages x apart
  row_by_number_is_its_messages x (Some v) is true same =
      let e : x ≡ link.from = (bytes_eq-Decides x link.from).0 same in
      let at : Some v ≡ Some u = sym is ∙ ap number e ∙ from in
      let v_is : v ≡ u = cc in
      ap (λ w. get_or reference_rows w []) v_is
      ∙ get_or-set_same rows u longer [] (adds_references.within link.from u from)
      ∙ ap (λ l. l ++ link.to ∷ []) (ap (row_at rows) (sym from) ∙ adds_references.has_messages link.from)
      ∙ ap (λ n. messages_of before n ++ link.to ∷ []) (sym e)
      ∙ ap (λ b. messages_of before x ++ added b) (sym same)
      ∙ sym (messages_with_link_add_its_target x)
  row_by_number_is_its_messages x (Some v) is false apart = elim (cases_eq v u) [
    | inl e ↦
        let there : x ≡ link.from = adds_references.apart x link.from u (is ∙ ap Some e) from in
        let never : true ≡ false = sym ((bytes_eq-Decides x link.from).1 there) ∙ apart in absurd (cc)
    | inr n ↦
        get_or-set_other rows u v longer [] n ∙ ap (row_at rows) (sym is) ∙ row_of_other_name_has_its_messages x apart
  ]

  rows_with_link_have_references : HasReferences with_link number reference_rows
  rows_with_link_have_references = record {
    within = λ x w e. omega (arith, adds_references.within x w e, length-set rows u longer);
    apart = adds_references.apart;
    has_messages = λ x. row_by_number_is_its_messages x (number x) refl (bytes_eq x link.from) refl;
  }

pub number_is_within_rows : (all : List Link) (names : Lists) → HasReferences all (numbers_of names) (rows_of names)
    → (x : Text) (u : ℕ) → numbers_of names x ≡ Some u → u < length (lists_of names)
number_is_within_rows all names adds_references x u e =
    omega (arith, adds_references.within x u e, length-map (lists_of names) texts_of)

pub HasReferences-link : (before : List Link) (old new : Lists) → HasReferences before (numbers_of old) (rows_of old)
    → (link : Link) (u : ℕ) → numbers_of old link.from ≡ Some u → (to : Vec ℕ Global) → to.items ≡ link.to
    → AddsItem old new u to → HasReferences (before ++ link ∷ []) (numbers_of new) (rows_of new)
HasReferences-link before old new adds_references link u from to is adds =
    let lists = lists_of old in
    let list = get_or lists u [] in
    let rows = rows_of old in
    let row : texts_of list ≡ get_or rows u [] =
    sym (get_or-map texts_of lists u [] [] (number_is_within_rows before old adds_references link.from u from)) in
    let longer : rows_of new ≡ set rows u (get_or rows u [] ++ link.to ∷ []) =
    ap (map texts_of) adds.longer
    ∙ map-set texts_of lists u (list ++ to ∷ [])
    ∙ ap (set rows u) (map_push (λ (v : Vec ℕ Global). v.items) list to
    ∙ ap (λ (x : Text). texts_of list ++ x ∷ []) is
    ∙ ap (λ (l : List Text). l ++ link.to ∷ []) row) in
    subst (λ (n : FirstPlaces ℕ). HasReferences (before ++ link ∷ []) (place_of n.table) (rows_of new)) (sym adds.same)
    (subst (λ (r : Rows). HasReferences (before ++ link ∷ []) (numbers_of old) r) (sym longer)
    (rows_with_link_have_references before (numbers_of old) rows adds_references link u from))

-- a row, as it is read
pub row_is_its_texts : (names : Lists) (u : ℕ) (row : Vec (Vec ℕ Global) Global) → u < length names.lists.items
    → row ≡ get_or names.lists.items u row → get_or (rows_of names) u [] ≡ texts_of row.items
row_is_its_texts names u row within is =
    let lists = names.lists.items in
    get_or-map texts_of (lists_of names) u [] [] (omega (arith, within, length-items lists))
    ∙ ap texts_of (list_at_index_has_its_items lists u row within is)

-- ---- Messages that are followed

pub length-texts_at : (names : List (Bor Text)) → length (texts_at names) ≡ length names
length-texts_at names = length-map names (λ (b : Bor Text). b.now)

pub length-texts_of : (names : List (Vec ℕ Global)) → length (texts_of names) ≡ length names
length-texts_of names = length-map names (λ (v : Vec ℕ Global). v.items)

-- with those of a row there are so many
pub lengths_add_up : (names : List (Bor Text)) (more : List (Vec ℕ Global)) (row : List Text) → texts_of more ≡ row
    → length names + length more ≡ length (texts_at names) + length row
lengths_add_up names more row is = omega (arith, length-texts_at names, length-texts_of more, ap length is)

-- the message at an index is one of few
pub record IsRead (names : List (Bor Text)) (i : ℕ) (x : Text) : Type 0 where
  pub few : length (texts_at names) ≤ followed_limit
  pub within : i < length (texts_at names)
  pub is : x ≡ get_or (texts_at names) i []

pub name_is_read : (names : List (Bor Text)) (i : ℕ) (name : Bor Text) → length names ≤ followed_limit
    → i < length names → name ≡ get_or names i name → IsRead names i name.now
name_is_read names i name few within is = record {
  few = omega (arith, few, length-texts_at names);
  within = omega (arith, within, length-texts_at names);
  is = ap (λ (b : Bor Text). b.now) is ∙ sym (get_or-map (λ (b : Bor Text). b.now) names i name [] within);
}

-- ---- The mentions of a file

module _ (text : Text) (now : MessageReferences) (ms : Mentions Span) (i : ℕ) where
  abbrev pub LeavesReferences : MessageReferences → EntryName → ℕ → Type 0
  LeavesReferences message_references owner n = (list : List Link) × IsMessageReferences list message_references
      × (list ++ references_in text owner (drop n ms) [] ≡ references_in text nameless ms [])

  pub references_are_left_after_next_mention : (next : MessageReferences) (owner : EntryName) (m d : Mention Span)
      → i < length ms → m ≡ get_or ms i d
      → LeavesReferences now owner i → AddsReferences now next (refers text owner m)
      → LeavesReferences next (owner_after owner m) (i + 1)
  references_are_left_after_next_mention next owner m d within is left adds_references =
      let cut = drop_one_node ms i m d within is in
      let second = adds_references left.0 left.1 in (
        second.0,
        second.1,
        second.2 (references_in text (owner_after owner m) (drop (i + 1) ms) [])
            ∙ ap (λ (l : Mentions Span). left.0 ++ references_in text owner l []) (sym cut)
            ∙ left.2,
      )

  pub references_at_last_mention_are_all : (owner : EntryName) → length ms ≤ i → LeavesReferences now owner i
      → IsMessageReferences (references_in text nameless ms []) now
  references_at_last_mention_are_all owner end left =
      let same : left.0 ≡ references_in text nameless ms [] =
      sym (append-nil left.0)
      ∙ ap (λ (l : Mentions Span). left.0 ++ references_in text owner l []) (sym (drop_all i ms end))
      ∙ left.2 in
      subst (λ (l : List Link). IsMessageReferences l now) same left.1
