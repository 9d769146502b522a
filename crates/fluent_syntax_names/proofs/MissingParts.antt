-- Lists of what is lacked, that grow by one mention after another.
use Rattle.std.proofs.Common.{◌≡◌, ℕ, ◌+◌, ◌<◌, ◌≤◌, Bool, true, false, List, []}
use Rattle.std.proofs.Common.{◌∷◌, ◌++◌, length, get_or, drop, refl, sym, ap, ◌∙◌}
use Rattle.std.proofs.Common.{Option, Some, None}
use Rattle.std.specs.Borrow.{Bor}
use Rattle.std.specs.Prelude.{if◌then◌else◌, not, ◌||◌}
use Rattle.std.specs.List.{list_any}
use Rattle.std.proofs.lemmas.List.{append-nil, at_drop_more, drop_all}
use Rattle.fluent_syntax_tree.specs.declared.spans.Span.{Span}
use Rattle.fluent_syntax_names.specs.declared.missing_part.MissingPart.{MissingPart}
use Rattle.fluent_syntax_names.specs.declared.missing_part.Part.{Part}
use Rattle.fluent_syntax_names.specs.declared.missing_part.Part.TheVariants as part
use Rattle.fluent_syntax_names.specs.declared.mention.Mention.{Mention}
use Rattle.fluent_syntax_names.specs.declared.mention.Mention.TheVariants as says
use Rattle.fluent_syntax_names.specs.declared.qualified_names.EntryName.{EntryName}
use Rattle.fluent_syntax_names.specs.Findings.{put, owner_after}
use Rattle.fluent_syntax_names.specs.QualifiedNames.{Text, message_name, term_name}
use Rattle.fluent_syntax_names.specs.Growing.{Adds, Leaves}
use Rattle.fluent_syntax_names.proofs.Adding.{drop_one_node, rest_is_left_after_one, nothing_left_means_all_added}
use Rattle.fluent_syntax_names.specs.MissingParts.{Other, missing_part_at, missing_entry, missing_value}
use Rattle.fluent_syntax_names.specs.MissingParts.{missing_attribute, missing_part}
use Rattle.fluent_syntax_names.specs.MissingParts.{missing_reference, missing_variable, missing_part_of}
use Rattle.fluent_syntax_names.specs.MissingParts.{missing_parts_in}
use Rattle.fluent_syntax_names.specs.MissingParts.{may_use, some_may_use, one_may_use}
use Rattle.fluent_syntax_names.specs.MissingParts.{is_built_in, may_call, missing_first, missing_function}
use Rattle.fluent_syntax_names.specs.EntryPlaces.{is_first}
use Rattle.fluent_syntax_names.specs.Mentions.{Mentions}
use Rattle.fluent_syntax_names.specs.Rows.{texts_at}
use Rattle.fluent_syntax_names.specs.QualifiedNames.{qualified_name, qualified_attribute, qualified_value}
use Rattle.fluent_syntax_names.specs.QualifiedNames.{qualified_function, qualified_variable}
use Rattle.fluent_syntax_names.specs.QualifiedNames.{name_at, qualified_reference, variable_of}

-- ---- What is lacked depends on what the tables have alone

module _ (text : Text) (D E : Other) (defines : (name : Text) → D.defines name ≡ E.defines name)
    (uses : (name : Text) → D.uses name ≡ E.uses name) (reachable : (name : Text)
    → D.reachable name ≡ E.reachable name) (places : (name : Text) → D.place name ≡ E.place name)
    (own_places : (name : Text) → D.own_place name ≡ E.own_place name) where
  missing_part_of_is_same_for_equal_tables : (owner : EntryName) (p : Part) (x : Span)
      → missing_part_of D text owner p x ≡ missing_part_of E text owner p x
  missing_part_of_is_same_for_equal_tables owner p x =
      ap (λ place. Some (record { part = p; name = x; entry = owner.name; in_other = place }))
      (places (qualified_name text owner))

  missing_part_is_same_for_equal_tables : (owner : EntryName) (b c : Bool) → b ≡ c → (p : Part) (x : Span)
      → missing_part D text owner b p x ≡ missing_part E text owner c p x
  missing_part_is_same_for_equal_tables owner b c e p x =
      let name = qualified_name text owner in
      ap (λ d. if not d then None else if b then None else missing_part_of D text owner p x) (defines name)
      ∙ ap (λ t. if not (E.defines name) then None else if t then None else missing_part_of D text owner p x) e
      ∙ ap (λ o. if not (E.defines name) then None else if c then None else o)
      (missing_part_of_is_same_for_equal_tables owner p x)

  missing_value_is_same_for_equal_tables : (message : EntryName) (v : Bool)
      → missing_value D text message v ≡ missing_value E text message v
  missing_value_is_same_for_equal_tables message false = refl
  missing_value_is_same_for_equal_tables message true =
      missing_part_is_same_for_equal_tables message (D.defines (qualified_value text message))
      (E.defines (qualified_value text message))
      (defines (qualified_value text message)) part.Value message.name

  first_missing_is_same_in_equal_set : (entry : EntryName) → missing_first D text entry ≡ missing_first E text entry
  first_missing_is_same_in_equal_set entry =
      let name = qualified_name text entry in
      ap (λ p. if is_first p entry.name then missing_part_of D text entry part.Entry entry.name else None)
      (own_places name)
      ∙ ap (λ o. if is_first (E.own_place name) entry.name then o else None)
      (missing_part_of_is_same_for_equal_tables entry part.Entry entry.name)

  missing_entry_is_same_for_equal_tables : (entry : EntryName) (v : Bool)
      → missing_entry D text entry v ≡ missing_entry E text entry v
  missing_entry_is_same_for_equal_tables entry v =
      let name = qualified_name text entry in
      ap (λ d. if d then missing_value D text entry v else missing_first D text entry) (defines name)
      ∙ ap (λ o. if E.defines name then o else missing_first D text entry)
      (missing_value_is_same_for_equal_tables entry v)
      ∙ ap (λ o. if E.defines name then missing_value E text entry v else o) (first_missing_is_same_in_equal_set entry)

  missing_attribute_is_same_for_equal_tables : (owner : EntryName) (x : Span)
      → missing_attribute D text owner x ≡ missing_attribute E text owner x
  missing_attribute_is_same_for_equal_tables owner x =
      let name = qualified_attribute text owner x in
      ap (λ o. if owner.is_term then None else o)
      (missing_part_is_same_for_equal_tables owner (D.defines name) (E.defines name) (defines name) part.Attribute x)

  missing_reference_is_same_for_equal_tables : (owner target : EntryName)
      → missing_reference D text owner target ≡ missing_reference E text owner target
  missing_reference_is_same_for_equal_tables owner target =
      let name = qualified_reference text owner target in
      missing_part_is_same_for_equal_tables owner (D.uses name) (E.uses name) (uses name) part.Reference target.name

  one_may_use_is_same_for_equal_tables : (variable message : Text)
      → one_may_use D variable message ≡ one_may_use E variable message
  one_may_use_is_same_for_equal_tables variable message =
      ap (λ d. not d || D.uses (variable_of message variable)) (defines message)
      ∙ ap (λ u. not (E.defines message) || u) (uses (variable_of message variable))

  any_may_use_is_same_for_equal_tables : (variable : Text) (messages : List Text)
      → list_any (one_may_use D variable) messages ≡ list_any (one_may_use E variable) messages
  any_may_use_is_same_for_equal_tables variable [] = refl
  any_may_use_is_same_for_equal_tables variable (x ∷ xs) =
      ap (λ b. b || list_any (one_may_use D variable) xs) (one_may_use_is_same_for_equal_tables variable x)
      ∙ ap (λ b. one_may_use E variable x || b) (any_may_use_is_same_for_equal_tables variable xs)

  some_may_use_is_same_for_equal_tables : (variable : Text) (reachable : Option (List Text))
      → some_may_use D variable reachable ≡ some_may_use E variable reachable
  some_may_use_is_same_for_equal_tables variable None = refl
  some_may_use_is_same_for_equal_tables variable (Some messages) =
      any_may_use_is_same_for_equal_tables variable messages

  may_use_is_same_for_equal_tables : (owner : EntryName) (x : Span) → may_use D text owner x ≡ may_use E text owner x
  may_use_is_same_for_equal_tables owner x =
      let variable = name_at text x in
      ap (λ u. u || some_may_use D variable (D.reachable (qualified_name text owner)))
      (uses (qualified_variable text owner x))
      ∙ ap (λ l. E.uses (qualified_variable text owner x) || some_may_use D variable l)
      (reachable (qualified_name text owner))
      ∙ ap (λ b. E.uses (qualified_variable text owner x) || b)
      (some_may_use_is_same_for_equal_tables variable (E.reachable (qualified_name text owner)))

  missing_variable_is_same_for_equal_tables : (owner : EntryName) (x : Span)
      → missing_variable D text owner x ≡ missing_variable E text owner x
  missing_variable_is_same_for_equal_tables owner x =
      ap (λ o. if owner.is_term then None else o)
      (missing_part_is_same_for_equal_tables owner (may_use D text owner x) (may_use E text owner x)
      (may_use_is_same_for_equal_tables owner x) part.Variable x)

  missing_function_is_same_in_equal_set : (owner : EntryName) (x : Span) →
      missing_function D text owner x ≡ missing_function E text owner x
  missing_function_is_same_in_equal_set owner x =
      missing_part_is_same_for_equal_tables owner (may_call D text x) (may_call E text x)
      (ap (λ u. is_built_in (name_at text x) || u) (uses (qualified_function text x))) part.Function x

  missing_part_same : (owner : EntryName) (m : Mention Span)
      → missing_part_at D text owner m ≡ missing_part_at E text owner m
  missing_part_same owner (says.Message x v) = missing_entry_is_same_for_equal_tables (message_name x) v
  missing_part_same owner (says.Term x) = missing_entry_is_same_for_equal_tables (term_name x) false
  missing_part_same owner (says.Attribute x) = missing_attribute_is_same_for_equal_tables owner x
  missing_part_same owner (says.Junk x) = refl
  missing_part_same owner (says.MessageReference x a) =
      missing_reference_is_same_for_equal_tables owner (message_name x)
  missing_part_same owner (says.TermReference x a) = missing_reference_is_same_for_equal_tables owner (term_name x)
  missing_part_same owner (says.Variable x) = missing_variable_is_same_for_equal_tables owner x
  missing_part_same owner (says.Function x) = missing_function_is_same_in_equal_set owner x
  missing_part_same owner (says.VariantKey x first) = refl

  pub missing_parts_are_same_for_equal_tables : (owner : EntryName) (ms : Mentions Span) (tail : List MissingPart)
      → missing_parts_in D text owner ms tail ≡ missing_parts_in E text owner ms tail
  missing_parts_are_same_for_equal_tables owner [] tail = refl
  missing_parts_are_same_for_equal_tables owner (m ∷ ms) tail =
      ap (λ o. put o (missing_parts_in D text (owner_after owner m) ms tail)) (missing_part_same owner m)
      ∙ ap (put (missing_part_at E text owner m))
      (missing_parts_are_same_for_equal_tables (owner_after owner m) ms tail)

-- ---- The mentions of a file

module _ (D : Other) (text : Text) (old now : List MissingPart) (all : List MissingPart → List MissingPart)
    (owner : EntryName)
    (ms : Mentions Span) (i : ℕ) where
  pub missing_parts_are_left_after_next_mention : (next : List MissingPart) (m d : Mention Span)
      (missing : Option MissingPart) → i < length ms → m ≡ get_or ms i d
      → missing ≡ missing_part_at D text owner m → Leaves old now (missing_parts_in D text owner (drop i ms)) all
      → Adds now next (put missing)
      → Leaves old next (missing_parts_in D text (owner_after owner m) (drop (i + 1) ms)) all
  missing_parts_are_left_after_next_mention next m d missing within is made =
      let others = missing_parts_in D text (owner_after owner m) (drop (i + 1) ms) in
      rest_is_left_after_one old now next (missing_parts_in D text owner (drop i ms)) (put missing) others all
      (λ tail. ap (λ l. missing_parts_in D text owner l tail) (drop_one_node ms i m d within is)
      ∙ ap (λ o. put o (others tail)) (sym made))

  pub missing_parts_at_last_mention_are_all : length ms ≤ i
      → Leaves old now (missing_parts_in D text owner (drop i ms)) all → now ≡ old ++ all []
  missing_parts_at_last_mention_are_all end left =
      sym (append-nil now)
      ∙ nothing_left_means_all_added old now (missing_parts_in D text owner (drop i ms)) all
      (λ tail. ap (λ l. missing_parts_in D text owner l tail) (drop_all i ms end)) left []

-- ---- The messages that an entry leads to

abbrev no_text : Bor Text
no_text = record { ref_ptr = (0, 0); now = [] }

-- what holds of one from an index on holds of the next message or of one after it
pub next_or_later_passes : (test : Text → Bool) (messages : List (Bor Text)) (i : ℕ) → i < length messages → (b : Bool)
    → test (get_or messages i no_text).now ≡ b
    → (b || list_any test (texts_at (drop (i + 1) messages))) ≡ list_any test (texts_at (drop i messages))
next_or_later_passes test messages i within b is =
    let some = λ (l : List (Bor Text)). list_any test (texts_at l) in
    sym (ap (λ c. c || some (drop (i + 1) messages)) is) ∙ sym (at_drop_more some messages i no_text within)
