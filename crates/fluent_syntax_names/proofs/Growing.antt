-- Lists of findings that grow by one mention after another.
use Rattle.std.proofs.Common.{◌≡◌, ℕ, ◌+◌, ◌<◌, ◌≤◌, Bool, true, List, [], ◌∷◌, length, get_or, drop, refl, sym}
use Rattle.std.proofs.Common.{ap, ◌∙◌, Option, Some, None}
use Rattle.std.specs.Prelude.{if◌then◌else◌}
use Rattle.std.proofs.lemmas.List.{drop_all}
use Rattle.fluent_syntax_tree.specs.declared.spans.Span.{Span}
use Rattle.fluent_syntax_names.specs.Mentions.{Mentions}
use Rattle.fluent_syntax_names.specs.PluralCategories.{Words}
use Rattle.fluent_syntax_names.specs.declared.mention.Mention.{Mention}
use Rattle.fluent_syntax_names.specs.declared.mention.Mention.TheVariants as says
use Rattle.fluent_syntax_names.specs.declared.name_index.NameIndex.{NameIndex}
use Rattle.fluent_syntax_names.specs.declared.qualified_names.EntryName.{EntryName}
use Rattle.fluent_syntax_names.specs.declared.qualified_names.PatternName.{PatternName}
use Rattle.fluent_syntax_names.proofs.Ways.{or_from_left, true_right_makes_or_true, link_is_link_between_its_ends}
use Rattle.fluent_syntax_names.specs.declared.finding.Finding.{Finding}
use Rattle.fluent_syntax_names.specs.declared.finding.Kind.{Kind}
use Rattle.fluent_syntax_names.specs.declared.finding.Kind.TheVariants as kind
use Rattle.fluent_syntax_names.specs.Findings.{Known, put, finding_of, findings_in, findings_from, after, nothing}
use Rattle.fluent_syntax_names.specs.Findings.{twice, Set, unchosen_findings}
use Rattle.fluent_syntax_names.specs.Findings.{cycle, cycle_to, undefined_entry, undefined_reference, finding_at}
use Rattle.fluent_syntax_names.specs.QualifiedNames.{Text, message_name, term_name, qualified_name, qualified_attribute}
use Rattle.fluent_syntax_names.specs.QualifiedNames.{qualified_value}
use Rattle.fluent_syntax_names.specs.Cycles.{Link, is_link, links_to, link_to, links_in, links, pattern_after}
use Rattle.fluent_syntax_names.specs.Cycles.{referenced_pattern}
use Rattle.fluent_syntax_names.specs.Cycles.{no_pattern}
use Rattle.fluent_syntax_names.specs.Tables.{Lookup, Holds}
use Rattle.fluent_syntax_names.specs.Growing.{Adds, Leaves}
use Rattle.fluent_syntax_names.proofs.Adding.{adding_twice_adds_both, drop_one_node, rest_is_left_after_one}
use Rattle.fluent_syntax_names.proofs.Adding.{nothing_left_means_all_added}

-- ---- What is found depends on what the tables hold alone

module _ (file : ℕ) (text : Text) where
  pub finding_of_held_tables_is_known : (D : Text → Bool) (names parts : Lookup) (known : Known)
      → Holds names parts known → (m : Mention Span)
      → finding_of D file text (record { names = names; parts = parts }) m ≡ finding_of D file text known m
  finding_of_held_tables_is_known D names parts known h (says.Message x v) = ap (twice kind.DefinedTwice file x) (h.0 _)
  finding_of_held_tables_is_known D names parts known h (says.Term x) = ap (twice kind.DefinedTwice file x) (h.0 _)
  finding_of_held_tables_is_known D names parts known h (says.Attribute x) =
      ap (twice kind.AttributeTwice file x) (h.1 _)
  finding_of_held_tables_is_known D names parts known h (says.Junk x) = refl
  finding_of_held_tables_is_known D names parts known h (says.MessageReference x a) = refl
  finding_of_held_tables_is_known D names parts known h (says.TermReference x a) = refl
  finding_of_held_tables_is_known D names parts known h (says.Variable x) = refl
  finding_of_held_tables_is_known D names parts known h (says.Function x) = refl
  finding_of_held_tables_is_known D names parts known h (says.VariantKey x first) =
      ap (twice kind.VariantTwice file x) (h.1 _)

  module _ (D E : Text → Bool) (same : (name : Text) → D name ≡ E name) where
    undefined_reference_depends_on_definitions : (entry : EntryName) (a : Option Span)
        → undefined_reference D file text entry a ≡ undefined_reference E file text entry a
    undefined_reference_depends_on_definitions entry None =
        ap (λ b. if entry.is_term then None
        else if b then None else Some (finding_at kind.UndefinedValue file entry.name None))
        (same (qualified_value text entry))
    undefined_reference_depends_on_definitions entry (Some a) =
        ap (λ b. if b then None else Some (finding_at kind.UndefinedAttribute file a None))
        (same (qualified_attribute text entry a))

    undefined_entry_depends_on_definitions : (k : Kind) (entry : EntryName) (a : Option Span)
        → undefined_entry D file text k entry a ≡ undefined_entry E file text k entry a
    undefined_entry_depends_on_definitions k entry a =
        ap (λ b. if b then undefined_reference D file text entry a else Some (finding_at k file entry.name None))
        (same (qualified_name text entry))
        ∙ ap (λ o. if E (qualified_name text entry) then o else Some (finding_at k file entry.name None))
        (undefined_reference_depends_on_definitions entry a)

    finding_depends_on_definitions : (known : Known) (m : Mention Span)
        → finding_of D file text known m ≡ finding_of E file text known m
    finding_depends_on_definitions known (says.Message x v) = refl
    finding_depends_on_definitions known (says.Term x) = refl
    finding_depends_on_definitions known (says.Attribute x) = refl
    finding_depends_on_definitions known (says.Junk x) = refl
    finding_depends_on_definitions known (says.MessageReference x a) =
        undefined_entry_depends_on_definitions kind.UndefinedMessage (message_name x) a
    finding_depends_on_definitions known (says.TermReference x a) =
        undefined_entry_depends_on_definitions kind.UndefinedTerm (term_name x) a
    finding_depends_on_definitions known (says.Variable x) = refl
    finding_depends_on_definitions known (says.Function x) = refl
    finding_depends_on_definitions known (says.VariantKey x first) = refl

module _ (A B : Set) where
  -- what is known of each reference agrees
  abbrev pub SameOn : List Link → Type 0
  SameOn [] = Unit {0}
  SameOn (link ∷ all) = (A.is_cyclic link.from link.to ≡ B.is_cyclic link.from link.to) × SameOn all

  -- what agrees for each link of a list
  pub equal_cycles_are_same_on_links : (all : List Link)
      → ((from to : Text) → links_to all from to ≡ true → A.is_cyclic from to ≡ B.is_cyclic from to) → SameOn all
  equal_cycles_are_same_on_links [] same = tt
  equal_cycles_are_same_on_links (link ∷ all) same = (
    same link.from link.to
        (or_from_left (is_link link.from link.to link) (links_to all link.from link.to)
        (link_is_link_between_its_ends link)),
    equal_cycles_are_same_on_links all
        (λ from to e. same from to (true_right_makes_or_true (is_link from to link) (links_to all from to) e)),
  )

  pub cycle_finding_depends_on_cycles : (file : ℕ) (text : Text) (pattern : PatternName) (target : Option PatternName)
      (others : List Link) → SameOn (link_to text pattern target others)
      → (cycle_to A.is_cyclic file text pattern target ≡ cycle_to B.is_cyclic file text pattern target)
      × SameOn others
  cycle_finding_depends_on_cycles file text pattern None others same = (refl, same)
  cycle_finding_depends_on_cycles file text pattern (Some target) others same = (
    ap (λ (b : Bool). if b then Some (finding_at kind.CyclicReference file target.entry.name None) else None) same.0,
    same.1,
  )

module _ (A B : Set) (defines : (name : Text) → A.defines name ≡ B.defines name) where
  findings_in_file_depend_on_cycles : (file : ℕ) (text : Text) (known : Known) (pattern : PatternName)
      (ms : Mentions Span)
      (others : List Link) → SameOn A B (links_in text pattern ms others) → (tail tail' : List Finding)
      → (SameOn A B others → tail ≡ tail')
      → findings_in A file text known pattern ms tail ≡ findings_in B file text known pattern ms tail'
  findings_in_file_depend_on_cycles file text known pattern [] others same tail tail' later = later same
  findings_in_file_depend_on_cycles file text known pattern (m ∷ ms) others same tail tail' later =
      let rest = links_in text (pattern_after pattern m) ms others in
      let here = cycle_finding_depends_on_cycles A B file text pattern (referenced_pattern m) rest same in
      let beyond =
      findings_in_file_depend_on_cycles file text (after text known m)
      (pattern_after pattern m) ms others here.1 tail tail' later in
      let left = findings_in A file text (after text known m) (pattern_after pattern m) ms tail in
      ap (λ o. put o (put (cycle A.is_cyclic file text pattern m) left))
      (finding_depends_on_definitions file text A.defines B.defines defines known m)
      ∙ ap (λ o. put (finding_of B.defines file text known m) (put o left)) here.0
      ∙ ap (λ l. put (finding_of B.defines file text known m) (put (cycle B.is_cyclic file text pattern m) l)) beyond

  pub findings_from_files_depend_on_cycles : (words : Option Words) (n : ℕ) (files : List NameIndex)
      → SameOn A B (links files) → (tail : List Finding)
      → findings_from A words n files tail ≡ findings_from B words n files tail
  findings_from_files_depend_on_cycles words n [] same tail = refl
  findings_from_files_depend_on_cycles words n (file ∷ files) same tail =
      findings_in_file_depend_on_cycles n file.text.now nothing no_pattern file.mentions.items (links files) same
      (unchosen_findings words n file (findings_from A words (n + 1) files tail))
      (unchosen_findings words n file (findings_from B words (n + 1) files tail))
      (λ later. ap (unchosen_findings words n file)
      (findings_from_files_depend_on_cycles words (n + 1) files later tail))

-- ---- The mentions of a file

module _ (A : Set) (file : ℕ) (text : Text) (old now : List Finding) (all : List Finding → List Finding)
    (ms : Mentions Span) (i : ℕ) where
  pub findings_are_left_after_next_mention : (between next : List Finding) (known : Known) (pattern : PatternName)
      (m d : Mention Span) (finding comes : Option Finding) → i < length ms → m ≡ get_or ms i d
      → finding ≡ finding_of A.defines file text known m → comes ≡ cycle A.is_cyclic file text pattern m
      → Leaves old now (findings_in A file text known pattern (drop i ms)) all
      → Adds now between (put finding) → Adds between next (put comes)
      → Leaves old next (findings_in A file text (after text known m) (pattern_after pattern m) (drop (i + 1) ms)) all
  findings_are_left_after_next_mention between next known pattern m d finding comes within is made made_too left adds
      adds_too =
      let others = findings_in A file text (after text known m) (pattern_after pattern m) (drop (i + 1) ms) in
      rest_is_left_after_one old now next (findings_in A file text known pattern (drop i ms))
      (λ tail. put finding (put comes tail))
      others all
      (λ tail. ap (λ l. findings_in A file text known pattern l tail) (drop_one_node ms i m d within is)
      ∙ ap (λ o. put o (put (cycle A.is_cyclic file text pattern m) (others tail))) (sym made)
      ∙ ap (λ o. put finding (put o (others tail))) (sym made_too))
      left (adding_twice_adds_both now between next (put finding) (put comes) adds adds_too)

  pub findings_at_last_mention_are_all : (known : Known) (pattern : PatternName) → length ms ≤ i
      → Leaves old now (findings_in A file text known pattern (drop i ms)) all → Adds old now all
  findings_at_last_mention_are_all known pattern end =
      nothing_left_means_all_added old now (findings_in A file text known pattern (drop i ms)) all
      (λ tail. ap (λ l. findings_in A file text known pattern l tail) (drop_all i ms end))

-- ---- The files

module _ (A : Set) (words : Option Words) (files : List NameIndex) (now between next : List Finding) (i : ℕ) where
  pub findings_are_left_after_next_file : (file : NameIndex) → i < length files → file ≡ get_or files i file
      → Leaves [] now (findings_from A words i (drop i files)) (findings_from A words 0 files)
      → Adds now between (findings_in A i file.text.now nothing no_pattern file.mentions.items)
      → Adds between next (unchosen_findings words i file)
      → Leaves [] next (findings_from A words (i + 1) (drop (i + 1) files)) (findings_from A words 0 files)
  findings_are_left_after_next_file file within is left adds adds_too =
      let found = findings_in A i file.text.now nothing no_pattern file.mentions.items in
      rest_is_left_after_one [] now next (findings_from A words i (drop i files))
      (λ tail. found (unchosen_findings words i file tail)) (findings_from A words (i + 1) (drop (i + 1) files))
      (findings_from A words 0 files)
      (λ tail. ap (λ l. findings_from A words i l tail) (drop_one_node files i file file within is))
      left (adding_twice_adds_both now between next found (unchosen_findings words i file) adds adds_too)

  pub findings_after_last_file_are_all : length files ≤ i
      → Leaves [] now (findings_from A words i (drop i files)) (findings_from A words 0 files)
      → Adds [] now (findings_from A words 0 files)
  findings_after_last_file_are_all end =
      nothing_left_means_all_added [] now (findings_from A words i (drop i files)) (findings_from A words 0 files)
      (λ tail. ap (λ l. findings_from A words i l tail) (drop_all i files end))
