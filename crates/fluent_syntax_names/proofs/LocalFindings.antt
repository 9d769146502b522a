-- What is found of a file by itself doesn't depend on what other files may define.
use Rattle.std.proofs.Common.{◌≡◌, ℕ, Bool, true, false, List, [], ◌∷◌, refl, sym, ap, ◌∙◌}
use Rattle.std.proofs.Common.{Option, Some, None}
use Rattle.std.specs.Prelude.{filter, cond, if◌then◌else◌}
use Rattle.fluent_syntax_tree.specs.declared.spans.Span.{Span}
use Rattle.fluent_syntax_names.specs.Mentions.{Mentions}
use Rattle.fluent_syntax_names.specs.PluralCategories.{Words}
use Rattle.fluent_syntax_names.specs.declared.mention.Mention.{Mention}
use Rattle.fluent_syntax_names.specs.declared.mention.Mention.TheVariants as says
use Rattle.fluent_syntax_names.specs.declared.name_index.NameIndex.{NameIndex}
use Rattle.fluent_syntax_names.specs.declared.qualified_names.EntryName.{EntryName}
use Rattle.fluent_syntax_names.specs.declared.qualified_names.PatternName.{PatternName}
use Rattle.fluent_syntax_names.specs.declared.finding.Finding.{Finding}
use Rattle.fluent_syntax_names.specs.declared.finding.Kind.{Kind}
use Rattle.fluent_syntax_names.specs.declared.finding.Kind.TheVariants as kind
use Rattle.fluent_syntax_names.specs.Cycles.{Link, links_in, links, pattern_after, referenced_pattern, no_pattern}
use Rattle.fluent_syntax_names.specs.Findings.{Known, Set, put, finding_of, findings_in, findings_from, after, nothing}
use Rattle.fluent_syntax_names.specs.Findings.{twice, unchosen_findings}
use Rattle.fluent_syntax_names.specs.Findings.{cycle, undefined_entry, undefined_reference, finding_at}
use Rattle.fluent_syntax_names.specs.Severities.{is_local}
use Rattle.fluent_syntax_names.specs.QualifiedNames.{Text, message_name, term_name, qualified_name, qualified_attribute}
use Rattle.fluent_syntax_names.specs.QualifiedNames.{qualified_value}
use Rattle.fluent_syntax_names.proofs.Growing.{SameOn, cycle_finding_depends_on_cycles}

abbrev pub own : List Finding → List Finding
own list = filter (λ f. is_local f.kind) list

putting_finding_keeps_own : (o : Option Finding) (l l' : List Finding) → own l ≡ own l' → own (put o l) ≡ own (put o l')
putting_finding_keeps_own None l l' same = same
putting_finding_keeps_own (Some f) l l' same = ap (λ left. cond (is_local f.kind) (f ∷ left) left) same

-- ---- What is missing is left out

module _ (file : ℕ) (text : Text) where
  either_finding_is_not_own : (b : Bool) (o p : Option Finding) (l : List Finding) → own (put o l) ≡ own l
      → own (put p l) ≡ own l → own (put (if b then o else p) l) ≡ own l
  either_finding_is_not_own true o p l first second = first
  either_finding_is_not_own false o p l first second = second

  undefined_reference_is_not_own : (D : Text → Bool) (entry : EntryName) (a : Option Span) (l : List Finding)
      → own (put (undefined_reference D file text entry a) l) ≡ own l
  undefined_reference_is_not_own D entry None l =
      let missing = Some (finding_at kind.UndefinedValue file entry.name None) in
      let value = if D (qualified_value text entry) then None else missing in
      either_finding_is_not_own entry.is_term None value l refl
      (either_finding_is_not_own (D (qualified_value text entry)) None missing l refl refl)
  undefined_reference_is_not_own D entry (Some a) l =
      let missing = Some (finding_at kind.UndefinedAttribute file a None) in
      either_finding_is_not_own (D (qualified_attribute text entry a)) None missing l refl refl

  undefined_entry_is_not_own : (D : Text → Bool) (k : Kind) (entry : EntryName) (a : Option Span) (l : List Finding)
      → is_local k ≡ false → own (put (undefined_entry D file text k entry a) l) ≡ own l
  undefined_entry_is_not_own D k entry a l out =
      let missing = Some (finding_at k file entry.name None) in
      either_finding_is_not_own (D (qualified_name text entry)) (undefined_reference D file text entry a) missing l
      (undefined_reference_is_not_own D entry a l)
      (ap (λ b. cond b (finding_at k file entry.name None ∷ own l) (own l)) out)

  own_finding_ignores_definitions : (D E : Text → Bool) (known : Known) (m : Mention Span) (l l' : List Finding)
      → own l ≡ own l' → own (put (finding_of D file text known m) l) ≡ own (put (finding_of E file text known m) l')
  own_finding_ignores_definitions D E known (says.Message x v) l l' same =
      putting_finding_keeps_own
      (twice kind.DefinedTwice file x (known.names (qualified_name text (message_name x)))) l l' same
  own_finding_ignores_definitions D E known (says.Term x) l l' same =
      putting_finding_keeps_own
      (twice kind.DefinedTwice file x (known.names (qualified_name text (term_name x)))) l l' same
  own_finding_ignores_definitions D E known (says.Attribute x) l l' same =
      putting_finding_keeps_own (finding_of D file text known (says.Attribute x)) l l' same
  own_finding_ignores_definitions D E known (says.Junk x) l l' same = same
  own_finding_ignores_definitions D E known (says.MessageReference x a) l l' same =
      undefined_entry_is_not_own D kind.UndefinedMessage (message_name x) a l refl
      ∙ same ∙ sym (undefined_entry_is_not_own E kind.UndefinedMessage (message_name x) a l' refl)
  own_finding_ignores_definitions D E known (says.TermReference x a) l l' same =
      undefined_entry_is_not_own D kind.UndefinedTerm (term_name x) a l refl
      ∙ same ∙ sym (undefined_entry_is_not_own E kind.UndefinedTerm (term_name x) a l' refl)
  own_finding_ignores_definitions D E known (says.Variable x) l l' same = same
  own_finding_ignores_definitions D E known (says.Function x) l l' same = same
  own_finding_ignores_definitions D E known (says.VariantKey x first) l l' same =
      putting_finding_keeps_own (finding_of D file text known (says.VariantKey x first)) l l' same

-- ---- So what the sets define may differ

module _ (A B : Set) where
  own_findings_in_file_ignore_definitions : (file : ℕ) (text : Text) (known : Known) (pattern : PatternName)
      (ms : Mentions Span) (others : List Link) → SameOn A B (links_in text pattern ms others) → (tail : List Finding)
      → own (findings_in A file text known pattern ms tail) ≡ own (findings_in B file text known pattern ms tail)
  own_findings_in_file_ignore_definitions file text known pattern [] others same tail = refl
  own_findings_in_file_ignore_definitions file text known pattern (m ∷ ms) others same tail =
      let rest = links_in text (pattern_after pattern m) ms others in
      let here = cycle_finding_depends_on_cycles A B file text pattern (referenced_pattern m) rest same in
      let left = λ (S : Set). findings_in S file text (after text known m) (pattern_after pattern m) ms tail in
      let beyond = own_findings_in_file_ignore_definitions file text (after text known m)
      (pattern_after pattern m) ms others here.1 tail in
      let comes = cycle A.is_cyclic file text pattern m in
      own_finding_ignores_definitions file text A.defines B.defines known m (put comes (left A)) (put comes (left B))
      (putting_finding_keeps_own comes (left A) (left B) beyond)
      ∙ ap (λ o. own (put (finding_of B.defines file text known m) (put o (left B)))) here.0

  pub own_findings_depend_on_own_links : (words : Option Words) (file : NameIndex) → SameOn A B (links (file ∷ []))
      → own (findings_from A words 0 (file ∷ []) []) ≡ own (findings_from B words 0 (file ∷ []) [])
  own_findings_depend_on_own_links words file same =
      own_findings_in_file_ignore_definitions 0 file.text.now nothing no_pattern file.mentions.items [] same
      (unchosen_findings words 0 file [])
