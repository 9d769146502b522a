-- Entries are sound: one that is read passes over a byte at least, and a refusal's failing place is not before the
-- entry.
use Rattle.std.proofs.Common.{◌≡◌, ℕ, ◌+◌, ◌<◌, ◌≤◌, List, [], ◌∷◌, length, Option, Some, None, true, refl, sym, ◌∙◌}
use Rattle.std.proofs.Common.{subst, arith, inl, inr}
use Rattle.std.specs.Prelude.{slice_get, ◌⊎◌}
use Rattle.fluent_syntax_tree.specs.Kind.{Kind, ExpectedMessageField, ExpectedTermField}
use Rattle.fluent_syntax_tree.specs.Tree.{PatternTree}
use Rattle.fluent_syntax_tree.specs.Entry.{AttributeTree, EntryTree}
use Rattle.fluent_syntax_tree.specs.Every.{pattern_every, option_every, list_every, attribute_every, entry_every}
use Rattle.fluent_syntax_grammar.specs.Bytes.{is_letter, is_name_byte}
use Rattle.fluent_syntax_grammar.specs.Places.{ByteRun, has, has_byte}
use Rattle.fluent_syntax_grammar.specs.Construct.{Read, Refused, Construct, ◌>>=◌, ◌>>◌, stops, goes_on, yields, given}
use Rattle.fluent_syntax_grammar.specs.Construct.{at_place, passed, chosen, first, second}
use Rattle.fluent_syntax_grammar.specs.Tokens.{token, inline_blank, blank_block, identifier}
use Rattle.fluent_syntax_grammar.specs.Grammar.{pattern, family}
use Rattle.fluent_syntax_grammar.specs.Entries.{attribute_with, message_with, term_with, attribute, attributes, no_more}
use Rattle.fluent_syntax_grammar.specs.Entries.{one_more, message_entry, term_entry}
use Rattle.fluent_syntax_grammar.specs.Meaning.{kind_means}
use Rattle.fluent_syntax_grammar.specs.Tiling.{failing_place}
use Rattle.fluent_syntax_tree.specs.declared.edition.Edition.{Edition}
use Rattle.fluent_syntax_tree.specs.declared.spans.Span.{Span}
use Rattle.fluent_syntax_grammar.proofs.HoareTriple.{HoareTriple, holds_weaker, holds_bind, yields_meets_triple}
use Rattle.fluent_syntax_grammar.proofs.HoareTriple.{fails_meets_triple}
use Rattle.fluent_syntax_grammar.proofs.HoareTriple.{holds_fails_from, holds_skip, holds_peek, holds_branch_on}
use Rattle.fluent_syntax_grammar.proofs.Cuts.{AreBoundaries, byte_run_ends_at_boundary, name_set_is_ascii}
use Rattle.fluent_syntax_grammar.proofs.Cuts.{byte_below_128_is_ascii}
use Rattle.fluent_syntax_grammar.proofs.Sound.{IsSpan, IsPlain, Inside, Ended, IsFault, Sound, bind_is_sound}
use Rattle.fluent_syntax_grammar.proofs.Sound.{yields_is_sound}
use Rattle.fluent_syntax_grammar.proofs.Sound.{fails_is_sound, inline_blank_is_sound, blank_block_is_sound}
use Rattle.fluent_syntax_grammar.proofs.SoundWords.{token_is_sound, identifier_is_sound}
use Rattle.fluent_syntax_grammar.proofs.SoundLines as lines
use Rattle.fluent_syntax_grammar.proofs.SoundLines.{family_is_sound}
use Rattle.fluent_syntax_grammar.proofs.Facts.{absurd_test, tests_imply}
use Rattle.fluent_syntax_grammar.proofs.Tests.{letter_is_name_byte}

-- the fault of an entry that begins at i, whose failing place is not before s
pub record IsEntryFault (t : List ℕ) (i s : ℕ) (k : Kind) (from to : ℕ) : Type 0 where
  pub late : i ≤ from
  pub ordered : from ≤ failing_place k from to
  pub onward : s ≤ failing_place k from to
  pub in_text : failing_place k from to ≤ length t
  pub means : kind_means t k from

pub plain_kind_fails_at_its_start : (k : Kind) → IsPlain k → (from to : ℕ) → failing_place k from to ≡ from
plain_kind_fails_at_its_start (ExpectedMessageField id) p from to = absurd p
plain_kind_fails_at_its_start (ExpectedTermField id) p from to = absurd p
plain_kind_fails_at_its_start k p from to = refl

pub fault_is_entry_fault : (t : List ℕ) (i s : ℕ) → i ≤ s → (k : Kind) (from to : ℕ) → IsFault t s k from to →
    IsEntryFault t i s k from to
fault_is_entry_fault t i s l k from to f =
    let late = f.late in
    let inside = f.in_text in
    let e = plain_kind_fails_at_its_start k f.plain from to in
    record { late = omega arith; ordered = omega arith; onward = omega arith; in_text = omega arith; means = f.means }

pub entry_fault_is_fault_from_earlier : (t : List ℕ) (i s s' : ℕ) → s' ≤ s → (k : Kind) (from to : ℕ) →
    IsEntryFault t i s k from to →
    IsEntryFault t i s' k from to
entry_fault_is_fault_from_earlier t i s s' l k from to f = let o = f.onward in
    record { late = f.late; ordered = f.ordered; onward = omega arith; in_text = f.in_text; means = f.means }

-- sound from s on, in an entry that begins at i
pub record SoundEntry {A : Type 0} (t : List ℕ) (P : ℕ → Type 0) (i s : ℕ) (c : Construct A) (Good : A → Type 0) :
    Type 0 where
  pub holds : HoareTriple (Inside P s) c (Ended P s Good) (IsEntryFault t i s)

module _ {t : List ℕ} {P : ℕ → Type 0} {i s : ℕ} where
  pub entry_after_known_result_is_sound : {A B : Type 0} {Mid : A → Type 0} {Good : B →
      Type 0} {a : A} {c : Construct B} →
      (Mid a → SoundEntry t P i s c Good) → HoareTriple (Ended P s Mid a) c (Ended P s Good) (IsEntryFault t i s)
  entry_after_known_result_is_sound f = record {
    on_read = λ i j b p x. (f p.good).holds.on_read i j b (record { late = p.late; place = p.place }) x;
    on_refused =
        λ i from to k p x. (f p.good).holds.on_refused i from to k (record { late = p.late; place = p.place }) x;
  }

  pub bind_is_sound_entry : {A B : Type 0} {Mid : A → Type 0} {Good : B → Type 0} {c : Construct A} {f : A →
      Construct B} →
      i ≤ s → Sound t P s c Mid → ((a : A) → Mid a → SoundEntry t P i s (f a) Good) → SoundEntry t P i s (c >>= f) Good
  bind_is_sound_entry {Mid = Mid} l x g =
      record {
        holds =
            holds_bind (holds_weaker (λ i p. p) (λ a j e. e) (fault_is_entry_fault t i s l) x.holds)
            (λ a. entry_after_known_result_is_sound {Mid = Mid} (g a));
      }

  pub yields_is_sound_entry : {A : Type 0} {Good : A → Type 0} {a : A} → Good a → SoundEntry t P i s (yields a) Good
  yields_is_sound_entry g =
      record { holds = yields_meets_triple (λ i p. record { late = p.late; place = p.place; good = g }) }

module _ (edition : Edition) (t : List ℕ) (P : ℕ → Type 0) (cuts : AreBoundaries t P) where
  pub pattern_is_sound : {s : ℕ} → Sound t P s (pattern edition t) (option_every (pattern_every (IsSpan P)))
  pattern_is_sound = lines.pattern_over_is_sound edition t P cuts (family edition t) (family_is_sound edition t P cuts)

  attribute_with_is_sound : {s : ℕ} (id : Span) (value : Option (PatternTree Span)) → IsSpan P id →
      option_every (pattern_every (IsSpan P)) value → Sound t P s (attribute_with id value) (attribute_every (IsSpan P))
  attribute_with_is_sound id None g k = fails_is_sound cuts.in_text tt (λ i. tt)
  attribute_with_is_sound id (Some value) g k = yields_is_sound (g, k)

  pub attribute_is_sound : {s : ℕ} → Sound t P s (attribute edition t) (attribute_every (IsSpan P))
  attribute_is_sound =
      bind_is_sound (inline_blank_is_sound t P cuts)
      (λ u v. bind_is_sound (token_is_sound t P cuts 46 refl) (λ u v. bind_is_sound (identifier_is_sound t P cuts)
      (λ id g.
      bind_is_sound (inline_blank_is_sound t P cuts)
      (λ u v. bind_is_sound (token_is_sound t P cuts 61 refl)
      (λ u v. bind_is_sound pattern_is_sound (λ value k. attribute_with_is_sound id value g k))))))

  read_attributes_have_spans_in_bounds : (s i j : ℕ) (rest : List (AttributeTree Span)) → Inside P s i →
      attributes edition t i (Read rest j) → Ended P s (list_every (attribute_every (IsSpan P))) rest j
  read_attributes_have_spans_in_bounds s i j rest p (no_more x) = record { late = p.late; place = p.place; good = tt }
  read_attributes_have_spans_in_bounds s i j rest p (one_more {j = m} {a = a} {rest = more} x y) =
      let q = attribute_is_sound.holds.on_read i m a p x in
      let r = read_attributes_have_spans_in_bounds s m j more (record { late = q.late; place = q.place }) y in
      record { late = r.late; place = r.place; good = (q.good, r.good) }

  attributes_are_never_refused : (X : Type 0) (i from to : ℕ) (k : Kind) → attributes edition t i (Refused k from to) →
      X
  attributes_are_never_refused X i from to k x = elim x [ ]

  pub attributes_are_sound : {s : ℕ} → Sound t P s (attributes edition t) (list_every (attribute_every (IsSpan P)))
  attributes_are_sound {s = s} =
      record {
        holds =
            record {
              on_read = λ i j a p x. read_attributes_have_spans_in_bounds s i j a p x;
              on_refused = λ i from to k p x. attributes_are_never_refused (IsFault t s k from to) i from to k x;
            };
      }

  abbrev Good : EntryTree Span → Type 0
  Good = entry_every (IsSpan P)

  message_with_is_sound : (i : ℕ) (id : Span) (value : Option (PatternTree Span)) (rest : List (AttributeTree Span)) →
      IsSpan P id → option_every (pattern_every (IsSpan P)) value → list_every (attribute_every (IsSpan P)) rest →
      SoundEntry t P i (i + 1) (message_with t i id value rest) Good
  message_with_is_sound i id None [] f g k =
      record {
        holds =
            holds_fails_from
            (λ j p. let late = p.late in let inside = cuts.in_text j p.place in
            record { late = omega arith; ordered = omega arith; onward = late; in_text = inside; means = tt });
      }
  message_with_is_sound i id None (a ∷ rest) f g k = yields_is_sound_entry (f, tt, k, tt)
  message_with_is_sound i id (Some value) rest f g k = yields_is_sound_entry (f, g, k, tt)

  term_with_is_sound : (i : ℕ) (id : Span) (value : Option (PatternTree Span)) (rest : List (AttributeTree Span)) →
      IsSpan P id → option_every (pattern_every (IsSpan P)) value → list_every (attribute_every (IsSpan P)) rest →
      SoundEntry t P i (i + 1) (term_with t i id value rest) Good
  term_with_is_sound i id None rest f g k =
      record {
        holds =
            holds_fails_from
            (λ j p. let late = p.late in let inside = cuts.in_text j p.place in
            record { late = omega arith; ordered = omega arith; onward = late; in_text = inside; means = tt });
      }
  term_with_is_sound i id (Some value) rest f g k = yields_is_sound_entry (f, g, k, tt)

  abbrev AfterName : ℕ → Span →
      (Span → Option (PatternTree Span) → List (AttributeTree Span) → Construct (EntryTree Span)) →
      Construct (EntryTree Span)
  AfterName i id last = do
    inline_blank t
    token t 61
    value ← pattern edition t
    blank_block t
    rest ← attributes edition t
    last id value rest

  rest_after_name_is_sound :
      (i : ℕ) (id : Span)
      (last : Span → Option (PatternTree Span) → List (AttributeTree Span) → Construct (EntryTree Span)) →
      IsSpan P id →
      ((value : Option (PatternTree Span)) (rest : List (AttributeTree Span)) →
      option_every (pattern_every (IsSpan P)) value → list_every (attribute_every (IsSpan P)) rest →
      SoundEntry t P i (i + 1) (last id value rest) Good) →
      SoundEntry t P i (i + 1) (AfterName i id last) Good
  rest_after_name_is_sound i id last f g =
      let l : i ≤ i + 1 = omega arith in
      bind_is_sound_entry l (inline_blank_is_sound t P cuts)
      (λ u v. bind_is_sound_entry l (token_is_sound t P cuts 61 refl)
      (λ u v. bind_is_sound_entry l pattern_is_sound (λ value k.
      bind_is_sound_entry l (blank_block_is_sound t P cuts) (λ u v. bind_is_sound_entry l attributes_are_sound
      (λ rest m. g value rest k m)))))

name_moves_forward : (t : List ℕ) (i j : ℕ) → has t is_letter i ≡ true → ByteRun t is_name_byte i j → i < j
name_moves_forward t i j e w =
    let forward = w.forward in
    let split : (i < j) ⊎ (i ≡ j) = grind arith in
    let there = tests_imply is_letter is_name_byte (slice_get t i) letter_is_name_byte e in
    elim split [ inl l ↦ l | inr same ↦ absurd_test (subst (λ k. has t is_name_byte k ≡ true) same there) w.longest ]

module _ (t : List ℕ) (P : ℕ → Type 0) (cuts : AreBoundaries t P) where
  pub identifier_advances : (i j : ℕ) (a : Span) → P i → identifier t i (Read a j) → Ended P (i + 1) (IsSpan P) a j
  identifier_advances i j a p
      (goes_on at_place (goes_on (chosen given) (first e (goes_on (passed w) (goes_on at_place given))))) =
      let forward = w.forward in
      let place = byte_run_ends_at_boundary t P cuts is_name_byte name_set_is_ascii i j p w in
      let on = name_moves_forward t i j e w in
      record { late = omega arith; place = place; good = (forward, p, place) }
  identifier_advances i j a p (goes_on at_place (goes_on (chosen given) (second e x))) = elim x [ ]

  identifier_at_letter_is_read : (i from to : ℕ) (k : Kind) → has t is_letter i ≡ true →
      identifier t i (Refused k from to) → ⊥
  identifier_at_letter_is_read i from to k e (stops x) = elim x [ ]
  identifier_at_letter_is_read i from to k e (goes_on at_place (stops (chosen x))) = elim x [ ]
  identifier_at_letter_is_read i from to k e (goes_on at_place (goes_on (chosen given) (first f (stops x)))) =
      elim x [ ]
  identifier_at_letter_is_read i from to k e
      (goes_on at_place (goes_on (chosen given) (first f (goes_on (passed w) (stops x))))) =
      elim x [ ]
  identifier_at_letter_is_read i from to k e
      (goes_on at_place (goes_on (chosen given) (first f (goes_on (passed w) (goes_on at_place x))))) = elim x [ ]
  identifier_at_letter_is_read i from to k e (goes_on at_place (goes_on (chosen given) (second f x))) = absurd_test e f

  identifier_at_equal_place_goes_on : (i j : ℕ) (a : Span) → P i → j ≡ i → (m : ℕ) → identifier t j (Read a m) →
      Ended P (i + 1) (IsSpan P) a m
  identifier_at_equal_place_goes_on i j a p e m x =
      identifier_advances i m a p (subst (λ j. identifier t j (Read a m)) e x)

  -- a name that begins at i, or none
  name_reads_soundly_or_has_entry_fault : (i : ℕ) → P i →
      HoareTriple (λ j. j ≡ i) (identifier t) (Ended P (i + 1) (IsSpan P)) (IsEntryFault t i i)
  name_reads_soundly_or_has_entry_fault i p = record {
    on_read = λ j m a e x. identifier_at_equal_place_goes_on i j a p e m x;
    on_refused = λ j from to k e x.
        fault_is_entry_fault t i i (omega arith) k from to
        ((identifier_is_sound t P cuts {s = i}).holds.on_refused j from to k
        (record { late = omega arith; place = subst P (sym e) p }) x);
  }

  name_at_letter_reads_soundly : (i : ℕ) → P i → has t is_letter i ≡ true →
      HoareTriple (λ j. j ≡ i) (identifier t) (Ended P (i + 1) (IsSpan P)) (IsEntryFault t i (i + 1))
  name_at_letter_reads_soundly i p l = record {
    on_read = λ j m a e x. identifier_at_equal_place_goes_on i j a p e m x;
    on_refused =
        λ j from to k e x. absurd
        (identifier_at_letter_is_read i from to k l (subst (λ j. identifier t j (Refused k from to)) e x));
  }

  -- a byte that is there is read
  token_at_its_byte_goes_on : (b i : ℕ) → b < 128 → has_byte t b i ≡ true → (F : Kind → ℕ → ℕ → Type 0) →
      HoareTriple (λ j. j ≡ i) (token t b) (λ u. Inside P (i + 1)) F
  token_at_its_byte_goes_on b i l h F = holds_bind {mid = λ found j. (found ≡ true) × Inside P (i + 1) j}
      (holds_peek (λ found. holds_branch_on
      (λ e. holds_bind {mid = λ u. Inside P (i + 1)}
      (holds_skip (λ j m p w. let e = p.0 in let by = w.by in let same : i + 1 ≡ m = omega arith in
      record { late = omega arith; place = subst P same (cuts.after i (byte_below_128_is_ascii t b i l h)) }))
      (λ u. yields_meets_triple (λ j p. (refl, p))))
      (λ e. yields_meets_triple (λ j p. absurd_test (subst (λ j. has_byte t b j ≡ true) (sym p.0) h) (p.1 ∙ e)))))
      (λ found. holds_branch_on (λ e. yields_meets_triple (λ j p. p.1))
      (λ e. fails_meets_triple (λ j p. absurd_test p.0 e)))

module _ (edition : Edition) (t : List ℕ) (P : ℕ → Type 0) (cuts : AreBoundaries t P) where
  abbrev EntrySpansInBounds : EntryTree Span → Type 0
  EntrySpansInBounds = entry_every (IsSpan P)

  abbrev NameAndMore : ℕ → Construct (EntryTree Span)
  NameAndMore i = identifier t >>= λ id. AfterName edition t P cuts i id (message_with t i)

  abbrev NameTerm : ℕ → Construct (EntryTree Span)
  NameTerm i = identifier t >>= λ id. AfterName edition t P cuts i id (term_with t i)

  message_reads_soundly_from_its_name : (i s : ℕ) → s ≤ i + 1 →
      HoareTriple (λ j. j ≡ i) (identifier t) (Ended P (i + 1) (IsSpan P)) (IsEntryFault t i s) →
      HoareTriple (λ j. j ≡ i) (NameAndMore i) (Ended P (i + 1) EntrySpansInBounds) (IsEntryFault t i s)
  message_reads_soundly_from_its_name i s l name =
      holds_bind name
      (λ id. holds_weaker {pre = Ended P (i + 1) (IsSpan P) id} (λ j p. p) (λ a j x. x)
      (entry_fault_is_fault_from_earlier t i (i + 1) s l)
      (entry_after_known_result_is_sound {Mid = IsSpan P}
      (λ f. rest_after_name_is_sound edition t P cuts i id (message_with t i) f
      (λ value rest g k. message_with_is_sound edition t P cuts i id value rest f g k))))

  pub message_ends_inside : (i j : ℕ) (a : EntryTree Span) → P i → message_entry edition t i (Read a j) →
      Ended P (i + 1) EntrySpansInBounds a j
  message_ends_inside i j a p (goes_on at_place x) =
      (message_reads_soundly_from_its_name i i (omega arith)
      (name_reads_soundly_or_has_entry_fault t P cuts i p)).on_read i j a refl x

  pub refused_message_is_entry_fault : (i from to : ℕ) (k : Kind) → P i →
      message_entry edition t i (Refused k from to) →
      IsEntryFault t i i k from to
  refused_message_is_entry_fault i from to k p (stops x) = elim x [ ]
  refused_message_is_entry_fault i from to k p (goes_on at_place x) =
      (message_reads_soundly_from_its_name i i (omega arith)
      (name_reads_soundly_or_has_entry_fault t P cuts i p)).on_refused i from to k refl x

  pub message_refused_at_letter_fails_past_it : (i from to : ℕ) (k : Kind) → P i → has t is_letter i ≡ true →
      message_entry edition t i (Refused k from to) → IsEntryFault t i (i + 1) k from to
  message_refused_at_letter_fails_past_it i from to k p l (stops x) = elim x [ ]
  message_refused_at_letter_fails_past_it i from to k p l (goes_on at_place x) =
      (message_reads_soundly_from_its_name i (i + 1) (omega arith)
      (name_at_letter_reads_soundly t P cuts i p l)).on_refused i from to k refl x

  term_reads_soundly_from_its_hyphen : (i : ℕ) → has_byte t 45 i ≡ true →
      HoareTriple (λ j. j ≡ i) (token t 45 >> NameTerm i) (Ended P (i + 1) EntrySpansInBounds)
      (IsEntryFault t i (i + 1))
  term_reads_soundly_from_its_hyphen i e =
      holds_bind (token_at_its_byte_goes_on t P cuts 45 i (omega arith) e (IsEntryFault t i (i + 1)))
      (λ u. (bind_is_sound_entry (omega arith) (identifier_is_sound t P cuts)
      (λ id f. rest_after_name_is_sound edition t P cuts i id (term_with t i) f
      (λ value rest g k. term_with_is_sound edition t P cuts i id value rest f g k))).holds)

  pub read_term_has_spans_in_bounds : (i j : ℕ) (a : EntryTree Span) → has_byte t 45 i ≡ true →
      term_entry edition t i (Read a j) → Ended P (i + 1) EntrySpansInBounds a j
  read_term_has_spans_in_bounds i j a e (goes_on at_place x) =
      (term_reads_soundly_from_its_hyphen i e).on_read i j a refl x

  pub refused_term_has_entry_fault : (i from to : ℕ) (k : Kind) → has_byte t 45 i ≡ true →
      term_entry edition t i (Refused k from to) → IsEntryFault t i (i + 1) k from to
  refused_term_has_entry_fault i from to k e (stops x) = elim x [ ]
  refused_term_has_entry_fault i from to k e (goes_on at_place x) =
      (term_reads_soundly_from_its_hyphen i e).on_refused i from to k refl x
