-- Comments are sound.
use Rattle.std.proofs.Common.{◌≡◌, ℕ, ◌+◌, ◌≤◌, List, Option, Some, None, Bool, true, false, refl, subst, arith}
use Rattle.std.specs.Prelude.{not, if◌then◌else◌}
use Rattle.fluent_syntax_tree.specs.Kind.{Kind}
use Rattle.fluent_syntax_tree.specs.Entry.{EntryTree}
use Rattle.fluent_syntax_tree.specs.Every.{list_every, entry_every}
use Rattle.fluent_syntax_grammar.specs.Places.{has_byte}
use Rattle.fluent_syntax_grammar.specs.Construct.{Read, Refused, chosen}
use Rattle.fluent_syntax_grammar.specs.Comments.{hashes, comment_text, comment_rest, comment_line, comment_lines}
use Rattle.fluent_syntax_grammar.specs.Comments.{other_level, no_comment_line, one_more, comment_of, comment_entry}
use Rattle.fluent_syntax_tree.specs.declared.spans.Span.{Span}
use Rattle.fluent_syntax_grammar.proofs.HoareTriple.{HoareTriple, holds_bind, holds_skip}
use Rattle.fluent_syntax_grammar.proofs.Cuts.{AreBoundaries, byte_below_128_is_ascii}
use Rattle.fluent_syntax_grammar.proofs.Sound.{IsSpan, Inside, Ended, IsFault, Sound, bind_is_sound, yields_is_sound}
use Rattle.fluent_syntax_grammar.proofs.Sound.{peek_is_sound, here_is_sound, spanned_is_sound}
use Rattle.fluent_syntax_grammar.proofs.Sound.{part_is_sound_after_good_value}
use Rattle.fluent_syntax_grammar.proofs.Sound.{rest_of_line_is_sound, optional_eol_is_sound}
use Rattle.fluent_syntax_grammar.proofs.SoundWords.{token_is_sound}
use Rattle.fluent_syntax_tree.proofs.Every.{list_every-append}
use Rattle.fluent_syntax_grammar.proofs.CommentFaults.{hashes_at_hash_are_at_least_one}
use Rattle.fluent_syntax_grammar.proofs.SoundEntries.{IsEntryFault, fault_is_entry_fault}
use Rattle.fluent_syntax_grammar.proofs.SoundEntries.{entry_fault_is_fault_from_earlier}

hashes_place_holds : (P : ℕ → Type 0) (i : ℕ) (a b c : Bool) → P i → (a ≡ true → P (i + 1)) → (b ≡ true → P (i + 2)) →
    (c ≡ true → P (i + 3)) →
    P (i + (if not a then 0 else if not b then 1 else if not c then 2 else 3))
hashes_place_holds P i false b c p f g h = let e : i ≡ i + 0 = omega arith in subst P e p
hashes_place_holds P i true false c p f g h = f refl
hashes_place_holds P i true true false p f g h = g refl
hashes_place_holds P i true true true p f g h = h refl

offset_plus_one_is_next_offset : (i m n : ℕ) → m + 1 ≡ n → (i + m) + 1 ≡ i + n
offset_plus_one_is_next_offset i m n e = omega arith

module _ (t : List ℕ) (P : ℕ → Type 0) (cuts : AreBoundaries t P) where
  boundary_is_after_hash : (i m n : ℕ) → m + 1 ≡ n → has_byte t 35 (i + m) ≡ true → P (i + n)
  boundary_is_after_hash i m n e h =
      subst P (offset_plus_one_is_next_offset i m n e)
      (cuts.after (i + m) (byte_below_128_is_ascii t 35 (i + m) (omega arith) h))

  pub place_after_hashes : (i : ℕ) → P i → P (i + hashes t i)
  place_after_hashes i p = hashes_place_holds P i (has_byte t 35 i) (has_byte t 35 (i + 1)) (has_byte t 35 (i + 2)) p
      (λ e. cuts.after i (byte_below_128_is_ascii t 35 i (omega arith) e)) (λ e. boundary_is_after_hash i 1 2 refl e)
      (λ e. boundary_is_after_hash i 2 3 refl e)

  comment_text_is_sound : {s : ℕ} (eol : Bool) → Sound t P s (comment_text t eol) (IsSpan P)
  comment_text_is_sound true = here_is_sound (λ m q. spanned_is_sound q.place)
  comment_text_is_sound false = bind_is_sound (token_is_sound t P cuts 32 refl) (λ u v. rest_of_line_is_sound t P cuts)

  comment_rest_is_sound : {s : ℕ} (b : Option ℕ) → Sound t P s (comment_rest t b) (list_every (IsSpan P))
  comment_rest_is_sound None = yields_is_sound tt
  comment_rest_is_sound (Some b) =
      bind_is_sound (peek_is_sound comment_text_is_sound)
      (λ content g. bind_is_sound (optional_eol_is_sound t P cuts) (λ u v. yields_is_sound (g, tt)))

  -- a comment line, from a place with that many hashes
  pub comment_line_reads_soundly : (s i level : ℕ) → s ≤ i + level → P i → hashes t i ≡ level →
      HoareTriple (λ j. j ≡ i) (comment_line t level) (Ended P s (list_every (IsSpan P))) (IsFault t s)
  comment_line_reads_soundly s i level l p e = holds_bind {mid = λ u. Inside P s}
      (holds_skip (λ j m q w. let by = w.by in let same : i + hashes t i ≡ m = omega arith in
      record { late = omega arith; place = subst P same (place_after_hashes i p) }))
      (λ u. (peek_is_sound comment_rest_is_sound).holds)

  comment_lines_end_with_spans : (s level i j : ℕ) (rest : List Span) → Inside P s i →
      comment_lines t level i (Read rest j) →
      Ended P s (list_every (IsSpan P)) rest j
  comment_lines_end_with_spans s level i j rest p (other_level x) = record { late = p.late; place = p.place; good = tt }
  comment_lines_end_with_spans s level i j rest p (no_comment_line e x) =
      record { late = p.late; place = p.place; good = tt }
  comment_lines_end_with_spans s level i j rest p (one_more {j = m} {content = content} {rest = more} e x y) =
      let late = p.late in
      let q = (comment_line_reads_soundly s i level (omega arith) p.place e).on_read i m content refl x in
      let r = comment_lines_end_with_spans s level m j more (record { late = q.late; place = q.place }) y in
      record { late = r.late; place = r.place; good = list_every-append (IsSpan P) content more q.good r.good }

  comment_lines_refuse_nothing : (X : Type 0) (level i from to : ℕ) (k : Kind) →
      comment_lines t level i (Refused k from to) → X
  comment_lines_refuse_nothing X level i from to k x = elim x [ ]

  comment_lines_are_sound : {s : ℕ} (level : ℕ) → Sound t P s (comment_lines t level) (list_every (IsSpan P))
  comment_lines_are_sound {s = s} level =
      record {
        holds =
            record {
              on_read = λ i j a p x. comment_lines_end_with_spans s level i j a p x;
              on_refused = λ i from to k p x. comment_lines_refuse_nothing (IsFault t s k from to) level i from to k x;
            };
      }

  comment_of_level_reads_soundly : (i level : ℕ) → P i → hashes t i ≡ level →
      HoareTriple (λ j. j ≡ i) (comment_of t level) (Ended P (i + level) (entry_every (IsSpan P)))
      (IsFault t (i + level))
  comment_of_level_reads_soundly i level p e =
      holds_bind (comment_line_reads_soundly (i + level) i level (omega arith) p e) (λ content.
      part_is_sound_after_good_value {Mid = list_every (IsSpan P)}
      (λ g. bind_is_sound (comment_lines_are_sound level) (λ rest k. yields_is_sound
      (list_every-append (IsSpan P) content rest g k))))

  pub read_comment_has_spans_in_bounds : (i j : ℕ) (a : EntryTree Span) → P i → has_byte t 35 i ≡ true →
      comment_entry t i (Read a j) → Ended P (i + 1) (entry_every (IsSpan P)) a j
  read_comment_has_spans_in_bounds i j a p e (chosen x) =
      let q = (comment_of_level_reads_soundly i (hashes t i) p refl).on_read i j a refl x in
      let late = q.late in
      let one = hashes_at_hash_are_at_least_one t i e in
      record { late = omega arith; place = q.place; good = q.good }

  pub refused_comment_has_entry_fault : (i from to : ℕ) (k : Kind) → P i → has_byte t 35 i ≡ true →
      comment_entry t i (Refused k from to) → IsEntryFault t i (i + 1) k from to
  refused_comment_has_entry_fault i from to k p e (chosen x) =
      let one = hashes_at_hash_are_at_least_one t i e in
      entry_fault_is_fault_from_earlier t i (i + hashes t i) (i + 1) (omega arith) k from to
      (fault_is_entry_fault t i (i + hashes t i) (omega arith) k from to
      ((comment_of_level_reads_soundly i (hashes t i) p refl).on_refused i from to k refl x))
