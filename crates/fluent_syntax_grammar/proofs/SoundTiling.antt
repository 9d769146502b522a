-- The tiles of a tiling: each passes over a byte at least, its texts lie in the source, and its error lies at its junk.
use Rattle.std.proofs.Common.{◌≡◌, ℕ, ◌+◌, ◌<◌, ◌≤◌, List, length, Option, Some, None, Bool, true, false, refl, sym}
use Rattle.std.proofs.Common.{subst, arith, inl, inr}
use Rattle.std.specs.Prelude.{slice_get, ◌==◌, ◌⊎◌}
use Rattle.std.proofs.lemmas.Bool.{false≢true}
use Rattle.std.proofs.lemmas.Bool.Decides.{nat_tests}
use Rattle.fluent_syntax_tree.specs.Kind.{Kind}
use Rattle.fluent_syntax_tree.specs.Entry.{EntryTree}
use Rattle.fluent_syntax_tree.specs.Every.{list_every, entry_every}
use Rattle.fluent_syntax_grammar.specs.Grammar.{family}
use Rattle.fluent_syntax_grammar.specs.Bytes.{is_letter}
use Rattle.fluent_syntax_grammar.specs.Places.{holds, has, starts_line}
use Rattle.fluent_syntax_grammar.specs.Construct.{Read, Refused, chosen, first, second}
use Rattle.fluent_syntax_grammar.specs.Meaning.{kind_means}
use Rattle.fluent_syntax_grammar.specs.Tiling.{Tile, entry, refused, dropped, failing_place, is_entry_byte}
use Rattle.fluent_syntax_grammar.specs.Tiling.{starts_entry, JunkEnd, whole_line, Tiled, done, next, entry_of, entry_at}
use Rattle.fluent_syntax_grammar.specs.Tiling.{TileAt, reads, refuses, RuntimeTileAt, drops, keeps_tile}
use Rattle.fluent_syntax_tree.specs.declared.edition.Edition.{Edition}
use Rattle.fluent_syntax_tree.specs.declared.spans.Span.{Span}
use Rattle.fluent_syntax_grammar.proofs.Cuts.{IsAsciiSet, AreBoundaries, byte_of_ascii_set_is_ascii}
use Rattle.fluent_syntax_grammar.proofs.Cuts.{end_of_block_is_place}
use Rattle.fluent_syntax_grammar.proofs.Sound.{IsSpan, Inside, Ended, bind_is_sound, rest_of_line_is_sound}
use Rattle.fluent_syntax_grammar.proofs.Sound.{optional_eol_is_sound}
use Rattle.fluent_syntax_grammar.proofs.SoundEntries.{IsEntryFault, entry_fault_is_fault_from_earlier}
use Rattle.fluent_syntax_grammar.proofs.SoundEntries.{message_ends_inside, refused_message_is_entry_fault}
use Rattle.fluent_syntax_grammar.proofs.SoundEntries.{message_refused_at_letter_fails_past_it}
use Rattle.fluent_syntax_grammar.proofs.SoundEntries.{read_term_has_spans_in_bounds, refused_term_has_entry_fault}
use Rattle.fluent_syntax_grammar.proofs.SoundComments.{read_comment_has_spans_in_bounds}
use Rattle.fluent_syntax_grammar.proofs.SoundComments.{refused_comment_has_entry_fault}
use Rattle.fluent_syntax_grammar.proofs.Facts.{holds-some, at_most_is_less_or_same, and_gives_right, byte_passes}

entry_byte_is_ascii : IsAsciiSet is_entry_byte
entry_byte_is_ascii = record { small = λ b e. grind (arith, nat_tests) }

entry_byte_but_hash_and_hyphen_is_letter : (b : ℕ) → (b == 35) ≡ false → (b == 45) ≡ false → is_entry_byte b ≡ true →
    is_letter b ≡ true
entry_byte_but_hash_and_hyphen_is_letter b e f g = grind (arith, nat_tests)

none_passes_no_test : (test : ℕ → Bool) (o : Option ℕ) → o ≡ None → holds test o ≡ true → ⊥
none_passes_no_test test o e f = false≢true (rw e at f)

fault_past_start_is_entry_fault : {t : List ℕ} (i from to : ℕ) (k : Kind) → IsEntryFault t i (i + 1) k from to →
    IsEntryFault t i i k from to
fault_past_start_is_entry_fault {t = t} i from to k f =
    entry_fault_is_fault_from_earlier t i (i + 1) i (omega arith) k from to f

module _ (edition : Edition) (t : List ℕ) (P : ℕ → Type 0) (cuts : AreBoundaries t P) where
  abbrev EntrySpansInBounds : EntryTree Span → Type 0
  EntrySpansInBounds = entry_every (IsSpan P)

  entry_read_by_byte_has_spans_in_bounds : (i j : ℕ) (a : EntryTree Span) (o : Option ℕ) → slice_get t i ≡ o → P i →
      entry_of edition t (family edition t) o i (Read a j) → Ended P (i + 1) EntrySpansInBounds a j
  entry_read_by_byte_has_spans_in_bounds i j a None e p x = message_ends_inside edition t P cuts i j a p x
  entry_read_by_byte_has_spans_in_bounds i j a (Some b) e p (first f x) =
      read_comment_has_spans_in_bounds t P cuts i j a p (holds-some (λ c. c == 35) (slice_get t i) b e f) x
  entry_read_by_byte_has_spans_in_bounds i j a (Some b) e p (second f (first g x)) =
      read_term_has_spans_in_bounds edition t P cuts i j a (holds-some (λ c. c == 45) (slice_get t i) b e g) x
  entry_read_by_byte_has_spans_in_bounds i j a (Some b) e p (second f (second g x)) =
      message_ends_inside edition t P cuts i j a p x

  -- an entry that is read passes over a byte at least, and its texts lie in the source
  pub read_entry_has_spans_in_bounds : (i j : ℕ) (a : EntryTree Span) → P i → entry_at edition t i (Read a j) →
      Ended P (i + 1) EntrySpansInBounds a j
  read_entry_has_spans_in_bounds i j a p (chosen x) =
      entry_read_by_byte_has_spans_in_bounds i j a (slice_get t i) refl p x

  entry_refused_by_byte_has_entry_fault : (i from to : ℕ) (k : Kind) (o : Option ℕ) → slice_get t i ≡ o → P i →
      entry_of edition t (family edition t) o i (Refused k from to) → IsEntryFault t i i k from to
  entry_refused_by_byte_has_entry_fault i from to k None e p x =
      refused_message_is_entry_fault edition t P cuts i from to k p x
  entry_refused_by_byte_has_entry_fault i from to k (Some b) e p (first f x) =
      fault_past_start_is_entry_fault i from to k
      (refused_comment_has_entry_fault t P cuts i from to k p (holds-some (λ c. c == 35) (slice_get t i) b e f) x)
  entry_refused_by_byte_has_entry_fault i from to k (Some b) e p (second f (first g x)) =
      fault_past_start_is_entry_fault i from to k
      (refused_term_has_entry_fault edition t P cuts i from to k (holds-some (λ c. c == 45) (slice_get t i) b e g) x)
  entry_refused_by_byte_has_entry_fault i from to k (Some b) e p (second f (second g x)) =
      refused_message_is_entry_fault edition t P cuts i from to k p x

  pub refused_entry_has_entry_fault : (i from to : ℕ) (k : Kind) → P i → entry_at edition t i (Refused k from to) →
      IsEntryFault t i i k from to
  refused_entry_has_entry_fault i from to k p (chosen x) =
      entry_refused_by_byte_has_entry_fault i from to k (slice_get t i) refl p x

  entry_onward_of : (i from to : ℕ) (k : Kind) (o : Option ℕ) → slice_get t i ≡ o → P i → has t is_entry_byte i ≡ true →
      entry_of edition t (family edition t) o i (Refused k from to) → IsEntryFault t i (i + 1) k from to
  entry_onward_of i from to k None e p h x = absurd (none_passes_no_test is_entry_byte (slice_get t i) e h)
  entry_onward_of i from to k (Some b) e p h (first f x) =
      refused_comment_has_entry_fault t P cuts i from to k p (holds-some (λ c. c == 35) (slice_get t i) b e f) x
  entry_onward_of i from to k (Some b) e p h (second f (first g x)) =
      refused_term_has_entry_fault edition t P cuts i from to k (holds-some (λ c. c == 45) (slice_get t i) b e g) x
  entry_onward_of i from to k (Some b) e p h (second f (second g x)) =
      message_refused_at_letter_fails_past_it edition t P cuts i from to k p
      (holds-some is_letter (slice_get t i) b e
      (entry_byte_but_hash_and_hyphen_is_letter b f g (byte_passes is_entry_byte (slice_get t i) b e h)))
      x

  -- where an entry may begin, a refusal's failing place is after its first byte
  pub entry_at_entry_byte_fails_past_it : (i from to : ℕ) (k : Kind) → P i → has t is_entry_byte i ≡ true →
      entry_at edition t i (Refused k from to) → IsEntryFault t i (i + 1) k from to
  entry_at_entry_byte_fails_past_it i from to k p h (chosen x) = entry_onward_of i from to k (slice_get t i) refl p h x

  -- what holds of a tile that reaches from i to j
  abbrev pub IsTileWellFormed : Tile → Type 0
  IsTileWellFormed (entry s e) = (s.start < s.end) × IsSpan P s × EntrySpansInBounds e
  IsTileWellFormed (refused f) =
      (f.slice.start < f.slice.end) × IsSpan P f.slice × (f.slice.start ≤ f.pos.start) × (f.pos.start ≤ f.slice.end) ×
      kind_means t f.kind f.pos.start
  IsTileWellFormed dropped = Unit {0}

  pub record EndedTile (i j : ℕ) (tile : Tile) : Type 0 where
    pub onward : i < j
    pub place : P j
    pub good : IsTileWellFormed tile

  junk_end_is_boundary : (place j : ℕ) → JunkEnd t place j → P j
  junk_end_is_boundary place j e = elim e.stop [
    | inl h ↦ cuts.before j
        (byte_of_ascii_set_is_ascii t is_entry_byte j entry_byte_is_ascii
        (and_gives_right (starts_line t j) (has t is_entry_byte j) h))
    | inr n ↦ subst P (sym n) cuts.at_end
  ]

  junk_that_ends_at_start_is_not_empty : (i j place : ℕ) → i < length t →
      (has t is_entry_byte i ≡ true → i + 1 ≤ place) → i ≡ j → place ≤ j →
      (starts_entry t j ≡ true) ⊎ (j ≡ length t) → i < j
  junk_that_ends_at_start_is_not_empty i j place l f same forward stop = elim stop [
    | inl h ↦ (let there = and_gives_right (starts_line t j) (has t is_entry_byte j) h in
        let on = f (subst (λ k. has t is_entry_byte k ≡ true) (sym same) there) in omega arith)
    | inr n ↦ omega arith
  ]

  -- junk is not empty
  junk_is_not_empty : (i j place : ℕ) → i < length t → i ≤ place → (has t is_entry_byte i ≡ true → i + 1 ≤ place) →
      JunkEnd t place j → i < j
  junk_is_not_empty i j place l m f e =
      let forward = e.forward in
      elim (at_most_is_less_or_same i j (omega arith)) [
        | inl x ↦ x
        | inr same ↦
            junk_that_ends_at_start_is_not_empty i j place l f same forward e.stop
      ]

  pub tile_at_place_is_ended_tile : (i j : ℕ) (tile : Tile) → P i → i < length t → TileAt edition t i j tile →
      EndedTile i j tile
  tile_at_place_is_ended_tile i j tile p l (reads {e = e} x) =
      let q = read_entry_has_spans_in_bounds i j e p x in
      let on = q.late in
      record { onward = omega arith; place = q.place; good = (omega arith, (omega arith, p, q.place), q.good) }
  tile_at_place_is_ended_tile i j tile p l (refuses {from = from} {to = to} {k = k} x e) =
      let f = refused_entry_has_entry_fault i from to k p x in
      let late = f.late in
      let ordered = f.ordered in
      let forward = e.forward in
      let on =
      junk_is_not_empty i j (failing_place k from to) l f.onward
      (λ h. (entry_at_entry_byte_fails_past_it i from to k p h x).onward) e in
      let place = junk_end_is_boundary (failing_place k from to) j e in
      record { onward = on; place = place; good = (on, (omega arith, p, place), late, omega arith, f.means) }

  pub whole_line_ends_inside : (i j : ℕ) → P i → whole_line t i (Read tt j) → Inside P i j
  whole_line_ends_inside i j p x =
      let q =
      (bind_is_sound (rest_of_line_is_sound t P cuts) (λ s g. optional_eol_is_sound t P cuts {s = i})).holds.on_read i j
      tt
      (record { late = omega arith; place = p }) x in
      record { late = q.late; place = q.place }

  pub tiles_are_well_formed : (i : ℕ) (tiles : List Tile) → P i → Tiled t (TileAt edition t) i tiles →
      list_every IsTileWellFormed tiles
  tiles_are_well_formed i tiles p (done b) = tt
  tiles_are_well_formed i tiles p (next {start = start} {end = end} {tile = tile} {tiles = more} b l x y) =
      let q = tile_at_place_is_ended_tile start end tile (end_of_block_is_place t P cuts i start p b) l x in
      (q.good, tiles_are_well_formed end more q.place y)

  pub runtime_tiles_are_well_formed : (i : ℕ) (tiles : List Tile) → P i → Tiled t (RuntimeTileAt edition t) i tiles →
      list_every IsTileWellFormed tiles
  runtime_tiles_are_well_formed i tiles p (done b) = tt
  runtime_tiles_are_well_formed i tiles p (next {start = start} {end = end} {tiles = more} b l (drops h x) y) =
      let q = whole_line_ends_inside start end (end_of_block_is_place t P cuts i start p b) x in
      (tt, runtime_tiles_are_well_formed end more q.place y)
  runtime_tiles_are_well_formed i tiles p
      (next {start = start} {end = end} {tile = tile} {tiles = more} b l (keeps_tile h x) y) =
      let q = tile_at_place_is_ended_tile start end tile (end_of_block_is_place t P cuts i start p b) l x in
      (q.good, runtime_tiles_are_well_formed end more q.place y)
