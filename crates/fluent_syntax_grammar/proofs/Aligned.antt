-- The tiling of a text and its tiling without comments, tile next to tile.
use Rattle.std.proofs.Common.{◌≡◌, ℕ, ◌+◌, ◌<◌, ◌≤◌, List, [], ◌∷◌, ◌++◌, length, Option, Some, None, Bool, true, false}
use Rattle.std.proofs.Common.{refl, sym, ◌∙◌, subst, arith, inl, inr}
use Rattle.std.specs.Prelude.{slice_get, ◌==◌, ◌⊎◌}
use Rattle.std.proofs.lemmas.Bool.{false≢true}
use Rattle.std.proofs.lemmas.Bool.Decides.{nat_tests}
use Rattle.fluent_syntax_tree.specs.Kind.{Kind}
use Rattle.fluent_syntax_tree.specs.Entry.{EntryTree, comment, Level}
use Rattle.fluent_syntax_grammar.specs.Grammar.{family}
use Rattle.fluent_syntax_grammar.specs.Bytes.{is_letter}
use Rattle.fluent_syntax_grammar.specs.Places.{has, has_byte, starts_line, BlankBlock, no_line, line}
use Rattle.fluent_syntax_grammar.specs.Construct.{Outcome, Read, Refused, stops, goes_on, given, at_place, chosen}
use Rattle.fluent_syntax_grammar.specs.Construct.{first, second}
use Rattle.fluent_syntax_grammar.specs.Tokens.{identifier}
use Rattle.fluent_syntax_grammar.specs.Entries.{message_entry}
use Rattle.fluent_syntax_grammar.specs.Comments.{hashes, comment_lines, other_level, no_comment_line, one_more}
use Rattle.fluent_syntax_grammar.specs.Comments.{comment_entry, level_of}
use Rattle.fluent_syntax_grammar.specs.Tiling.{Fault, Tile, entry, refused, dropped, failing_place, is_entry_byte}
use Rattle.fluent_syntax_grammar.specs.Tiling.{starts_entry, JunkEnd, whole_line, Tiled, done, next, entry_of, entry_at}
use Rattle.fluent_syntax_grammar.specs.Tiling.{TileAt, reads, refuses, RuntimeTileAt, drops, keeps_tile, Tiling}
use Rattle.fluent_syntax_grammar.specs.Tiling.{RuntimeTiling}
use Rattle.fluent_syntax_tree.specs.declared.edition.Edition.{Edition}
use Rattle.fluent_syntax_tree.specs.declared.spans.Span.{Span}
use Rattle.fluent_syntax_grammar.proofs.Functional.{blank_block_ends_at_one_place}
use Rattle.fluent_syntax_grammar.proofs.HoareTriple.{yields_reads_its_value_in_place}
use Rattle.fluent_syntax_grammar.proofs.OneTiling.{tile_of_text_is_one, junk_end_is_unique, whole_line_is_functional}
use Rattle.fluent_syntax_grammar.proofs.Cuts.{block_goes_on}
use Rattle.fluent_syntax_grammar.proofs.Sound.{IsPlain}
use Rattle.fluent_syntax_grammar.proofs.SoundEntries.{plain_kind_fails_at_its_start}
use Rattle.fluent_syntax_grammar.proofs.LineEnds.{IsLineStart, hash_is_entry_byte, blank_block_has_no_entry_byte}
use Rattle.fluent_syntax_grammar.proofs.LineEnds.{block_at_entry_byte_is_empty, letter_is_entry_byte}
use Rattle.fluent_syntax_grammar.proofs.LineEnds.{block_at_end, block_from_line_start_ends_at_line_start}
use Rattle.fluent_syntax_grammar.proofs.WholeLines.{IsLine, whole_line_is_line, line_reads_as_whole_line}
use Rattle.fluent_syntax_grammar.proofs.WholeLines.{line_ends_at_line_start, line_ends_in_text}
use Rattle.fluent_syntax_grammar.proofs.WholeLines.{no_line_starts_inside_line, bytes_of_hashes_are_hashes}
use Rattle.fluent_syntax_grammar.proofs.WholeLines.{comment_line_is_whole_line, hashes_end_within_line}
use Rattle.fluent_syntax_grammar.proofs.CommentFaults.{IsAt, comment_fault_is_after_its_hashes}
use Rattle.fluent_syntax_grammar.proofs.CommentFaults.{refused_identifier_fails_at_its_start}
use Rattle.fluent_syntax_grammar.proofs.CommentFaults.{hashes_at_hash_are_at_least_one}
use Rattle.fluent_syntax_grammar.proofs.Facts.{byte_exists, holds-some, absurd_test, tests_imply, and_gives_left}
use Rattle.fluent_syntax_grammar.proofs.Facts.{at_most_is_less_or_same}
use Rattle.fluent_syntax_grammar.proofs.Facts.{right_of_false_and_is_false, and_gives_right, lt_or_le}
use Rattle.fluent_syntax_grammar.proofs.Facts.{byte_that_passes_is_in_text}

-- Tiles of the one and of the other that are the same; comments of the one and dropped lines of the other; and junk
-- that a malformed comment makes in the one, which in the other is a dropped line and perhaps junk.
pub data Aligned : List Tile → List Tile → Type 0 where
  nothing : Aligned [] []
  both : {x : Tile} {xs ys : List Tile} → Aligned xs ys → Aligned (x ∷ xs) (x ∷ ys)
  comment_left : {s : Span} {level : Level} {content : List Span} {xs ys : List Tile} → Aligned xs ys →
      Aligned (entry s (comment level content) ∷ xs) ys
  dropped_right : {xs ys : List Tile} → Aligned xs ys → Aligned xs (dropped ∷ ys)
  junk_left : {f : Fault} {xs ys : List Tile} → Aligned xs ys → Aligned (refused f ∷ xs) ys
  junk_both : {f g : Fault} {xs ys : List Tile} → Aligned xs ys → Aligned (refused f ∷ xs) (refused g ∷ ys)

module _ (t : List ℕ) where
  block_is_empty_at_its_end : (i j : ℕ) → BlankBlock t i j → BlankBlock t j j
  block_is_empty_at_its_end i j (no_line a b) = no_line a b
  block_is_empty_at_its_end i j (line {m = m} a b c) = block_is_empty_at_its_end m j c

  pub hash_is_at_entry_byte : (i : ℕ) → has_byte t 35 i ≡ true → has t is_entry_byte i ≡ true
  hash_is_at_entry_byte i e = tests_imply (λ c. c == 35) is_entry_byte (slice_get t i) hash_is_entry_byte e

module _ (edition : Edition) (t : List ℕ) where
  abbrev Runtime : ℕ → List Tile → Type 0
  Runtime i ys = Tiled t (RuntimeTileAt edition t) i ys

  -- what is left of the one tiling from j on, and a step that the other takes meanwhile
  pub record AlignedRest (j : ℕ) (ys : List Tile) (step : List Tile → List Tile) : Type 0 where
    pub rest : List Tile
    pub tiled : Runtime j rest
    pub aligned : (xs : List Tile) → Aligned xs rest → Aligned (step xs) ys

  -- from the end of a blank block on
  runtime_tiles_hold_past_blank_block : (i s : ℕ) (ys : List Tile) → BlankBlock t i s → Runtime i ys → Runtime s ys
  runtime_tiles_hold_past_blank_block i s ys b (done c) = let same : length t ≡ s =
      blank_block_ends_at_one_place.same i _ _ c b in
      done (subst (λ s. BlankBlock t s (length t)) same (block_is_empty_at_its_end t i (length t) c))
  runtime_tiles_hold_past_blank_block i s ys b (next {start = start} c l x m) =
      let same : start ≡ s = blank_block_ends_at_one_place.same i _ _ c b in
      next (subst (λ s. BlankBlock t s start) same (block_is_empty_at_its_end t i start c)) l x m

  -- a line that begins with `#` is dropped
  line_at_hash_is_dropped : (i j : ℕ) (ys : List Tile) → has_byte t 35 i ≡ true → IsLine t i j → Runtime i ys
      → AlignedRest j ys (λ xs. xs)
  line_at_hash_is_dropped i j ys e x (done b) =
      let l = byte_that_passes_is_in_text (λ c. c == 35) t i e in
      absurd_test (hash_is_at_entry_byte t i e) (blank_block_has_no_entry_byte t i (length t) i b (omega arith) l)
  line_at_hash_is_dropped i j ys e x (next {start = start} {end = end} {tiles = more} b l (drops h w) m) =
      let same : start ≡ i =
      blank_block_ends_at_one_place.same i _ _ b (block_at_entry_byte_is_empty t i (hash_is_at_entry_byte t i e)) in
      let w' = subst (λ k. whole_line t k (Read tt end)) same w in
      let one = (whole_line_is_functional t).same i _ _ w' (line_reads_as_whole_line t i j x) in
      let same_end : end ≡ j = cc in
      record { rest = more; tiled = subst (λ k. Runtime k more) same_end m; aligned = λ xs a. dropped_right a }
  line_at_hash_is_dropped i j ys e x (next {start = start} b l (keeps_tile h y) m) =
      let same : start ≡ i =
      blank_block_ends_at_one_place.same i _ _ b (block_at_entry_byte_is_empty t i (hash_is_at_entry_byte t i e)) in
      absurd_test e (subst (λ k. has_byte t 35 k ≡ false) same h)

  comment_lines_are_dropped : (level i j : ℕ) (content : List Span) (ys : List Tile) → 1 ≤ level →
      comment_lines t level i (Read content j) → Runtime i ys → AlignedRest j ys (λ xs. xs)
  comment_lines_are_dropped level i j content ys l (other_level x) r =
      record { rest = ys; tiled = r; aligned = λ xs a. a }
  comment_lines_are_dropped level i j content ys l (no_comment_line e x) r =
      record { rest = ys; tiled = r; aligned = λ xs a. a }
  comment_lines_are_dropped level i j content ys l (one_more {j = m} {content = c} {rest = more} e x y) r =
      let q = line_at_hash_is_dropped i m ys (bytes_of_hashes_are_hashes t i i (omega arith) (omega arith))
      (comment_line_is_whole_line t level i m c e x) r in
      let p = comment_lines_are_dropped level m j more q.rest l y q.tiled in
      record { rest = p.rest; tiled = p.tiled; aligned = λ xs a. q.aligned xs (p.aligned xs a) }

  -- the lines of a comment are dropped
  comment_tile_keeps_alignment : (i j : ℕ) (s : Span) (a : EntryTree Span) (ys : List Tile) → has_byte t 35 i ≡ true →
      comment_entry t i (Read a j) → Runtime i ys → AlignedRest j ys (λ xs. entry s a ∷ xs)
  comment_tile_keeps_alignment i j s a ys h (chosen (goes_on {j = m} {a = c} x (goes_on {j = n} {a = more} y z))) r =
      let one = hashes_at_hash_are_at_least_one t i h in
      let q = line_at_hash_is_dropped i m ys h (comment_line_is_whole_line t (hashes t i) i m c refl x) r in
      let p = comment_lines_are_dropped (hashes t i) m n more q.rest one y q.tiled in
      let g = yields_reads_its_value_in_place (comment (level_of (hashes t i)) (c ++ more)) a n j z in
      record {
        rest = p.rest;
        tiled = subst (λ k. Runtime k p.rest) g.1 p.tiled;
        aligned =
            λ xs al. subst (λ a. Aligned (entry s a ∷ xs) ys) g.0 (comment_left (q.aligned xs (p.aligned xs al)));
      }

  -- a line that begins with `#`, as it is dropped
  pub record Dropped (i : ℕ) (ys : List Tile) : Type 0 where
    pub end : ℕ
    pub line : IsLine t i end
    pub more : List Tile
    pub tiled : Runtime end more
    pub aligned : (xs : List Tile) → Aligned xs more → Aligned xs ys

  runtime_tiles_drop_line_at_hash : (i : ℕ) (ys : List Tile) → has_byte t 35 i ≡ true → Runtime i ys → Dropped i ys
  runtime_tiles_drop_line_at_hash i ys e (done b) =
      let l = byte_that_passes_is_in_text (λ c. c == 35) t i e in
      absurd_test (hash_is_at_entry_byte t i e) (blank_block_has_no_entry_byte t i (length t) i b (omega arith) l)
  runtime_tiles_drop_line_at_hash i ys e (next {start = start} {end = end} {tiles = more} b l (drops h w) m) =
      let same : start ≡ i =
      blank_block_ends_at_one_place.same i _ _ b (block_at_entry_byte_is_empty t i (hash_is_at_entry_byte t i e)) in
      record {
        end = end;
        line = whole_line_is_line t i end (subst (λ k. whole_line t k (Read tt end)) same w);
        more = more;
        tiled = m;
        aligned = λ xs a. dropped_right a;
      }
  runtime_tiles_drop_line_at_hash i ys e (next {start = start} b l (keeps_tile h y) m) =
      let same : start ≡ i =
      blank_block_ends_at_one_place.same i _ _ b (block_at_entry_byte_is_empty t i (hash_is_at_entry_byte t i e)) in
      absurd_test e (subst (λ k. has_byte t 35 k ≡ false) same h)

  -- ---- junk of a malformed comment

  junk_stops_at_entry_byte : (e : ℕ) → e < length t → (starts_entry t e ≡ true) ⊎ (e ≡ length t) →
      has t is_entry_byte e ≡ true
  junk_stops_at_entry_byte e l (inl h) = and_gives_right (starts_line t e) (has t is_entry_byte e) h
  junk_stops_at_entry_byte e l (inr n) = absurd (omega arith)

  no_entry_in_block : (m s e : ℕ) → BlankBlock t m s → m ≤ e → e < s → s ≤ length t → JunkEnd t m e → ⊥
  no_entry_in_block m s e b l x y j =
      absurd_test (junk_stops_at_entry_byte e (omega arith) j.stop) (blank_block_has_no_entry_byte t m s e b l x)

  identifier_starts_with_letter : (i j : ℕ) (a : Span) → identifier t i (Read a j) → has t is_letter i ≡ true
  identifier_starts_with_letter i j a (goes_on at_place (goes_on (chosen given) (first e x))) = e
  identifier_starts_with_letter i j a (goes_on at_place (goes_on (chosen given) (second e x))) = elim x [ ]

  minus_is_entry_byte : (b : ℕ) → (b == 45) ≡ true → is_entry_byte b ≡ true
  minus_is_entry_byte b e = grind (arith, nat_tests)

  message_off_entry_byte_is_refused : (i : ℕ) (o : Outcome (EntryTree Span)) → has t is_entry_byte i ≡ false →
      message_entry edition t i o → (k : Kind) × (from : ℕ) × (to : ℕ) × (o ≡ Refused k from to) × IsAt i k from to
  message_off_entry_byte_is_refused i o e (stops x) = elim x [ ]
  message_off_entry_byte_is_refused i o e (goes_on at_place (stops {from = from} {to = to} {k = k} x)) =
      (k, from, to, refl, refused_identifier_fails_at_its_start t i from to k x)
  message_off_entry_byte_is_refused i o e (goes_on at_place (goes_on {j = j} {a = a} x y)) =
      absurd_test (tests_imply is_letter is_entry_byte (slice_get t i) letter_is_entry_byte
      (identifier_starts_with_letter i j a x)) e

  entry_of_other_byte_is_refused : (i : ℕ) (o : Outcome (EntryTree Span)) (b : Option ℕ) → slice_get t i ≡ b →
      has t is_entry_byte i ≡ false → entry_of edition t (family edition t) b i o → (k : Kind) × (from : ℕ) × (to : ℕ) ×
      (o ≡ Refused k from to) × IsAt i k from to
  entry_of_other_byte_is_refused i o None f e x = message_off_entry_byte_is_refused i o e x
  entry_of_other_byte_is_refused i o (Some b) f e (first g x) =
      absurd_test (holds-some is_entry_byte (slice_get t i) b f (hash_is_entry_byte b g)) e
  entry_of_other_byte_is_refused i o (Some b) f e (second g (first h x)) =
      absurd_test (holds-some is_entry_byte (slice_get t i) b f (minus_is_entry_byte b h)) e
  entry_of_other_byte_is_refused i o (Some b) f e (second g (second h x)) = message_off_entry_byte_is_refused i o e x

  -- where no entry may begin, every entry is refused at once
  entry_off_entry_byte_is_refused : (i : ℕ) (o : Outcome (EntryTree Span)) → has t is_entry_byte i ≡ false →
      entry_at edition t i o → (k : Kind) × (from : ℕ) × (to : ℕ) × (o ≡ Refused k from to) × IsAt i k from to
  entry_off_entry_byte_is_refused i o e (chosen x) = entry_of_other_byte_is_refused i o (slice_get t i) refl e x

  junk_end_is_junk_end_of_later_place : (p m e : ℕ) → p ≤ m → m ≤ e → JunkEnd t p e → JunkEnd t m e
  junk_end_is_junk_end_of_later_place p m e l n j =
      record { forward = n; nearest = λ k a b. j.nearest k (omega arith) b; stop = j.stop; in_text = j.in_text }

  block_at_line_start_ends_at_line_start : (m s e : ℕ) → IsLineStart t m → BlankBlock t m s → m ≤ s → s < e →
      e ≤ length t → starts_line t s ≡ true
  block_at_line_start_ends_at_line_start m s e (inl h) b l x y = block_from_line_start_ends_at_line_start t m s h b
  block_at_line_start_ends_at_line_start m s e (inr n) b l x y = absurd (omega arith)

  -- within the reach of junk no entry may begin
  no_entry_byte_starts_line_in_junk : (m s e : ℕ) → IsLineStart t m → BlankBlock t m s → m ≤ s → s < e → JunkEnd t m e →
      has t is_entry_byte s ≡ false
  no_entry_byte_starts_line_in_junk m s e h b l x j =
      right_of_false_and_is_false (starts_line t s) (has t is_entry_byte s) (j.nearest s l x)
      (block_at_line_start_ends_at_line_start m s e h b l x j.in_text)

  -- junk from the start of a line on: without comments there is junk up to the same place, or nothing
  runtime_junk_aligns_inside_junk : (m s e end : ℕ) (f : Fault) (tile : Tile) (more ys : List Tile) → IsLineStart t m →
      BlankBlock t m s → m ≤ s → s < e → JunkEnd t m e →
      RuntimeTileAt edition t s end tile → Runtime end more → tile ∷ more ≡ ys → AlignedRest e ys (λ xs. refused f ∷ xs)
  runtime_junk_aligns_inside_junk m s e end f tile more ys h b l x j (drops g w) r same =
      absurd_test (hash_is_at_entry_byte t s g) (no_entry_byte_starts_line_in_junk m s e h b l x j)
  runtime_junk_aligns_inside_junk m s e end f tile more ys h b l x j (keeps_tile g (reads {e = a} y)) r same =
      let k = entry_off_entry_byte_is_refused s (Read a end) (no_entry_byte_starts_line_in_junk m s e h b l x j) y in
      let wrong = k.3 in
      absurd cc
  runtime_junk_aligns_inside_junk m s e end f tile more ys h b l x j
      (keeps_tile g (refuses {from = from} {to = to} {k = kind} y n)) r same =
      let k = entry_off_entry_byte_is_refused s (Refused kind from to)
      (no_entry_byte_starts_line_in_junk m s e h b l x j) y in
      let is = k.3 in
      let at = k.4 in
      let same_kind : k.0 ≡ kind = cc in
      let same_from : k.1 ≡ from = cc in
      let place : failing_place kind from to ≡ s =
      plain_kind_fails_at_its_start kind (subst IsPlain same_kind at.plain) from to ∙ (sym same_from ∙ at.at) in
      let same_end : end ≡ e =
      junk_end_is_unique t s end e (subst (λ p. JunkEnd t p end) place n)
      (junk_end_is_junk_end_of_later_place m s e l (omega arith) j) in
      record {
        rest = more;
        tiled = subst (λ k. Runtime k more) same_end r;
        aligned = λ xs a. subst (λ ys. Aligned (refused f ∷ xs) ys) same (junk_both a);
      }

  junk_aligns_with_runtime_tiles : (m e : ℕ) (f : Fault) (ys : List Tile) → IsLineStart t m → JunkEnd t m e →
      Runtime m ys → AlignedRest e ys (λ xs. refused f ∷ xs)
  junk_aligns_with_runtime_tiles m e f ys h j (done b) =
      let inside = j.in_text in
      let forward = j.forward in
      elim (lt_or_le e (length t)) [
        | inl l ↦ absurd (no_entry_in_block m (length t) e b forward l (omega arith) j)
        | inr l ↦ (let same : length t ≡ e = omega arith in
            record {
              rest = [];
              tiled = subst (λ k. Runtime k []) same (done (block_at_end t));
              aligned = λ xs a. junk_left a;
            })
      ]
  junk_aligns_with_runtime_tiles m e f ys h j (next {start = s} {end = end} {tile = tile} {tiles = more} b l x r) =
      let inside = j.in_text in
      let forward = j.forward in
      let on = block_goes_on t m s b in
      elim (lt_or_le e s) [
        | inl y ↦ absurd (no_entry_in_block m s e b forward y (omega arith) j)
        | inr y ↦ elim (at_most_is_less_or_same s e y) [
          | inl z ↦ runtime_junk_aligns_inside_junk m s e end f tile more (tile ∷ more) h b on z j x r refl
          | inr same ↦ (let there = junk_stops_at_entry_byte e (omega arith) j.stop in
              record {
                rest = tile ∷ more;
                tiled = subst (λ k. Runtime k (tile ∷ more)) same (next (block_is_empty_at_its_end t m s b) l x r);
                aligned = λ xs a. junk_left a;
              })
        ]
      ]

  line_ends_before_junk_stop : (i m e : ℕ) → IsLine t i m → i < e → m ≤ length t →
      (starts_entry t e ≡ true) ⊎ (e ≡ length t) → m ≤ e
  line_ends_before_junk_stop i m e x l n (inl h) =
      elim (lt_or_le e m) [
        | inl y ↦ absurd_test (and_gives_left (starts_line t e) (has t is_entry_byte e) h)
            (no_line_starts_inside_line t i m e x l y)
        | inr y ↦ y
      ]
  line_ends_before_junk_stop i m e x l n (inr f) = omega arith

  -- the junk of a malformed comment begins on the comment's line
  refused_comment_aligns_as_junk : (i e from to : ℕ) (k : Kind) (f : Fault) (ys : List Tile) → has_byte t 35 i ≡ true →
      comment_entry t i (Refused k from to) → JunkEnd t (failing_place k from to) e → Runtime i ys →
      AlignedRest e ys (λ xs. refused f ∷ xs)
  refused_comment_aligns_as_junk i e from to k f ys h x j r =
      let d = runtime_tiles_drop_line_at_hash i ys h r in
      let at = comment_fault_is_after_its_hashes t i from to k x in
      let place : failing_place k from to ≡ i + hashes t i = plain_kind_fails_at_its_start k at.plain from to ∙ at.at in
      let j' = subst (λ p. JunkEnd t p e) place j in
      let one = hashes_at_hash_are_at_least_one t i h in
      let l = byte_that_passes_is_in_text (λ c. c == 35) t i h in
      let on = hashes_end_within_line t i d.end d.line in
      let forward = j'.forward in
      let inside = line_ends_in_text t i d.end (omega arith) d.line in
      let past : d.end ≤ e = line_ends_before_junk_stop i d.end e d.line (omega arith) inside j'.stop in
      let start = line_ends_at_line_start t i d.end (omega arith) d.line in
      let q = junk_aligns_with_runtime_tiles d.end e f d.more start
      (junk_end_is_junk_end_of_later_place (i + hashes t i) d.end e on past j') d.tiled in
      record { rest = q.rest; tiled = q.tiled; aligned = λ xs a. d.aligned (refused f ∷ xs) (q.aligned xs a) }

  place_of_hash_has_some_byte : (i : ℕ) (o : Option ℕ) (p : ℕ → Bool) → has_byte t 35 i ≡ true → slice_get t i ≡ o →
      o ≡ None → ⊥
  place_of_hash_has_some_byte i o p h e f = let b = byte_exists (λ c. c == 35) (slice_get t i) h in absurd cc

  place_of_hash_has_no_other_byte : (i b : ℕ) → has_byte t 35 i ≡ true → slice_get t i ≡ Some b → (b == 35) ≡ false → ⊥
  place_of_hash_has_no_other_byte i b h e f = false≢true (sym f ∙ (rw e at h))

  entry_of_hash_byte_is_comment : (i : ℕ) (o : Outcome (EntryTree Span)) (b : Option ℕ) → slice_get t i ≡ b →
      has_byte t 35 i ≡ true → entry_of edition t (family edition t) b i o → comment_entry t i o
  entry_of_hash_byte_is_comment i o None e h x = absurd (place_of_hash_has_some_byte i None is_letter h e refl)
  entry_of_hash_byte_is_comment i o (Some b) e h (first f x) = x
  entry_of_hash_byte_is_comment i o (Some b) e h (second f x) = absurd (place_of_hash_has_no_other_byte i b h e f)

  -- where there is a `#`, an entry is a comment
  entry_at_hash_is_comment : (i : ℕ) (o : Outcome (EntryTree Span)) → has_byte t 35 i ≡ true → entry_at edition t i o →
      comment_entry t i o
  entry_at_hash_is_comment i o h (chosen x) = entry_of_hash_byte_is_comment i o (slice_get t i) refl h x

  -- a tile of the one, where there is a `#` or none
  tile_at_hash_aligns : (i j : ℕ) (x : Tile) (ys : List Tile) → has_byte t 35 i ≡ true → TileAt edition t i j x →
      Runtime i ys → AlignedRest j ys (λ xs. x ∷ xs)
  tile_at_hash_aligns i j x ys h (reads {e = e} y) r =
      comment_tile_keeps_alignment i j (record { start = i; end = j }) e ys h
      (entry_at_hash_is_comment i (Read e j) h y) r
  tile_at_hash_aligns i j x ys h (refuses {from = from} {to = to} {k = k} y e) r =
      refused_comment_aligns_as_junk i j from to k
      (record { kind = k; pos = record { start = from; end = to }; slice = record { start = i; end = j } }) ys h
      (entry_at_hash_is_comment i (Refused k from to) h y) e r

  tile_without_hash_keeps_alignment : (i j : ℕ) (x : Tile) (ys : List Tile) → has_byte t 35 i ≡ false → i < length t →
      BlankBlock t i i →
      TileAt edition t i j x → Runtime i ys → AlignedRest j ys (λ xs. x ∷ xs)
  tile_without_hash_keeps_alignment i j x ys h l b y (done c) = let same =
      blank_block_ends_at_one_place.same i _ _ c b in absurd (omega arith)
  tile_without_hash_keeps_alignment i j x ys h l b y (next {start = s} c m (drops g w) r) = let same : s ≡ i =
      blank_block_ends_at_one_place.same i _ _ c b in
      absurd_test g (subst (λ k. has_byte t 35 k ≡ false) (sym same) h)
  tile_without_hash_keeps_alignment i j x ys h l b y
      (next {start = s} {end = end} {tile = tile} {tiles = more} c m (keeps_tile g z) r) =
      let same : s ≡ i = blank_block_ends_at_one_place.same i _ _ c b in
      let z' = subst (λ k. TileAt edition t k end tile) same z in
      let same_end : end ≡ j = (tile_of_text_is_one edition t).same_end i end j tile x z' y in
      let same_tile : x ≡ tile = sym ((tile_of_text_is_one edition t).same_tile i end j tile x z' y) in
      record {
        rest = more;
        tiled = subst (λ k. Runtime k more) same_end r;
        aligned = λ xs a. subst (λ x. Aligned (x ∷ xs) (tile ∷ more)) (sym same_tile) (both a);
      }

  step : (i j : ℕ) (x : Tile) (ys : List Tile) (hash : Bool) → has_byte t 35 i ≡ hash → i < length t →
      BlankBlock t i i → TileAt edition t i j x → Runtime i ys → AlignedRest j ys (λ xs. x ∷ xs)
  step i j x ys true h l b y r = tile_at_hash_aligns i j x ys h y r
  step i j x ys false h l b y r = tile_without_hash_keeps_alignment i j x ys h l b y r

  tiles_align_with_runtime_tiles : (i : ℕ) (xs ys : List Tile) → Tiled t (TileAt edition t) i xs → Runtime i ys →
      Aligned xs ys
  tiles_align_with_runtime_tiles i xs ys (done b) (done c) = nothing
  tiles_align_with_runtime_tiles i xs ys (done b) (next c l x r) =
      let same = blank_block_ends_at_one_place.same i _ _ b c in absurd (omega arith)
  tiles_align_with_runtime_tiles i xs ys (next {start = s} {end = j} {tile = x} {tiles = more} b l y m) r =
      let q = step s j x ys (has_byte t 35 s) refl l (block_is_empty_at_its_end t i s b) y
      (runtime_tiles_hold_past_blank_block i s ys b r) in
      q.aligned more (tiles_align_with_runtime_tiles j more q.rest m q.tiled)

  -- the tiling of a text next to its tiling without comments
  pub aligned : (xs ys : List Tile) → Tiling edition t xs → RuntimeTiling edition t ys → Aligned xs ys
  aligned xs ys a b = tiles_align_with_runtime_tiles 0 xs ys a b
