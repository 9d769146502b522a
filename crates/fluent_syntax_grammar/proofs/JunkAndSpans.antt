-- The junk of a tiling is that of its errors, its errors ascend, and the texts of its body lie in the source.
use Rattle.std.proofs.Common.{◌≡◌, ℕ, ◌<◌, ◌≤◌, List, [], ◌∷◌, ◌++◌, length, map, Option, Some, None, Bool, true, false}
use Rattle.std.proofs.Common.{refl, sym, ◌∙◌, subst, ap, arith, append-nil}
use Rattle.std.specs.Prelude.{slice_get, ◌==◌, if◌then◌else◌}
use Rattle.std.specs.List.{flat_map}
use Rattle.std.specs.Str.{IsCharBoundary}
use Rattle.std.proofs.lemmas.Str.{IsCharBoundary-start}
use Rattle.fluent_syntax_tree.specs.Entry.{EntryTree, message, term, comment, junk, regular, group, resource, BodyTree}
use Rattle.fluent_syntax_tree.specs.Every.{list_every, entry_every}
use Rattle.fluent_syntax_grammar.specs.Grammar.{family}
use Rattle.fluent_syntax_grammar.specs.Places.{BlankBlock}
use Rattle.fluent_syntax_grammar.specs.Construct.{Read, chosen, goes_on, first, second}
use Rattle.fluent_syntax_grammar.specs.Comments.{comment_entry, level_of, hashes}
use Rattle.fluent_syntax_grammar.specs.Tiling.{Fault, Tile, entry, refused, dropped, Tiled, done, next, entry_of}
use Rattle.fluent_syntax_grammar.specs.Tiling.{TileAt, reads, refuses, RuntimeTileAt, drops, keeps_tile}
use Rattle.fluent_syntax_grammar.specs.Body.{faults, attached, attached_entry, alone, or_attached, body}
use Rattle.fluent_syntax_grammar.specs.UniqueReading.{Ascend, junk_slice, fault_slice, JunkOfErrors}
use Rattle.fluent_syntax_grammar.specs.UniqueReading.{RuntimeJunkOfErrors}
use Rattle.fluent_syntax_grammar.specs.UniqueReading.{ErrorsAscend, RuntimeErrorsAscend, BodyInText, RuntimeBodyInText}
use Rattle.fluent_syntax_tree.specs.declared.edition.Edition.{Edition}
use Rattle.fluent_syntax_tree.specs.declared.spans.Span.{Span}
use Rattle.fluent_syntax_grammar.proofs.HoareTriple.{yields_reads_its_value_in_place}
use Rattle.fluent_syntax_grammar.proofs.Cuts.{AreBoundaries, block_goes_on}
use Rattle.fluent_syntax_grammar.proofs.Sound.{IsSpan}
use Rattle.fluent_syntax_grammar.proofs.SoundStrings.{InText}
use Rattle.fluent_syntax_grammar.proofs.SoundTiling.{IsTileWellFormed, tile_at_place_is_ended_tile}
use Rattle.fluent_syntax_grammar.proofs.SoundTiling.{whole_line_ends_inside}
use Rattle.fluent_syntax_grammar.proofs.SoundTiling.{tiles_are_well_formed}
use Rattle.fluent_syntax_grammar.proofs.SoundTiling.{runtime_tiles_are_well_formed}
use Rattle.fluent_syntax_grammar.proofs.Boundaries.{places_in_text_are_boundaries, char_boundaries_are_boundaries}
use Rattle.fluent_syntax_grammar.proofs.BareEntries.{read_message_is_bare, read_term_is_bare}
use Rattle.fluent_syntax_grammar.proofs.Runtime.{IsBare}
use Rattle.fluent_syntax_grammar.proofs.Facts.{flat_map_of_append}

-- ---- the texts of a body

module _ (P : ℕ → Type 0) where
  abbrev pub EntrySpansInBounds : EntryTree Span → Type 0
  EntrySpansInBounds = entry_every (IsSpan P)

  abbrev pub BodySpansInBounds : BodyTree Span → Type 0
  BodySpansInBounds = list_every EntrySpansInBounds

  abbrev pub TileSpansInBounds : Tile → Type 0
  TileSpansInBounds (entry s e) = EntrySpansInBounds e
  TileSpansInBounds (refused f) = IsSpan P f.slice
  TileSpansInBounds dropped = Unit {0}

  spans_of_attached_are_in_bounds : (content : List Span) (e : EntryTree Span) (o : Option (EntryTree Span)) →
      attached content e ≡ o →
      list_every (IsSpan P) content → EntrySpansInBounds e → (h : EntryTree Span) → o ≡ Some h → EntrySpansInBounds h
  spans_of_attached_are_in_bounds content (message m) o p c (a, b, d, f) h q =
      let same : message (record m { comment = Some content }) ≡ h = cc in subst EntrySpansInBounds same (a, b, d, c)
  spans_of_attached_are_in_bounds content (term m) o p c (a, b, d, f) h q =
      let same : term (record m { comment = Some content }) ≡ h =
      cc in
      subst EntrySpansInBounds same (a, b, d, c)
  spans_of_attached_are_in_bounds content (comment level x) o p c g h q = cc
  spans_of_attached_are_in_bounds content (junk s) o p c g h q = cc

  entry_attached_if_has_spans_in_bounds : (b : Bool) (content : List Span) (e h : EntryTree Span) →
      list_every (IsSpan P) content → EntrySpansInBounds e →
      (if b then attached content e else None) ≡ Some h → EntrySpansInBounds h
  entry_attached_if_has_spans_in_bounds true content e h c g p =
      spans_of_attached_are_in_bounds content e (attached content e) refl c g h p
  entry_attached_if_has_spans_in_bounds false content e h c g p = cc

  entry_of_tiles_has_spans_in_bounds : (x y : Tile) (h : EntryTree Span) → TileSpansInBounds x → TileSpansInBounds y →
      attached_entry x y ≡ Some h
      → EntrySpansInBounds h
  entry_of_tiles_has_spans_in_bounds (entry s (comment regular c)) (entry r e) h g k p =
      entry_attached_if_has_spans_in_bounds (s.end == r.start) c e h g k p
  entry_of_tiles_has_spans_in_bounds (entry s (comment regular c)) (refused f) h g k p = cc
  entry_of_tiles_has_spans_in_bounds (entry s (comment regular c)) dropped h g k p = cc
  entry_of_tiles_has_spans_in_bounds (entry s (comment group c)) y h g k p = cc
  entry_of_tiles_has_spans_in_bounds (entry s (comment resource c)) y h g k p = cc
  entry_of_tiles_has_spans_in_bounds (entry s (message m)) y h g k p = cc
  entry_of_tiles_has_spans_in_bounds (entry s (term m)) y h g k p = cc
  entry_of_tiles_has_spans_in_bounds (entry s (junk x)) y h g k p = cc
  entry_of_tiles_has_spans_in_bounds (refused f) y h g k p = cc
  entry_of_tiles_has_spans_in_bounds dropped y h g k p = cc

  lone_tile_has_spans_in_bounds : (x : Tile) → TileSpansInBounds x → BodySpansInBounds (alone x)
  lone_tile_has_spans_in_bounds (entry s e) g = (g, tt)
  lone_tile_has_spans_in_bounds (refused f) g = (g, tt)
  lone_tile_has_spans_in_bounds dropped g = tt

  appended_bodies_have_spans_in_bounds : (xs ys : BodyTree Span) → BodySpansInBounds xs → BodySpansInBounds ys →
      BodySpansInBounds (xs ++ ys)
  appended_bodies_have_spans_in_bounds [] ys g h = h
  appended_bodies_have_spans_in_bounds (x ∷ xs) ys (g, k) h = (g, appended_bodies_have_spans_in_bounds xs ys k h)

  joined_tiles_have_spans_in_bounds : (x y : Tile) (others after : BodyTree Span) (o : Option (EntryTree Span)) →
      attached_entry x y ≡ o →
      TileSpansInBounds x → TileSpansInBounds y → BodySpansInBounds others → BodySpansInBounds after →
      BodySpansInBounds (or_attached o (alone x) others after)
  joined_tiles_have_spans_in_bounds x y others after None e g h p q =
      appended_bodies_have_spans_in_bounds (alone x) others (lone_tile_has_spans_in_bounds x g) p
  joined_tiles_have_spans_in_bounds x y others after (Some z) e g h p q =
      (entry_of_tiles_has_spans_in_bounds x y z g h e, q)

  pub body_of_tiles_has_spans_in_bounds : (xs : List Tile) → list_every TileSpansInBounds xs →
      BodySpansInBounds (body xs)
  body_of_tiles_has_spans_in_bounds [] g = tt
  body_of_tiles_has_spans_in_bounds (x ∷ []) (g, h) = lone_tile_has_spans_in_bounds x g
  body_of_tiles_has_spans_in_bounds (x ∷ y ∷ tiles) (g, (h, k)) =
      joined_tiles_have_spans_in_bounds x y (body (y ∷ tiles)) (body tiles) (attached_entry x y) refl g h
      (body_of_tiles_has_spans_in_bounds (y ∷ tiles) (h, k))
      (body_of_tiles_has_spans_in_bounds tiles k)

module _ (edition : Edition) (t : List ℕ) (P : ℕ → Type 0) (cuts : AreBoundaries t P) where
  well_formed_tile_has_spans_in_bounds : (x : Tile) → IsTileWellFormed edition t P cuts x → TileSpansInBounds P x
  well_formed_tile_has_spans_in_bounds (entry s e) g = g.2
  well_formed_tile_has_spans_in_bounds (refused f) g = g.1
  well_formed_tile_has_spans_in_bounds dropped g = tt

  pub well_formed_tiles_have_spans_in_bounds : (xs : List Tile) → list_every (IsTileWellFormed edition t P cuts) xs →
      list_every (TileSpansInBounds P) xs
  well_formed_tiles_have_spans_in_bounds [] g = tt
  well_formed_tiles_have_spans_in_bounds (x ∷ xs) (g, h) =
      (well_formed_tile_has_spans_in_bounds x g, well_formed_tiles_have_spans_in_bounds xs h)

module _ (edition : Edition) (t : List ℕ) where
  pub body_in_text : BodyInText edition t
  body_in_text = λ tiles u a.
      let P = IsCharBoundary t in
      let cuts = char_boundaries_are_boundaries t u in
      body_of_tiles_has_spans_in_bounds P tiles
      (well_formed_tiles_have_spans_in_bounds edition t P cuts tiles
      (tiles_are_well_formed edition t P cuts 0 tiles (IsCharBoundary-start t u) a))

  pub runtime_body_is_in_text : RuntimeBodyInText edition t
  runtime_body_is_in_text = λ tiles u a.
      let P = IsCharBoundary t in
      let cuts = char_boundaries_are_boundaries t u in
      body_of_tiles_has_spans_in_bounds P tiles
      (well_formed_tiles_have_spans_in_bounds edition t P cuts tiles
      (runtime_tiles_are_well_formed edition t P cuts 0 tiles (IsCharBoundary-start t u) a))

  -- ---- errors ascend

  faults_ascend_from_earlier_place : (from m : ℕ) (fs : List Fault) → from ≤ m → Ascend t m fs → Ascend t from fs
  faults_ascend_from_earlier_place from m [] l a = omega arith
  faults_ascend_from_earlier_place from m (f ∷ fs) l (a, b, c, d, e) = (omega arith, b, c, d, e)

  abbrev AllPlaces : ℕ → Type 0
  AllPlaces = InText t

  faults_ascend_over_tile : (i start end : ℕ) (tile : Tile) (more : List Tile) → BlankBlock t i start → AllPlaces i →
      start < length t → TileAt edition t start end tile → Ascend t end (faults more) →
      Ascend t i (faults (tile ∷ more))
  faults_ascend_over_tile i start end tile more b p l (reads {e = e} x) a =
      let q = tile_at_place_is_ended_tile edition t AllPlaces (places_in_text_are_boundaries t) start end _
      (omega arith) l (reads x) in
      let on = q.onward in
      let blank = block_goes_on t i start b in
      faults_ascend_from_earlier_place i end (faults more) (omega arith) a
  faults_ascend_over_tile i start end tile more b p l (refuses x e) a =
      let q = tile_at_place_is_ended_tile edition t AllPlaces (places_in_text_are_boundaries t) start end _
      (omega arith) l (refuses x e) in
      let blank = block_goes_on t i start b in
      let g = q.good in
      (blank, g.0, g.2, g.3, a)

  faults_of_tiles_ascend : (i : ℕ) (tiles : List Tile) → AllPlaces i → Tiled t (TileAt edition t) i tiles →
      Ascend t i (faults tiles)
  faults_of_tiles_ascend i tiles p (done b) = p
  faults_of_tiles_ascend i tiles p (next {start = start} {end = end} {tile = tile} {tiles = more} b l x m) =
      let q = tile_at_place_is_ended_tile edition t AllPlaces (places_in_text_are_boundaries t) start end tile
      (omega arith) l x in
      faults_ascend_over_tile i start end tile more b p l x (faults_of_tiles_ascend end more q.place m)

  faults_of_runtime_tiling_ascend : (i : ℕ) (tiles : List Tile) → AllPlaces i →
      Tiled t (RuntimeTileAt edition t) i tiles →
      Ascend t i (faults tiles)
  faults_of_runtime_tiling_ascend i tiles p (done b) = p
  faults_of_runtime_tiling_ascend i tiles p (next {start = start} {end = end} {tiles = more} b l (drops h x) m) =
      let q = whole_line_ends_inside edition t AllPlaces (places_in_text_are_boundaries t) start end (omega arith) x in
      let blank = block_goes_on t i start b in
      let on = q.late in
      faults_ascend_from_earlier_place i end (faults more) (omega arith)
      (faults_of_runtime_tiling_ascend end more q.place m)
  faults_of_runtime_tiling_ascend i tiles p
      (next {start = start} {end = end} {tile = tile} {tiles = more} b l (keeps_tile h x) m) =
      let q = tile_at_place_is_ended_tile edition t AllPlaces (places_in_text_are_boundaries t) start end tile
      (omega arith) l x in
      faults_ascend_over_tile i start end tile more b p l x (faults_of_runtime_tiling_ascend end more q.place m)

  pub errors_of_text_ascend : ErrorsAscend edition t
  errors_of_text_ascend = λ tiles a. faults_of_tiles_ascend 0 tiles (omega arith) a

  pub runtime_errors_of_text_ascend : RuntimeErrorsAscend edition t
  runtime_errors_of_text_ascend = λ tiles a. faults_of_runtime_tiling_ascend 0 tiles (omega arith) a

-- ---- junk

abbrev IsNotJunk : EntryTree Span → Type 0
IsNotJunk (message m) = Unit {0}
IsNotJunk (term m) = Unit {0}
IsNotJunk (comment level content) = Unit {0}
IsNotJunk (junk s) = ⊥

abbrev HoldsNoJunkEntry : Tile → Type 0
HoldsNoJunkEntry (entry s e) = IsNotJunk e
HoldsNoJunkEntry (refused f) = Unit {0}
HoldsNoJunkEntry dropped = Unit {0}

bare_is_not_junk : (e : EntryTree Span) → IsBare e → IsNotJunk e
bare_is_not_junk (message m) b = tt
bare_is_not_junk (term m) b = tt
bare_is_not_junk (comment level content) b = tt
bare_is_not_junk (junk s) b = b

module _ (edition : Edition) (t : List ℕ) where
  read_comment_is_no_junk : (i j : ℕ) (e : EntryTree Span) → comment_entry t i (Read e j) → IsNotJunk e
  read_comment_is_no_junk i j e (chosen (goes_on {a = c} x (goes_on {j = m} {a = more} y z))) =
      subst IsNotJunk (yields_reads_its_value_in_place (comment (level_of (hashes t i)) (c ++ more)) e m j z).0 tt

  read_entry_is_no_junk : (i j : ℕ) (e : EntryTree Span) (o : Option ℕ) →
      entry_of edition t (family edition t) o i (Read e j) → IsNotJunk e
  read_entry_is_no_junk i j e None x = bare_is_not_junk e ((read_message_is_bare edition t).on_read i j e tt x)
  read_entry_is_no_junk i j e (Some b) (first f x) = read_comment_is_no_junk i j e x
  read_entry_is_no_junk i j e (Some b) (second f (first g x)) =
      bare_is_not_junk e ((read_term_is_bare edition t).on_read i j e tt x)
  read_entry_is_no_junk i j e (Some b) (second f (second g x)) =
      bare_is_not_junk e ((read_message_is_bare edition t).on_read i j e tt x)

  tile_holds_an_entry_but_junk : (i j : ℕ) (x : Tile) → TileAt edition t i j x → HoldsNoJunkEntry x
  tile_holds_an_entry_but_junk i j x (reads {e = e} (chosen y)) = read_entry_is_no_junk i j e (slice_get t i) y
  tile_holds_an_entry_but_junk i j x (refuses y e) = tt

  tiles_hold_entries_but_junk : (i : ℕ) (xs : List Tile) → Tiled t (TileAt edition t) i xs →
      list_every HoldsNoJunkEntry xs
  tiles_hold_entries_but_junk i xs (done b) = tt
  tiles_hold_entries_but_junk i xs (next {start = s} {end = j} {tile = x} {tiles = more} b l y m) =
      (tile_holds_an_entry_but_junk s j x y, tiles_hold_entries_but_junk j more m)

  runtime_tile_holds_an_entry_but_junk : (i j : ℕ) (x : Tile) → RuntimeTileAt edition t i j x → HoldsNoJunkEntry x
  runtime_tile_holds_an_entry_but_junk i j x (drops h y) = tt
  runtime_tile_holds_an_entry_but_junk i j x (keeps_tile h y) = tile_holds_an_entry_but_junk i j x y

  runtime_tiles_hold_entries_but_junk : (i : ℕ) (xs : List Tile) → Tiled t (RuntimeTileAt edition t) i xs →
      list_every HoldsNoJunkEntry xs
  runtime_tiles_hold_entries_but_junk i xs (done b) = tt
  runtime_tiles_hold_entries_but_junk i xs (next {start = s} {end = j} {tile = x} {tiles = more} b l y m) =
      (runtime_tile_holds_an_entry_but_junk s j x y, runtime_tiles_hold_entries_but_junk j more m)

abbrev junk_of_tile : Tile → List Span
junk_of_tile (entry s e) = []
junk_of_tile (refused f) = f.slice ∷ []
junk_of_tile dropped = []

non_junk_has_no_junk_slice : (e : EntryTree Span) → IsNotJunk e → junk_slice e ≡ []
non_junk_has_no_junk_slice (message m) b = refl
non_junk_has_no_junk_slice (term m) b = refl
non_junk_has_no_junk_slice (comment level content) b = refl
non_junk_has_no_junk_slice (junk s) b = absurd b

alone_keeps_junk : (x : Tile) → HoldsNoJunkEntry x → flat_map junk_slice (alone x) ≡ junk_of_tile x
alone_keeps_junk (entry s e) b = append-nil (junk_slice e) ∙ non_junk_has_no_junk_slice e b
alone_keeps_junk (refused f) b = refl
alone_keeps_junk dropped b = refl

attached_entry_has_no_junk : (content : List Span) (e : EntryTree Span) (o : Option (EntryTree Span)) →
    attached content e ≡ o → (h : EntryTree Span) → o ≡ Some h → junk_slice h ≡ []
attached_entry_has_no_junk content (message m) o p h q =
    let same : message (record m { comment = Some content }) ≡ h = cc in
    ap junk_slice (sym same)
attached_entry_has_no_junk content (term m) o p h q = let same : term (record m { comment = Some content }) ≡ h = cc in
    ap junk_slice (sym same)
attached_entry_has_no_junk content (comment level c) o p h q = cc
attached_entry_has_no_junk content (junk s) o p h q = cc

entry_attached_if_has_no_junk : (b : Bool) (content : List Span) (e h : EntryTree Span) →
    (if b then attached content e else None) ≡ Some h → junk_slice h ≡ []
entry_attached_if_has_no_junk true content e h p = attached_entry_has_no_junk content e (attached content e) refl h p
entry_attached_if_has_no_junk false content e h p = cc

attaching_has_no_junk : (x y : Tile) (h : EntryTree Span) → attached_entry x y ≡ Some h → (junk_slice h ≡ [])
    × (junk_of_tile x ≡ []) ×
    (junk_of_tile y ≡ [])
attaching_has_no_junk (entry s (comment regular c)) (entry r e) h p =
    (entry_attached_if_has_no_junk (s.end == r.start) c e h p, refl, refl)
attaching_has_no_junk (entry s (comment regular c)) (refused f) h p = cc
attaching_has_no_junk (entry s (comment regular c)) dropped h p = cc
attaching_has_no_junk (entry s (comment group c)) y h p = cc
attaching_has_no_junk (entry s (comment resource c)) y h p = cc
attaching_has_no_junk (entry s (message m)) y h p = cc
attaching_has_no_junk (entry s (term m)) y h p = cc
attaching_has_no_junk (entry s (junk x)) y h p = cc
attaching_has_no_junk (refused f) y h p = cc
attaching_has_no_junk dropped y h p = cc

joined_tiles_have_junk_of_tiles : (x y : Tile) (others after : BodyTree Span) (tiles : List Tile)
    (o : Option (EntryTree Span)) → attached_entry x y ≡ o → HoldsNoJunkEntry x →
    flat_map junk_slice others ≡ junk_of_tile y ++ flat_map junk_of_tile tiles →
    flat_map junk_slice after ≡ flat_map junk_of_tile tiles →
    flat_map junk_slice (or_attached o (alone x) others after) ≡ junk_of_tile x
    ++ (junk_of_tile y ++ flat_map junk_of_tile tiles)
joined_tiles_have_junk_of_tiles x y others after tiles None e b p q =
    flat_map_of_append junk_slice (alone x) others
    ∙ (ap (λ zs. zs ++ flat_map junk_slice others) (alone_keeps_junk x b) ∙ ap (λ zs. junk_of_tile x ++ zs) p)
joined_tiles_have_junk_of_tiles x y others after tiles (Some h) e b p q =
    let z = attaching_has_no_junk x y h e in
    let left : junk_slice h ++ flat_map junk_slice after ≡ flat_map junk_of_tile tiles =
    ap (λ zs. zs ++ flat_map junk_slice after) z.0 ∙ q in
    let right : junk_of_tile x ++ (junk_of_tile y ++ flat_map junk_of_tile tiles) ≡ flat_map junk_of_tile tiles =
    ap (λ zs. zs ++ (junk_of_tile y ++ flat_map junk_of_tile tiles)) z.1
    ∙ ap (λ zs. zs ++ flat_map junk_of_tile tiles) z.2 in
    left ∙ sym right

junk_is_kept : (xs : List Tile) → list_every HoldsNoJunkEntry xs →
    flat_map junk_slice (body xs) ≡ flat_map junk_of_tile xs
junk_is_kept [] b = refl
junk_is_kept (x ∷ []) (b, c) = alone_keeps_junk x b ∙ sym (append-nil (junk_of_tile x))
junk_is_kept (x ∷ y ∷ tiles) (b, (c, d)) =
    joined_tiles_have_junk_of_tiles x y (body (y ∷ tiles)) (body tiles) tiles (attached_entry x y) refl b
    (junk_is_kept (y ∷ tiles) (c, d))
    (junk_is_kept tiles d)

junk_is_faults : (xs : List Tile) → flat_map junk_of_tile xs ≡ map fault_slice (faults xs)
junk_is_faults [] = refl
junk_is_faults (entry s e ∷ xs) = junk_is_faults xs
junk_is_faults (refused f ∷ xs) = ap (λ zs. f.slice ∷ zs) (junk_is_faults xs)
junk_is_faults (dropped ∷ xs) = junk_is_faults xs

module _ (edition : Edition) (t : List ℕ) where
  pub junk_is_where_errors_are : JunkOfErrors edition t
  junk_is_where_errors_are =
      λ tiles a. junk_is_kept tiles (tiles_hold_entries_but_junk edition t 0 tiles a) ∙ junk_is_faults tiles

  pub runtime_junk_is_where_errors_are : RuntimeJunkOfErrors edition t
  runtime_junk_is_where_errors_are =
      λ tiles a. junk_is_kept tiles (runtime_tiles_hold_entries_but_junk edition t 0 tiles a) ∙ junk_is_faults tiles
