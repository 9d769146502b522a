-- The converse: the joined tree of a text's tiling is readable, where an LF follows every CR; and it is the tree
-- itself, where the text has no CR and the tiling no error.
use Rattle.std.proofs.Common.{◌≡◌, ℕ, List, [], ◌∷◌, ◌++◌, map, option_map, Option, Some, None, Bool, true, false, refl}
use Rattle.std.proofs.Common.{ap, inl, inr}
use Rattle.std.specs.Prelude.{◌==◌, ◌⊎◌, if◌then◌else◌}
use Rattle.fluent_syntax_tree.specs.Spans.{bytes_at}
use Rattle.fluent_syntax_tree.specs.declared.spans.Span.{Span}
use Rattle.fluent_syntax_tree.specs.declared.edition.Edition.TheVariants.{One}
use Rattle.fluent_syntax_tree.specs.Every.{option_every, list_every}
use Rattle.fluent_syntax_tree.specs.Tree.{PatternTree}
use Rattle.fluent_syntax_tree.specs.Entry.{AttributeTree, MessageTree, TermTree, EntryTree, message, term, comment}
use Rattle.fluent_syntax_tree.specs.Entry.{junk, regular, group, resource, BodyTree, message_map, term_map, body_map}
use Rattle.fluent_syntax_grammar.specs.Bytes.{cr}
use Rattle.fluent_syntax_grammar.specs.Places.{has_byte}
use Rattle.fluent_syntax_grammar.specs.Tiling.{Tile, entry, refused, dropped, Tiled, done, next, TileAt, reads, refuses}
use Rattle.fluent_syntax_grammar.specs.Body.{faults, attached, attached_entry, alone, or_attached, body}
use Rattle.fluent_syntax_grammar.specs.Written.{Text}
use Rattle.fluent_syntax_grammar.specs.Rules.{message_obeys, term_obeys, body_obeys}
use Rattle.fluent_syntax_grammar.specs.Readable.{readable_rules}
use Rattle.fluent_syntax_grammar.specs.Joined.{joined_message, joined_term, joined_body}
use Rattle.fluent_syntax_grammar.specs.RoundTrip.{HasNoBareCr, HasNoCr, JoinedIsReadable, JoinedIsSame}
use Rattle.fluent_syntax_grammar.specs.RoundTrip.{JoinedIsCanonical, tree_of}
use Rattle.fluent_syntax_grammar.proofs.FurtherRules.{readable_is_canonical_by_further_rules}
use Rattle.fluent_syntax_grammar.proofs.Facts.{absurd_test}
use Rattle.fluent_syntax_grammar.proofs.Tests.{true_and_true}
use Rattle.fluent_syntax_grammar.proofs.backward.Entries.{IsLines, IsMessage, IsTerm, IsNotJunk, entry_reads_no_junk}

module _ (t : List ℕ) (Joins Junk : Type 0) where
  -- an entry of a body: one that was read, or junk where it is allowed
  abbrev IsBodyEntry : EntryTree Span → Type 0
  IsBodyEntry (message m) = IsMessage t Joins m
  IsBodyEntry (term m) = IsTerm t Joins m
  IsBodyEntry (comment level content) = IsLines t content
  IsBodyEntry (junk s) = Junk

  abbrev IsTile : Tile → Type 0
  IsTile (entry s e) = IsBodyEntry e
  IsTile (refused f) = Junk
  IsTile dropped = Unit {0}

  entry_but_junk_is_body_entry : (e : EntryTree Span) → IsNotJunk t Joins e → IsBodyEntry e
  entry_but_junk_is_body_entry (message m) g = g
  entry_but_junk_is_body_entry (term m) g = g
  entry_but_junk_is_body_entry (comment level content) g = g
  entry_but_junk_is_body_entry (junk s) g = absurd g

  -- ---- attaching

  attached_entry_is_body_entry : (content : List Span) (e : EntryTree Span) → IsLines t content → IsBodyEntry e →
      option_every IsBodyEntry (attached content e)
  attached_entry_is_body_entry content (message m) l g =
      record { name = g.name; field = g.field; value = g.value; attributes = g.attributes; comment = l }
  attached_entry_is_body_entry content (term m) l g =
      record { name = g.name; value = g.value; attributes = g.attributes; comment = l }
  attached_entry_is_body_entry content (comment level c) l g = tt
  attached_entry_is_body_entry content (junk s) l g = tt

  entry_attached_if_is_body_entry : (b : Bool) (content : List Span) (e : EntryTree Span) → IsLines t content →
      IsBodyEntry e → option_every IsBodyEntry (if b then attached content e else None)
  entry_attached_if_is_body_entry true content e l g = attached_entry_is_body_entry content e l g
  entry_attached_if_is_body_entry false content e l g = tt

  entry_of_attached_tiles_is_body_entry : (x y : Tile) → IsTile x → IsTile y →
      option_every IsBodyEntry (attached_entry x y)
  entry_of_attached_tiles_is_body_entry (entry s (comment regular content)) (entry r e) g h =
      entry_attached_if_is_body_entry (s.end == r.start) content e g h
  entry_of_attached_tiles_is_body_entry (entry s (comment regular content)) (refused f) g h = tt
  entry_of_attached_tiles_is_body_entry (entry s (comment regular content)) dropped g h = tt
  entry_of_attached_tiles_is_body_entry (entry s (comment group content)) y g h = tt
  entry_of_attached_tiles_is_body_entry (entry s (comment resource content)) y g h = tt
  entry_of_attached_tiles_is_body_entry (entry s (message m)) y g h = tt
  entry_of_attached_tiles_is_body_entry (entry s (term m)) y g h = tt
  entry_of_attached_tiles_is_body_entry (entry s (junk j)) y g h = tt
  entry_of_attached_tiles_is_body_entry (refused f) y g h = tt
  entry_of_attached_tiles_is_body_entry dropped y g h = tt

  lone_tile_has_body_entries : (x : Tile) → IsTile x → list_every IsBodyEntry (alone x)
  lone_tile_has_body_entries (entry s e) g = (g, tt)
  lone_tile_has_body_entries (refused f) g = (g, tt)
  lone_tile_has_body_entries dropped g = tt

  appended_entries_are_body_entries : (xs ys : List (EntryTree Span)) → list_every IsBodyEntry xs →
      list_every IsBodyEntry ys → list_every IsBodyEntry (xs ++ ys)
  appended_entries_are_body_entries [] ys g h = h
  appended_entries_are_body_entries (x ∷ xs) ys (g, k) h = (g, appended_entries_are_body_entries xs ys k h)

  joined_tiles_have_body_entries : (o : Option (EntryTree Span)) (first others after : List (EntryTree Span)) →
      option_every IsBodyEntry o →
      list_every IsBodyEntry first → list_every IsBodyEntry others → list_every IsBodyEntry after →
      list_every IsBodyEntry (or_attached o first others after)
  joined_tiles_have_body_entries None first others after g h k l = appended_entries_are_body_entries first others h k
  joined_tiles_have_body_entries (Some e) first others after g h k l = (g, l)

  body_of_tiles_has_body_entries : (tiles : List Tile) → list_every IsTile tiles → list_every IsBodyEntry (body tiles)
  body_of_tiles_has_body_entries [] g = tt
  body_of_tiles_has_body_entries (x ∷ []) (g, h) = lone_tile_has_body_entries x g
  body_of_tiles_has_body_entries (x ∷ y ∷ tiles) (g, (h, k)) =
      joined_tiles_have_body_entries (attached_entry x y) (alone x) (body (y ∷ tiles)) (body tiles)
      (entry_of_attached_tiles_is_body_entry x y g h)
      (lone_tile_has_body_entries x g)
      (body_of_tiles_has_body_entries (y ∷ tiles) (h, k)) (body_of_tiles_has_body_entries tiles k)

  -- ---- the tests

  joined_message_obeys_readable_rules : (m : MessageTree Span) → IsMessage t Joins m →
      message_obeys (readable_rules One) (joined_message (message_map (bytes_at t) m)) ≡ true
  joined_message_obeys_readable_rules m g = let v = g.value in let a = g.attributes in
      true_and_true g.field (true_and_true g.comment (true_and_true g.name (true_and_true v.obeys a.obeys)))

  joined_term_obeys_readable_rules : (m : TermTree Span) → IsTerm t Joins m →
      term_obeys (readable_rules One) (joined_term (term_map (bytes_at t) m)) ≡ true
  joined_term_obeys_readable_rules m g = let v = g.value in let a = g.attributes in true_and_true g.comment
      (true_and_true g.name (true_and_true v.obeys a.obeys))

  joined_body_obeys_readable_rules : (es : BodyTree Span) → list_every IsBodyEntry es →
      body_obeys (readable_rules One) (joined_body (body_map (bytes_at t) es)) ≡ true
  joined_body_obeys_readable_rules [] g = refl
  joined_body_obeys_readable_rules (message m ∷ es) (g, h) =
      true_and_true (joined_message_obeys_readable_rules m g) (joined_body_obeys_readable_rules es h)
  joined_body_obeys_readable_rules (term m ∷ es) (g, h) =
      true_and_true (joined_term_obeys_readable_rules m g) (joined_body_obeys_readable_rules es h)
  joined_body_obeys_readable_rules (comment level content ∷ es) (g, h) =
      true_and_true g (joined_body_obeys_readable_rules es h)
  joined_body_obeys_readable_rules (junk s ∷ es) (g, h) = joined_body_obeys_readable_rules es h

  equal_messages_begin_equal_bodies :
      (id : Text) (c : Option (List Text)) {v w : Option (PatternTree Text)} {a b : List (AttributeTree Text)}
      {es fs : BodyTree Text} → v ≡ w → a ≡ b → es ≡ fs →
      message (record { id = id; value = v; attributes = a; comment = c }) ∷ es
      ≡ message (record { id = id; value = w; attributes = b; comment = c }) ∷ fs
  equal_messages_begin_equal_bodies id c e f g = cc (e, f, g)

  equal_terms_begin_equal_bodies :
      (id : Text) (c : Option (List Text)) {v w : PatternTree Text} {a b : List (AttributeTree Text)}
      {es fs : BodyTree Text} → v ≡ w → a ≡ b → es ≡ fs →
      term (record { id = id; value = v; attributes = a; comment = c }) ∷ es
      ≡ term (record { id = id; value = w; attributes = b; comment = c }) ∷ fs
  equal_terms_begin_equal_bodies id c e f g = cc (e, f, g)

  body_of_entries_is_joined : (Joins → ⊥) → (Junk → ⊥) → (es : BodyTree Span) → list_every IsBodyEntry es →
      joined_body (body_map (bytes_at t) es) ≡ body_map (bytes_at t) es
  body_of_entries_is_joined none clean [] g = refl
  body_of_entries_is_joined none clean (message m ∷ es) (g, h) = let v = g.value in let a = g.attributes in
      equal_messages_begin_equal_bodies (bytes_at t m.id) (option_map (map (bytes_at t)) m.comment) (v.same none)
      (a.same none)
      (body_of_entries_is_joined none clean es h)
  body_of_entries_is_joined none clean (term m ∷ es) (g, h) = let v = g.value in let a = g.attributes in
      equal_terms_begin_equal_bodies (bytes_at t m.id) (option_map (map (bytes_at t)) m.comment) (v.same none)
      (a.same none)
      (body_of_entries_is_joined none clean es h)
  body_of_entries_is_joined none clean (comment level content ∷ es) (g, h) =
      ap (λ es. comment level (map (bytes_at t) content) ∷ es) (body_of_entries_is_joined none clean es h)
  body_of_entries_is_joined none clean (junk s ∷ es) (g, h) = absurd (clean g)

module _ (t : List ℕ) (bare : HasNoBareCr t) (Joins Junk : Type 0) (crs : (i : ℕ) → has_byte t cr i ≡ true → Joins)
  where
    -- the tiles of a tiling: junk is allowed, or there is none
    tiles_obey_joined : (i : ℕ) (tiles : List Tile) → Junk ⊎ (faults tiles ≡ []) → Tiled t (TileAt One t) i tiles →
        list_every (IsTile t Joins Junk) tiles
    tiles_obey_joined i tiles j (done b) = tt
    tiles_obey_joined i tiles j (next {start = start} {end = end} b l (reads {e = e} x) r) = (
      entry_but_junk_is_body_entry t Joins Junk e ((entry_reads_no_junk t bare Joins crs).on_read start end e x),
      tiles_obey_joined end _ j r,
    )
    tiles_obey_joined i tiles (inl j) (next {end = end} b l (refuses x e) r) = (j, tiles_obey_joined end _ (inl j) r)
    tiles_obey_joined i tiles (inr f) (next {end = end} b l (refuses x e) r) = absurd cc

no_cr_has_no_bare_cr : (t : List ℕ) → HasNoCr t → HasNoBareCr t
no_cr_has_no_bare_cr t no_cr i e = absurd_test e (no_cr i)

-- The joined tree of a text's tiling is readable.
pub joined_is_readable : (t : List ℕ) → JoinedIsReadable t
joined_is_readable t tiles bare tiling =
    joined_body_obeys_readable_rules t (Unit {0}) (Unit {0}) (body tiles)
    (body_of_tiles_has_body_entries t (Unit {0}) (Unit {0}) tiles
    (tiles_obey_joined t bare (Unit {0}) (Unit {0}) (λ i e. tt) 0 tiles (inl tt) tiling))

-- So it is canonical exactly where the four rules more hold of it.
pub joined_is_canonical : (t : List ℕ) → JoinedIsCanonical t
joined_is_canonical t tiles bare tiling =
    readable_is_canonical_by_further_rules One (joined_body (tree_of t tiles)) (joined_is_readable t tiles bare tiling)

-- Where the text has no CR and the tiling no error, the tree is joined already.
pub joined_is_same : (t : List ℕ) → JoinedIsSame t
joined_is_same t tiles no_cr tiling f =
    body_of_entries_is_joined t ⊥ ⊥ (λ x. x) (λ x. x) (body tiles)
    (body_of_tiles_has_body_entries t ⊥ ⊥ tiles
    (tiles_obey_joined t (no_cr_has_no_bare_cr t no_cr) ⊥ ⊥ (λ i e. absurd_test e (no_cr i)) 0 tiles (inr f) tiling))
