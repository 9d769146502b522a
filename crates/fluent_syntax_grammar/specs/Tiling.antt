-- The tiling of a whole text: entries and junk, with blank blocks between them.
use Rattle.std.specs.Prelude.{◌≡◌, ℕ, ◌<◌, ◌≤◌, ◌⊎◌, List, [], ◌∷◌, length, slice_get, Option, Some, None, Bool, true}
use Rattle.std.specs.Prelude.{false, ◌&&◌, ◌||◌, ◌==◌}
use Rattle.fluent_syntax_grammar.specs.Bytes.{is_letter, hash, hyphen}
use Rattle.fluent_syntax_grammar.specs.Places.{has, has_byte, starts_line, BlankBlock}
use Rattle.fluent_syntax_tree.specs.Kind.{Kind, ExpectedMessageField, ExpectedTermField}
use Rattle.fluent_syntax_grammar.specs.Construct.{Read, Refused, Construct, ◌>>◌, peek, branch_on}
use Rattle.fluent_syntax_grammar.specs.Tokens.{rest_of_line, optional_eol}
use Rattle.fluent_syntax_tree.specs.Entry.{EntryTree}
use Rattle.fluent_syntax_grammar.specs.Entries.{message_of, term_of}
use Rattle.fluent_syntax_grammar.specs.Family.{Family}
use Rattle.fluent_syntax_grammar.specs.Grammar.{family}
use Rattle.fluent_syntax_grammar.specs.Comments.{comment_entry}
use Rattle.fluent_syntax_tree.specs.declared.spans.Span.{Span}
use Rattle.fluent_syntax_tree.specs.declared.edition.Edition.{Edition}

-- an error: its kind, its place, and the stretch that became junk
pub record Fault : Type 0 where
  pub kind : Kind
  pub pos : Span
  pub slice : Span

-- what is between two blank blocks
pub data Tile : Type 0 where
  -- an entry, from where to where
  entry : Span → EntryTree Span → Tile
  -- junk, with its error
  refused : Fault → Tile
  -- a line that begins with `#`, in the tiling without comments
  dropped : Tile

-- Where reading failed: the end of the error's place where a message or a term lacks its field, and else its start.
abbrev pub failing_place : Kind → (from to : ℕ) → ℕ
failing_place (ExpectedMessageField id) from to = to
failing_place (ExpectedTermField id) from to = to
failing_place k from to = from

-- what an entry may begin with, at the start of a line: a letter, `-` or `#`
abbrev pub is_entry_byte : ℕ → Bool
is_entry_byte b = is_letter b || b == hyphen || b == hash

module _ (t : List ℕ) where
  -- Entry start: the start of a line that begins with a letter, `-` or `#`.
  abbrev pub starts_entry : ℕ → Bool
  starts_entry i = starts_line t i && has t is_entry_byte i

  -- The first entry start at or after the place is the end, or there is none and it is the text's end.
  pub record JunkEnd (place end : ℕ) : Type 0 where
    pub forward : place ≤ end
    pub nearest : (k : ℕ) → place ≤ k → k < end → starts_entry k ≡ false
    pub stop : (starts_entry end ≡ true) ⊎ (end ≡ length t)
    pub in_text : end ≤ length t

  -- the rest of a line with its line end
  abbrev pub whole_line : Construct (Unit {0})
  whole_line = rest_of_line t >> optional_eol t

  -- From the place on: a blank block, a tile, a blank block and so on up to the text's end.
  pub data Tiled (at : (i j : ℕ) → Tile → Type 0) : ℕ → List Tile → Type 0 where
    done : {i : ℕ} → BlankBlock t i (length t) → Tiled at i []
    next : {i start end : ℕ} {tile : Tile} {tiles : List Tile} → BlankBlock t i start → start < length t →
        at start end tile → Tiled at end tiles → Tiled at i (tile ∷ tiles)

-- over a family: what may nest in the entries, to any depth or within some number
module _ (edition : Edition) (t : List ℕ) (R : Family) where
  -- an entry, by its first byte: `#` a comment, `-` a term, any other a message
  abbrev pub entry_of : Option ℕ → Construct (EntryTree Span)
  entry_of None = message_of edition t R
  entry_of (Some b) =
      branch_on (b == hash) (comment_entry t) (branch_on (b == hyphen) (term_of edition t R) (message_of edition t R))

  -- Entry: what is at the place decides its form.
  abbrev pub entry_in : Construct (EntryTree Span)
  entry_in = peek (slice_get t) entry_of

  -- The tile from i to j: the entry that is read there; or, where it is refused, junk that reaches
  -- from there to the first entry start at or after the failing place.
  pub data TileIn : (i j : ℕ) → Tile → Type 0 where
    reads : {i j : ℕ} {e : EntryTree Span} → entry_in i (Read e j) →
        TileIn i j (entry (record { start = i; end = j }) e)
    refuses : {i j from to : ℕ} {k : Kind} → entry_in i (Refused k from to) → JunkEnd t (failing_place k from to) j →
        TileIn i j (refused (record {
          kind = k;
          pos = record { start = from; end = to };
          slice = record { start = i; end = j };
        }))

  -- Without comments: a line that begins with `#` is dropped with its end, malformed or not; other tiles are the same.
  pub data RuntimeTileIn : (i j : ℕ) → Tile → Type 0 where
    drops : {i j : ℕ} → has_byte t hash i ≡ true → whole_line t i (Read tt j) → RuntimeTileIn i j dropped
    keeps_tile : {i j : ℕ} {tile : Tile} → has_byte t hash i ≡ false → TileIn i j tile → RuntimeTileIn i j tile

module _ (edition : Edition) (t : List ℕ) where
  -- an entry, with what nests in it to any depth; and so on for the others
  abbrev pub entry_at : Construct (EntryTree Span)
  entry_at = entry_in edition t (family edition t)

  abbrev pub TileAt : (i j : ℕ) → Tile → Type 0
  TileAt = TileIn edition t (family edition t)

  abbrev pub RuntimeTileAt : (i j : ℕ) → Tile → Type 0
  RuntimeTileAt = RuntimeTileIn edition t (family edition t)

  -- The tiles of the whole text.
  abbrev pub Tiling : List Tile → Type 0
  Tiling tiles = Tiled t TileAt 0 tiles

  -- The tiles of the whole text without comments.
  abbrev pub RuntimeTiling : List Tile → Type 0
  RuntimeTiling tiles = Tiled t RuntimeTileAt 0 tiles

  -- the text has a tiling
  abbrev pub SomeTiling : Type 0
  SomeTiling = (tiles : List Tile) × Tiling tiles

  -- the text has a tiling without comments
  abbrev pub SomeRuntimeTiling : Type 0
  SomeRuntimeTiling = (tiles : List Tile) × RuntimeTiling tiles

  -- the text has at most one tiling
  abbrev pub OneTiling : Type 0
  OneTiling = (xs ys : List Tile) → Tiling xs → Tiling ys → xs ≡ ys

  -- the text has at most one tiling without comments
  abbrev pub OneRuntimeTiling : Type 0
  OneRuntimeTiling = (xs ys : List Tile) → RuntimeTiling xs → RuntimeTiling ys → xs ≡ ys
