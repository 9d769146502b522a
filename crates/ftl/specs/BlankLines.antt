-- Normal forms that keep the blank lines of their texts.
use Rattle.std.specs.Prelude.{◌≡◌, ◌==◌, ◌&&◌, ◌||◌, ◌⊎◌, ◌+◌, ℕ, zero, suc, Bool, true, false, not}
use Rattle.std.specs.Prelude.{if◌then◌else◌, List, [], ◌∷◌, ◌++◌, Option, Some, None, option_map, slice_get}
use Rattle.fluent_syntax_tree.specs.Entry.{BodyTree, EntryTree, message, term}
use Rattle.fluent_syntax_tree.specs.declared.edition.Edition.{Edition}
use Rattle.fluent_syntax_tree.specs.declared.spans.Span.{Span}
use Rattle.fluent_syntax_grammar.specs.Body.{faults}
use Rattle.fluent_syntax_grammar.specs.Bytes.{cr, lf, space}
use Rattle.fluent_syntax_grammar.specs.Places.{has_byte}
use Rattle.fluent_syntax_grammar.specs.RoundTrip.{tree_of}
use Rattle.fluent_syntax_grammar.specs.Tiling.{Tile, Tiling, dropped, entry, refused}
use Rattle.fluent_syntax_grammar.specs.Written.{Text}
use Rattle.ftl.specs.Answer.{normal_text}
use Rattle.ftl.specs.Lossless.{is_lossless, reread_tree}
use Rattle.ftl.specs.declared.blank_lines.Gap.{Gap}
use Rattle.ftl.specs.declared.blank_lines.TilePlace.{TilePlace}

-- ---- blank lines

-- whether nothing but spaces, and CRs, comes before the place in its line, by the byte before it
abbrev pub is_blank_after : Option ℕ → (before : Bool) → Bool
is_blank_after None before = false
is_blank_after (Some b) before = b == lf || (b == space || b == cr) && before

abbrev pub is_blank_to : Text → ℕ → Bool
is_blank_to t zero = true
is_blank_to t (suc k) = is_blank_after (slice_get t k) (is_blank_to t k)

-- whether a line that ends at the place is blank
abbrev pub ends_blank_line : Text → ℕ → Bool
ends_blank_line t zero = false
ends_blank_line t (suc k) = has_byte t lf k && is_blank_to t k

-- ---- gaps

-- whether the entry is a message or a term
abbrev pub is_field : EntryTree Span → Bool
is_field (message m) = true
is_field (term m) = true
is_field e = false

-- where a tile is; one that was dropped has no place
abbrev pub tile_place_of : Tile → TilePlace
tile_place_of (entry s e) = record { span = s; is_field = is_field e }
tile_place_of (refused f) = record { span = f.slice; is_field = false }
tile_place_of dropped = record { span = record { start = 0; end = 0 }; is_field = false }

abbrev pub in_list : Option Gap → List Gap
in_list None = []
in_list (Some gap) = gap ∷ []

module _ (t : Text) where
  -- a gap in which something begins at the place
  abbrev pub seen_at : (place : ℕ) → Gap → Gap
  seen_at place gap = record gap { is_blank = gap.is_blank || ends_blank_line t place }

  -- The gaps that end in these tiles, the first of which is the last one, if a message or a term came before. A gap is
  -- blank if a blank line comes directly before something that begins in it, or before what ends it.
  abbrev pub gaps_after : (last : Option Gap) → List Tile → List Gap
  gaps_after last [] = []
  gaps_after last (x ∷ tiles) =
      let place = tile_place_of x in
      let now = option_map (seen_at place.span.start) last in
      if place.is_field
      then in_list now ++ gaps_after (Some (record { place = place.span.end; is_blank = false })) tiles
      else gaps_after now tiles

  -- one for each message and each term but the first: between it and the one before it
  abbrev pub gaps : List Tile → List Gap
  gaps tiles = gaps_after None tiles

-- These are the gaps of the text.
abbrev pub HasGaps : Edition → Text → List Gap → Type 0
HasGaps edition t found = (tiles : List Tile) × Tiling edition t tiles × (found ≡ gaps t tiles)

-- ---- texts with more blank lines

-- where the gap that is there begins, if it is not blank, and the wanted one is
abbrev pub place_in : (wanted there : Gap) → List ℕ
place_in wanted there = if wanted.is_blank && not there.is_blank then there.place ∷ [] else []

-- so for gaps of one number each
abbrev pub places_of : (wanted there : List Gap) → List ℕ
places_of [] there = []
places_of (x ∷ wanted) [] = []
places_of (x ∷ wanted) (y ∷ there) = place_in x y ++ places_of wanted there

-- the bytes, the first of which is at that place, with an LF put in at each of the places
abbrev pub with_line_ends : (at : ℕ) → Text → (places : List ℕ) → Text
with_line_ends at [] places = []
with_line_ends at (b ∷ bytes) [] = b ∷ bytes
with_line_ends at (b ∷ bytes) (place ∷ places) =
    if place == at
    then lf ∷ b ∷ with_line_ends (at + 1) bytes places
    else b ∷ with_line_ends (at + 1) bytes (place ∷ places)

-- ---- the answer

-- Both texts are read as one tree.
abbrev pub ReadsAlike : Edition → (t other : Text) → Type 0
ReadsAlike edition t other = (tiles : List Tile) × (others : List Tile) × Tiling edition t tiles
    × Tiling edition other others × (tree_of t tiles ≡ tree_of other others)

-- There the gaps begin that are blank in the text, and not among those gaps.
abbrev pub HasPlaces : Edition → Text → (there : List Gap) → (places : List ℕ) → Type 0
HasPlaces edition t there places =
    (wanted : List Gap) × HasGaps edition t wanted × (places ≡ places_of wanted there)

module _ (edition : Edition) (t normal : Text) where
  -- The kept text is the normal one with an LF where a gap begins that is blank in the text t, and not in the normal
  -- one. Both are read as one tree, and such gaps of the kept text begin at the same places.
  pub record Keeps (kept : Text) : Type 0 where
    pub there : List Gap
    pub places : List ℕ
    pub gaps_are : HasGaps edition normal there
    pub places_are : HasPlaces edition t there places
    pub is_made : kept ≡ with_line_ends 0 normal places
    pub reads : ReadsAlike edition kept normal
    pub settled : HasPlaces edition kept there places

  -- It is such a text; or there is none, and it is the normal one.
  abbrev pub IsKept : Text → Type 0
  IsKept kept = Keeps kept ⊎ ((kept ≡ normal) × ((made : Text) → Keeps made → ⊥))

-- ---- again

-- What is kept of a text with that tree and that normal form: it is read as the tree that the normal form is to be read
-- as, has the same normal form, and keeping it again changes nothing.
pub record IsKeptAgain (edition : Edition) (tree : BodyTree Text) (normal kept : Text) (tiles : List Tile) : Type 0
  where
    pub reads_as : tree_of kept tiles ≡ reread_tree edition tree
    pub same_normal : normal_text kept tiles ≡ normal
    pub settled : (again : Text) → IsKept edition kept normal again → again ≡ kept

-- This holds of a text without errors whose tree is safe to write.
abbrev pub KeepsAgain : Text → Type 0
KeepsAgain t =
    (edition : Edition) (tiles : List Tile) → Tiling edition t tiles → faults tiles ≡ [] →
    is_lossless edition (tree_of t tiles) ≡ true → (kept : Text) → IsKept edition t (normal_text t tiles) kept →
    (others : List Tile) → Tiling edition kept others →
    IsKeptAgain edition (tree_of t tiles) (normal_text t tiles) kept others
