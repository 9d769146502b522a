-- Where the entries of a text are, and which stretch of it an edit changes.
use Rattle.std.specs.Prelude.{◌≡◌, ℕ, ◌+◌, ◌==◌, ◌&&◌, Bool, true, false, List, [], ◌∷◌, length, if◌then◌else◌}
use Rattle.std.specs.Prelude.{Option, Some, None, Result, Ok, Err, nat_le, slice_get}
use Rattle.fluent_syntax_tree.specs.Entry.{EntryTree, message, term, comment, junk, regular, group, resource}
use Rattle.fluent_syntax_tree.specs.declared.edition.Edition.{Edition}
use Rattle.fluent_syntax_tree.specs.declared.spans.Span.{Span}
use Rattle.fluent_syntax_grammar.specs.Tiling.{Tile, Tiling, dropped, entry, refused}
use Rattle.fluent_syntax_parser.specs.PartRanges.{HasRanges}
use Rattle.fluent_syntax_parser.specs.declared.ranges.AttributeRanges.{AttributeRanges}
use Rattle.fluent_syntax_parser.specs.declared.ranges.EntryRanges.{EntryRanges}
use Rattle.fluent_syntax_edits.specs.Changes.{Change, replaces, inserts, removes, sets}
use Rattle.fluent_syntax_edits.specs.declared.fault.EditFault.{EditFault}
use Rattle.fluent_syntax_edits.specs.declared.fault.EditFault.TheVariants.{IsJunk, NoEntry, NoValue}
use Rattle.fluent_syntax_edits.specs.declared.entry_places.EntryPlace.{EntryPlace}
use Rattle.fluent_syntax_edits.specs.declared.entry_places.EntryKind.{EntryKind}
use Rattle.fluent_syntax_edits.specs.declared.entry_places.EntryKind.TheVariants.{Field, Comment, OtherComment, Junk}
use Rattle.fluent_syntax_edits.specs.declared.edited_ranges.ValueTarget.{ValueTarget}
use Rattle.fluent_syntax_edits.specs.declared.edited_ranges.ValueTarget.TheVariants.{Attribute, Value}

-- ---- the places of entries

abbrev pub kind_of : EntryTree Span → EntryKind
kind_of (message m) = Field
kind_of (term m) = Field
kind_of (comment regular content) = Comment
kind_of (comment group content) = OtherComment
kind_of (comment resource content) = OtherComment
kind_of (junk content) = Junk

-- where an entry is by itself
abbrev pub entry_place : Span → EntryTree Span → EntryPlace
entry_place s e = record { start = s.start; span = s; kind = kind_of e }

-- where a tile is; one that was dropped has no place
abbrev pub entry_place_of : Tile → EntryPlace
entry_place_of (entry s e) = entry_place s e
entry_place_of (refused f) = entry_place f.slice (junk f.slice)
entry_place_of dropped = let nowhere : Span = record { start = 0; end = 0 } in entry_place nowhere (junk nowhere)

abbrev pub is_junk : EntryKind → Bool
is_junk Junk = true
is_junk Field = false
is_junk Comment = false
is_junk OtherComment = false

abbrev pub is_comment : EntryKind → Bool
is_comment Comment = true
is_comment Field = false
is_comment OtherComment = false
is_comment Junk = false

abbrev pub is_field : EntryKind → Bool
is_field Field = true
is_field Comment = false
is_field OtherComment = false
is_field Junk = false

-- whether the first is a comment of level 1 that ends where the second, a message or a term, begins
abbrev pub attaches_to : EntryPlace → EntryPlace → Bool
attaches_to x y = is_comment x.kind && is_field y.kind && x.span.end == y.span.start

-- The place read last, and those of the tiles after it. A message or a term has one place with the comment that is
-- attached to it.
abbrev pub entry_places_after : Option EntryPlace → List Tile → List EntryPlace
entry_places_after None [] = []
entry_places_after (Some p) [] = p ∷ []
entry_places_after None (x ∷ tiles) = entry_places_after (Some (entry_place_of x)) tiles
entry_places_after (Some p) (x ∷ tiles) =
    if attaches_to p (entry_place_of x)
    then entry_places_after (Some (record (entry_place_of x) { start = p.start })) tiles
    else p ∷ entry_places_after (Some (entry_place_of x)) tiles

-- the places of the entries of the tree, in order
abbrev pub entry_places : List Tile → List EntryPlace
entry_places tiles = entry_places_after None tiles

-- These are the places of the text's entries.
abbrev pub HasEntryPlaces : Edition → List ℕ → List EntryPlace → Type 0
HasEntryPlaces edition t ps = (tiles : List Tile) × Tiling edition t tiles × (ps ≡ entry_places tiles)

-- ---- the stretch that changes

-- where what has that place begins, with its comment; after the last one the text's end
abbrev pub start_of : List ℕ → Option EntryPlace → ℕ
start_of t None = length t
start_of t (Some p) = p.start

-- from there up to the end, unless nothing or junk has that place
abbrev pub up_to : (end : ℕ) → Option EntryPlace → Result Span EditFault
up_to end None = Err NoEntry
up_to end (Some p) = if is_junk p.kind then Err (IsJunk p.span) else Ok (record { start = p.start; end = end })

-- the n-th entry with its comment, up to where what comes after it begins
abbrev pub entry_range : List ℕ → (n : ℕ) → List EntryPlace → Result Span EditFault
entry_range t n ps = up_to (start_of t (slice_get ps (n + 1))) (slice_get ps n)

-- the empty stretch before the n-th entry, or at the text's end
abbrev pub insertion : List ℕ → (n : ℕ) → List EntryPlace → Result Span EditFault
insertion t n ps =
    if nat_le n (length ps)
    then Ok (record { start = start_of t (slice_get ps n); end = start_of t (slice_get ps n) })
    else Err NoEntry

-- where a message or a term begins, after its comment
abbrev pub field_by : EntryKind → Span → Result ℕ EditFault
field_by Field s = Ok s.start
field_by Junk s = Err (IsJunk s)
field_by Comment s = Err NoValue
field_by OtherComment s = Err NoValue

abbrev pub field_start : Option EntryPlace → Result ℕ EditFault
field_start None = Err NoEntry
field_start (Some p) = field_by p.kind p.span

-- where the target is, by where the parts of a message or a term are
abbrev pub attribute_value : Option AttributeRanges → Result Span EditFault
attribute_value None = Err NoValue
attribute_value (Some x) = Ok x.value

abbrev pub own_value : Option Span → Result Span EditFault
own_value None = Err NoValue
own_value (Some s) = Ok s

abbrev pub target_in : ValueTarget → Option EntryRanges → Result Span EditFault
target_in target None = Err NoValue
target_in Value (Some x) = own_value x.value
target_in (Attribute n) (Some x) = attribute_value (slice_get x.attributes.items n)

-- the target of the message or the term that begins there
abbrev pub TargetAt : Edition → List ℕ → ValueTarget → Result ℕ EditFault → Result Span EditFault → Type 0
TargetAt edition t target (Err fault) result = result ≡ Err fault
TargetAt edition t target (Ok start) result =
    (x : Option EntryRanges) × HasRanges edition t start x × (result ≡ target_in target x)

-- The stretch that the change of the n-th entry is made in, by the places of the entries, or why there is none.
abbrev pub RangeBy : Edition → List ℕ → (n : ℕ) → Change → List EntryPlace → Result Span EditFault → Type 0
RangeBy edition t n (replaces e) ps result = result ≡ entry_range t n ps
RangeBy edition t n (inserts e) ps result = result ≡ insertion t n ps
RangeBy edition t n removes ps result = result ≡ entry_range t n ps
RangeBy edition t n (sets target v) ps result = TargetAt edition t target (field_start (slice_get ps n)) result

-- The same, by the tiles of the text.
pub record RangeOf (edition : Edition) (t : List ℕ) (n : ℕ) (change : Change) (result : Result Span EditFault) :
    Type 0 where
  pub tiles : List Tile
  pub tiling : Tiling edition t tiles
  pub by : RangeBy edition t n change (entry_places tiles) result
