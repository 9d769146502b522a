-- What a tiling gives: the body of a tree, and the errors.
use Rattle.std.specs.Prelude.{List, [], ◌∷◌, ◌++◌, Option, Some, None, ◌==◌, if◌then◌else◌}
use Rattle.fluent_syntax_tree.specs.Entry.{EntryTree, message, term, comment, junk, regular, BodyTree}
use Rattle.fluent_syntax_grammar.specs.Tiling.{Fault, Tile, entry, refused, dropped}
use Rattle.fluent_syntax_tree.specs.declared.spans.Span.{Span}

-- the errors, in order
abbrev pub faults : List Tile → List Fault
faults [] = []
faults (entry s e ∷ tiles) = faults tiles
faults (refused f ∷ tiles) = f ∷ faults tiles
faults (dropped ∷ tiles) = faults tiles

-- the entry with the comment, where it is a message or a term
abbrev pub attached : List Span → EntryTree Span → Option (EntryTree Span)
attached content (message m) = Some (message (record m { comment = Some content }))
attached content (term m) = Some (term (record m { comment = Some content }))
attached content _ = None

-- What two tiles give together: a comment of level 1 becomes the comment of a message or a term whose tile begins where
-- the comment's tile ends.
abbrev pub attached_entry : Tile → Tile → Option (EntryTree Span)
attached_entry (entry s (comment regular content)) (entry r e) = if s.end == r.start then attached content e else None
attached_entry x y = None

-- what a tile gives by itself
abbrev pub alone : Tile → List (EntryTree Span)
alone (entry s e) = e ∷ []
alone (refused f) = junk f.slice ∷ []
alone dropped = []

-- Two tiles that give an entry together, and what the tiles after them give; or what the first gives alone, and what
-- the others give.
abbrev pub or_attached : Option (EntryTree Span) → (first others after : List (EntryTree Span)) → List (EntryTree Span)
or_attached None first others after = first ++ others
or_attached (Some e) first others after = e ∷ after

-- the body of the tree that a tiling gives
abbrev pub body : List Tile → BodyTree Span
body [] = []
body (x ∷ []) = alone x
body (x ∷ y ∷ tiles) = or_attached (attached_entry x y) (alone x) (body (y ∷ tiles)) (body tiles)
