-- What the tiling without comments gives is what the tiling gives, without its comments.
use Rattle.std.proofs.Common.{◌≡◌, List, [], ◌∷◌, ◌++◌, Option, Some, None, Bool, true, false, refl, sym, ◌∙◌, ap}
use Rattle.std.proofs.Common.{append-nil}
use Rattle.std.specs.Prelude.{◌==◌, if◌then◌else◌}
use Rattle.std.specs.List.{flat_map}
use Rattle.fluent_syntax_tree.specs.Entry.{EntryTree, message, term, comment, junk, regular, group, resource, BodyTree}
use Rattle.fluent_syntax_tree.specs.Every.{list_every}
use Rattle.fluent_syntax_grammar.specs.Tiling.{Tile, entry, refused, dropped}
use Rattle.fluent_syntax_grammar.specs.Body.{faults, attached, attached_entry, alone, or_attached, body}
use Rattle.fluent_syntax_grammar.specs.UniqueReading.{bare, without_comments, named, messages_and_terms}
use Rattle.fluent_syntax_tree.specs.declared.spans.Span.{Span}
use Rattle.fluent_syntax_grammar.proofs.Aligned.{Aligned, nothing, both, comment_left, dropped_right, junk_left}
use Rattle.fluent_syntax_grammar.proofs.Aligned.{junk_both}
use Rattle.fluent_syntax_grammar.proofs.Facts.{flat_map_of_append}

-- what a tile gives without comments
abbrev pub bare_tile : Tile → BodyTree Span
bare_tile (entry s e) = bare e
bare_tile (refused f) = junk f.slice ∷ []
bare_tile dropped = []

abbrev pub bare_tiles : List Tile → BodyTree Span
bare_tiles = flat_map bare_tile

-- ---- the tiling

alone_is_bare_tile : (x : Tile) → without_comments (alone x) ≡ bare_tile x
alone_is_bare_tile (entry s e) = append-nil (bare e)
alone_is_bare_tile (refused f) = refl
alone_is_bare_tile dropped = refl

attached_is_bare : (content : List Span) (e : EntryTree Span) (o : Option (EntryTree Span)) → attached content e ≡ o →
    (h : EntryTree Span) → o ≡ Some h → bare h ≡ bare e
attached_is_bare content (message m) o p h q = let same : message (record m { comment = Some content }) ≡ h = cc in
    ap bare (sym same)
attached_is_bare content (term m) o p h q = let same : term (record m { comment = Some content }) ≡ h = cc in
    ap bare (sym same)
attached_is_bare content (comment level c) o p h q = cc
attached_is_bare content (junk s) o p h q = cc

attached_if_stays_bare : (b : Bool) (content : List Span) (e h : EntryTree Span)
    → (if b then attached content e else None) ≡ Some h →
    bare h ≡ bare e
attached_if_stays_bare true content e h p = attached_is_bare content e (attached content e) refl h p
attached_if_stays_bare false content e h p = cc

attached_entry_is_bare_as_its_tile : (x y : Tile) (h : EntryTree Span) → attached_entry x y ≡ Some h →
    (bare_tile x ≡ []) × (bare h ≡ bare_tile y)
attached_entry_is_bare_as_its_tile (entry s (comment regular c)) (entry r e) h p =
    (refl, attached_if_stays_bare (s.end == r.start) c e h p)
attached_entry_is_bare_as_its_tile (entry s (comment regular c)) (refused f) h p = cc
attached_entry_is_bare_as_its_tile (entry s (comment regular c)) dropped h p = cc
attached_entry_is_bare_as_its_tile (entry s (comment group c)) y h p = cc
attached_entry_is_bare_as_its_tile (entry s (comment resource c)) y h p = cc
attached_entry_is_bare_as_its_tile (entry s (message m)) y h p = cc
attached_entry_is_bare_as_its_tile (entry s (term m)) y h p = cc
attached_entry_is_bare_as_its_tile (entry s (junk x)) y h p = cc
attached_entry_is_bare_as_its_tile (refused f) y h p = cc
attached_entry_is_bare_as_its_tile dropped y h p = cc

joined_is_bare_tiles : (x y : Tile) (others after : BodyTree Span) (tiles : List Tile) (o : Option (EntryTree Span)) →
    attached_entry x y ≡ o →
    without_comments others ≡ bare_tile y ++ bare_tiles tiles → without_comments after ≡ bare_tiles tiles →
    without_comments (or_attached o (alone x) others after) ≡ bare_tile x ++ (bare_tile y ++ bare_tiles tiles)
joined_is_bare_tiles x y others after tiles None e p q =
    flat_map_of_append bare (alone x) others
    ∙ (ap (λ zs. zs ++ without_comments others) (alone_is_bare_tile x) ∙ ap (λ zs. bare_tile x ++ zs) p)
joined_is_bare_tiles x y others after tiles (Some h) e p q =
    let b = attached_entry_is_bare_as_its_tile x y h e in
    ap (λ zs. zs ++ without_comments after) b.1
    ∙ (ap (λ zs. bare_tile y ++ zs) q ∙ sym (ap (λ zs. zs ++ (bare_tile y ++ bare_tiles tiles)) b.0))

-- the body without comments is what the tiles give without comments
pub body_without_comments_is_of_bare_tiles : (xs : List Tile) → without_comments (body xs) ≡ bare_tiles xs
body_without_comments_is_of_bare_tiles [] = refl
body_without_comments_is_of_bare_tiles (x ∷ []) = alone_is_bare_tile x ∙ sym (append-nil (bare_tile x))
body_without_comments_is_of_bare_tiles (x ∷ y ∷ tiles) =
    joined_is_bare_tiles x y (body (y ∷ tiles)) (body tiles) tiles (attached_entry x y) refl
    (body_without_comments_is_of_bare_tiles (y ∷ tiles))
    (body_without_comments_is_of_bare_tiles tiles)

-- ---- the tiling without comments

-- no comment, and none attached
abbrev pub IsBare : EntryTree Span → Type 0
IsBare (message m) = m.comment ≡ None
IsBare (term m) = m.comment ≡ None
IsBare (comment level content) = ⊥
IsBare (junk s) = ⊥

abbrev pub IsBareTile : Tile → Type 0
IsBareTile (entry s e) = IsBare e
IsBareTile (refused f) = Unit {0}
IsBareTile dropped = Unit {0}

bare_tile_is_kept : (x : Tile) → IsBareTile x → alone x ≡ bare_tile x
bare_tile_is_kept (entry s (message m)) b = ap (λ c. message (record m { comment = c }) ∷ []) b
bare_tile_is_kept (entry s (term m)) b = ap (λ c. term (record m { comment = c }) ∷ []) b
bare_tile_is_kept (entry s (comment level c)) b = absurd b
bare_tile_is_kept (entry s (junk x)) b = absurd b
bare_tile_is_kept (refused f) b = refl
bare_tile_is_kept dropped b = refl

bare_tile_attaches_nothing : (x y : Tile) → IsBareTile x → attached_entry x y ≡ None
bare_tile_attaches_nothing (entry s (message m)) y b = refl
bare_tile_attaches_nothing (entry s (term m)) y b = refl
bare_tile_attaches_nothing (entry s (comment level c)) y b = absurd b
bare_tile_attaches_nothing (entry s (junk x)) y b = refl
bare_tile_attaches_nothing (refused f) y b = refl
bare_tile_attaches_nothing dropped y b = refl

pub body_of_bare_tiles_is_bare_tiles : (xs : List Tile) → list_every IsBareTile xs → body xs ≡ bare_tiles xs
body_of_bare_tiles_is_bare_tiles [] b = refl
body_of_bare_tiles_is_bare_tiles (x ∷ []) (b, c) = bare_tile_is_kept x b ∙ sym (append-nil (bare_tile x))
body_of_bare_tiles_is_bare_tiles (x ∷ y ∷ tiles) (b, c) =
    ap (λ o. or_attached o (alone x) (body (y ∷ tiles)) (body tiles)) (bare_tile_attaches_nothing x y b) ∙
    (ap (λ zs. zs ++ body (y ∷ tiles)) (bare_tile_is_kept x b)
    ∙ ap (λ zs. bare_tile x ++ zs) (body_of_bare_tiles_is_bare_tiles (y ∷ tiles) c))

-- ---- next to one another

pub aligned_keep_names : (xs ys : List Tile) → Aligned xs ys →
    messages_and_terms (bare_tiles ys) ≡ messages_and_terms (bare_tiles xs)
aligned_keep_names xs ys nothing = refl
aligned_keep_names xs ys (both {x = x} {xs = more} {ys = others} a) =
    flat_map_of_append named (bare_tile x) (bare_tiles others)
    ∙ (ap (λ zs. messages_and_terms (bare_tile x) ++ zs) (aligned_keep_names more others a)
    ∙ sym (flat_map_of_append named (bare_tile x) (bare_tiles more)))
aligned_keep_names xs ys (comment_left {xs = more} a) = aligned_keep_names more ys a
aligned_keep_names xs ys (dropped_right {ys = others} a) = aligned_keep_names xs others a
aligned_keep_names xs ys (junk_left {xs = more} a) = aligned_keep_names more ys a
aligned_keep_names xs ys (junk_both {xs = more} {ys = others} a) = aligned_keep_names more others a

pub aligned_is_faultless : (xs ys : List Tile) → Aligned xs ys → faults xs ≡ [] → faults ys ≡ []
aligned_is_faultless xs ys nothing e = refl
aligned_is_faultless xs ys (both {x = entry s x} {xs = more} {ys = others} a) e = aligned_is_faultless more others a e
aligned_is_faultless xs ys (both {x = refused f} {xs = more} {ys = others} a) e = cc
aligned_is_faultless xs ys (both {x = dropped} {xs = more} {ys = others} a) e = aligned_is_faultless more others a e
aligned_is_faultless xs ys (comment_left {xs = more} a) e = aligned_is_faultless more ys a e
aligned_is_faultless xs ys (dropped_right {ys = others} a) e = aligned_is_faultless xs others a e
aligned_is_faultless xs ys (junk_left {xs = more} a) e = cc
aligned_is_faultless xs ys (junk_both a) e = cc

pub aligned_is_equally_bare : (xs ys : List Tile) → Aligned xs ys → faults xs ≡ [] → bare_tiles ys ≡ bare_tiles xs
aligned_is_equally_bare xs ys nothing e = refl
aligned_is_equally_bare xs ys (both {x = entry s x} {xs = more} {ys = others} a) e =
    ap (λ zs. bare x ++ zs) (aligned_is_equally_bare more others a e)
aligned_is_equally_bare xs ys (both {x = refused f} {xs = more} {ys = others} a) e = cc
aligned_is_equally_bare xs ys (both {x = dropped} {xs = more} {ys = others} a) e =
    aligned_is_equally_bare more others a e
aligned_is_equally_bare xs ys (comment_left {xs = more} a) e = aligned_is_equally_bare more ys a e
aligned_is_equally_bare xs ys (dropped_right {ys = others} a) e = aligned_is_equally_bare xs others a e
aligned_is_equally_bare xs ys (junk_left {xs = more} a) e = cc
aligned_is_equally_bare xs ys (junk_both a) e = cc
