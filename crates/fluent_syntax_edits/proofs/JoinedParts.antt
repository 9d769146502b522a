-- The joined tree of one entry.
use Rattle.std.proofs.Common.{◌≡◌, List, [], ◌∷◌, ◌++◌, ◌∙◌, ap, map, sym}
use Rattle.fluent_syntax_tree.specs.Entry.{BodyTree, EntryTree, message, term, comment, junk}
use Rattle.fluent_syntax_grammar.specs.Joined.{joined_body}
use Rattle.fluent_syntax_grammar.specs.Written.{Text}
use Rattle.fluent_syntax_edits.specs.Changes.{joined_part}

module _ {X Y : Type 0} (view : X → Y) where
  last_of_one_is_it : (rest : List X) (own : X) (y : Y) → map view (rest ++ own ∷ []) ≡ y ∷ [] → view own ≡ y
  last_of_one_is_it [] own y e = cc
  last_of_one_is_it (r ∷ []) own y e = cc
  last_of_one_is_it (r ∷ s ∷ rest) own y e = cc

  one_is_not_none : (rest : List X) (own : X) → map view (rest ++ own ∷ []) ≡ [] → ⊥
  one_is_not_none [] own e = cc
  one_is_not_none (r ∷ rest) own e = cc

-- the last entry of a joined tree of one entry is that entry joined
pub last_joined_entry_is_joined_part : {X : Type 0} (view : X → EntryTree Text) (items rest : List X) (own : X)
    (before : BodyTree Text) (e : EntryTree Text) → items ≡ rest ++ own ∷ [] → map view items ≡ joined_body before →
    before ≡ e ∷ [] → view own ≡ joined_part e
last_joined_entry_is_joined_part view items rest own before e there joined alone =
    of e (ap (map view) (sym there) ∙ joined ∙ ap joined_body alone)
  where
    of : (e : EntryTree Text) → map view (rest ++ own ∷ []) ≡ joined_body (e ∷ []) → view own ≡ joined_part e
    of (message m) h = last_of_one_is_it view rest own _ h
    of (term m) h = last_of_one_is_it view rest own _ h
    of (comment level content) h = last_of_one_is_it view rest own _ h
    of (junk content) h = absurd (one_is_not_none view rest own h)
