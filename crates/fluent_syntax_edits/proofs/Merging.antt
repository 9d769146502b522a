-- Lists and entries with others put in.
use Rattle.std.proofs.Common.{◌≡◌, ◌∙◌, ◌<◌, ℕ, zero, suc, List, [], ◌∷◌, Contains, Err, Ok, Result, Some, ap}
use Rattle.std.proofs.Common.{arith, get_or, length, map, refl, slice_get, sym}
use Rattle.std.proofs.lemmas.List.{get_or-map, length-map}
use Rattle.std.specs.List.{insert}
use Rattle.std.specs.Prelude.{OnOk}
use Rattle.fluent_syntax_tree.specs.Entry.{AttributeTree, BodyTree, EntryTree, message, term, comment, junk}
use Rattle.fluent_syntax_grammar.specs.Written.{Text}
use Rattle.fluent_syntax_edits.specs.Additions.{IsAttributeOf, IsMerged, IsMergedEntry, added, attributes_of, kept}
use Rattle.fluent_syntax_edits.specs.Additions.{name_of, none, with_attributes}

module _ {X : Type 0} (IsOther : X → Type 0) where
  pub list_is_merged_with_none : (xs : List X) → IsMerged IsOther xs xs
  list_is_merged_with_none [] = none
  list_is_merged_with_none (x ∷ xs) = kept (list_is_merged_with_none xs)

  -- another one comes at any place
  pub inserting_keeps_merged : (merged own : List X) (place : ℕ) (x : X) → IsMerged IsOther own merged → IsOther x →
      IsMerged IsOther own (insert merged place x)
  inserting_keeps_merged [] own zero x is other = added other is
  inserting_keeps_merged (y ∷ merged) own zero x is other = added other is
  inserting_keeps_merged [] own (suc place) x is other = added other is
  inserting_keeps_merged (y ∷ merged) (_ ∷ own) (suc place) x (kept is) other =
      kept (inserting_keeps_merged merged own place x is other)
  inserting_keeps_merged (y ∷ merged) own (suc place) x (added first is) other =
      added first (inserting_keeps_merged merged own place x is other)

  pub merging_twice_merges : (merged between own : List X) → IsMerged IsOther own between →
      IsMerged IsOther between merged → IsMerged IsOther own merged
  merging_twice_merges [] [] own is none = is
  merging_twice_merges [] (x ∷ between) own is more = elim more [ ]
  merging_twice_merges (x ∷ merged) between own is (added other more) =
      added other (merging_twice_merges merged between own is more)
  merging_twice_merges (x ∷ merged) (_ ∷ between) (_ ∷ own) (kept is) (kept more) =
      kept (merging_twice_merges merged between own is more)
  merging_twice_merges (x ∷ merged) (_ ∷ between) own (added other is) (kept more) =
      added other (merging_twice_merges merged between own is more)

-- with others of more
pub merged_with_few_is_merged_with_more : {X : Type 0} (Few More : X → Type 0) (merged own : List X) →
    ((x : X) → Few x → More x) → IsMerged Few own merged → IsMerged More own merged
merged_with_few_is_merged_with_more Few More [] [] more none = none
merged_with_few_is_merged_with_more Few More [] (x ∷ own) more is = elim is [ ]
merged_with_few_is_merged_with_more Few More (x ∷ merged) (_ ∷ own) more (kept is) =
    kept (merged_with_few_is_merged_with_more Few More merged own more is)
merged_with_few_is_merged_with_more Few More (x ∷ merged) own more (added few is) =
    added (more x few) (merged_with_few_is_merged_with_more Few More merged own more is)

pub image_of_item_is_contained : {X Y : Type 0} (f : X → Y) (xs : List X) (i : ℕ) (x : X) → i < length xs →
    x ≡ get_or xs i x → Contains (map f xs) (f x)
image_of_item_is_contained f xs i x l at =
    (i, omega (arith, l, length-map xs f), get_or-map f xs i x (f x) l ∙ ap f (sym at))

module _ (entries : BodyTree Text) where
  pub entry_is_merged_with_none : (e : EntryTree Text) → IsMergedEntry entries e e
  entry_is_merged_with_none e = record {
    attributes = attributes_of e;
    is = same e;
    merge = list_is_merged_with_none (IsAttributeOf entries (name_of e)) (attributes_of e);
  }
    where
      same : (e : EntryTree Text) → e ≡ with_attributes (attributes_of e) e
      same (message m) = refl
      same (term m) = refl
      same (comment level lines) = refl
      same (junk content) = refl

  pub entry_is_merged_with_others : (number : ℕ) (own other : EntryTree Text) (attributes : List (AttributeTree Text)) →
      slice_get entries number ≡ Some other → name_of other ≡ name_of own →
      IsMerged (Contains (attributes_of other)) (attributes_of own) attributes →
      IsMergedEntry entries own (with_attributes attributes own)
  entry_is_merged_with_others number own other attributes there same is = record {
    attributes = attributes;
    is = refl;
    merge = merged_with_few_is_merged_with_more _ _ _ _
        (λ a has. record { number = number; entry = other; there = there; named = same; has = has }) is;
  }

  pub merging_entry_twice_merges : (own between merged : EntryTree Text) → IsMergedEntry entries own between →
      IsMergedEntry entries between merged → IsMergedEntry entries own merged
  merging_entry_twice_merges own between merged first more =
      of own first.attributes first.merge (rw first.is at more)
    where
      of : (own : EntryTree Text) (attributes : List (AttributeTree Text)) →
          IsMerged (IsAttributeOf entries (name_of own)) (attributes_of own) attributes →
          IsMergedEntry entries (with_attributes attributes own) merged → IsMergedEntry entries own merged
      of (message m) attributes is then = record {
        attributes = then.attributes;
        is = then.is;
        merge = merging_twice_merges _ _ _ _ is then.merge;
      }
      of (term m) attributes is then = record {
        attributes = then.attributes;
        is = then.is;
        merge = merging_twice_merges _ _ _ _ is then.merge;
      }
      of (comment level lines) attributes is then = then
      of (junk content) attributes is then = then

module _ (own other new : EntryTree Text) where
  abbrev IsMergedWithOther : Type 0
  IsMergedWithOther =
      (theirs : BodyTree Text) (number : ℕ) → slice_get theirs number ≡ Some other → IsMergedEntry theirs own new

  pub same_entry_is_merged_where_ok : {A E : Type 0} (r : Result A E) → new ≡ own → OnOk r IsMergedWithOther
  same_entry_is_merged_where_ok (Ok x) same = λ theirs number there. rw same (entry_is_merged_with_none theirs own)
  same_entry_is_merged_where_ok (Err e) same = tt

  pub others_are_merged_where_ok : {A E : Type 0} (r : Result A E) (attributes : List (AttributeTree Text)) →
      new ≡ with_attributes attributes own → name_of other ≡ name_of own →
      OnOk r (IsMerged (Contains (attributes_of other)) (attributes_of own) attributes) → OnOk r IsMergedWithOther
  others_are_merged_where_ok (Ok x) attributes is same merge =
      λ theirs number there. rw is (entry_is_merged_with_others theirs number own other attributes there same merge)
  others_are_merged_where_ok (Err e) attributes is same merge = tt
