-- A comment and what comes after it.
use Rattle.std.proofs.Common.{◌≡◌, ℕ, ◌<◌, Bool, true, false, List, ◌∷◌, length, Option, Some, None, refl, sym, ◌∙◌, ap}
use Rattle.std.proofs.Common.{subst}
use Rattle.std.specs.Prelude.{◌==◌, if◌then◌else◌}
use Rattle.fluent_syntax_tree.specs.Entry.{EntryTree, comment, regular}
use Rattle.fluent_syntax_tree.specs.declared.edition.Edition.{Edition}
use Rattle.fluent_syntax_tree.specs.declared.spans.Span.{Span}
use Rattle.fluent_syntax_grammar.specs.Body.{body, attached}
use Rattle.fluent_syntax_grammar.specs.Construct.{Read}
use Rattle.fluent_syntax_grammar.specs.Places.{BlankBlock}
use Rattle.fluent_syntax_grammar.specs.Tiling.{Tile, entry, entry_at, Tiled, done, next, TileAt, reads, refuses}
use Rattle.fluent_syntax_grammar.proofs.Facts.{same_by_test, number_eq_self}
use Rattle.fluent_syntax_grammar.proofs.Functional.{blank_block_ends_at_one_place}
use Rattle.fluent_syntax_grammar.proofs.FunctionalEntries.{entry_is_functional}
use Rattle.fluent_syntax_parser.specs.Outcomes.{IsRefusedAs}
use Rattle.fluent_syntax_parser.specs.Rest.{Attaches}
use Rattle.fluent_syntax_parser.specs.declared.fault.Refusal.{Refusal}

if_of_none_is_none : {X : Type 0} (b : Bool) (o : Option X) → (b ≡ true → o ≡ None) → (if b then o else None) ≡ None
if_of_none_is_none true o none = none refl
if_of_none_is_none false o none = refl

module _ (edition : Edition) (t : List ℕ) (content : List Span) (ptr : ℕ) where
  -- no entry that begins at the place can have the comment
  abbrev pub AttachesNot : Type 0
  AttachesNot =
      BlankBlock t ptr ptr → (e : EntryTree Span) (j : ℕ) → entry_at edition t ptr (Read e j)
      → attached content e ≡ None

  body_keeps_comment_by_itself : AttachesNot → (i : ℕ) (tiles : List Tile) → Tiled t (TileAt edition t) ptr tiles →
      body (entry (record { start = i; end = ptr }) (comment regular content) ∷ tiles)
      ≡ comment regular content ∷ body tiles
  body_keeps_comment_by_itself none i tiles (done b) = refl
  body_keeps_comment_by_itself none i tiles (next {start = start} {end = end} b l (reads {e = e} read) m) =
      rw (if_of_none_is_none (ptr == start) (attached content e) (λ same.
      let here = sym (same_by_test ptr start same) in
      none (subst (BlankBlock t ptr) here b) e end (subst (λ k. entry_at edition t k (Read e end)) here read))) refl
  body_keeps_comment_by_itself none i tiles (next b l (refuses x end) m) = refl

  pub unattached_comment_attaches_to_nothing : (e : EntryTree Span) → e ≡ comment regular content → AttachesNot
      → Attaches edition t content ptr e ptr
  unattached_comment_attaches_to_nothing e same none = λ i entries errors rest. (
    rest.tiles,
    rest.tiled,
    body_keeps_comment_by_itself none i rest.tiles rest.tiled ∙ (ap (λ b. comment regular content ∷ b) rest.yields
        ∙ ap (λ x. x ∷ entries) (sym same)),
    rest.errors_are,
  )

  pub comment_attaches_to_next_entry : (e with_comment : EntryTree Span) (j : ℕ) → BlankBlock t ptr ptr →
      ptr < length t → entry_at edition t ptr (Read e j) → attached content e ≡ Some with_comment →
      Attaches edition t content ptr with_comment j
  comment_attaches_to_next_entry e with_comment j block inside read same = λ i entries errors rest. (
    entry (record { start = ptr; end = j }) e ∷ rest.tiles,
    next block inside (reads read) rest.tiled,
    rw (number_eq_self ptr, same) (ap (λ b. with_comment ∷ b) rest.yields),
    rest.errors_are,
  )

  -- ---- where it is not attached

  pub attaches_not_after_blank : (start : ℕ) → BlankBlock t ptr start → (start ≡ ptr → ⊥) → AttachesNot
  attaches_not_after_blank start block other = λ none e j read. absurd (other
      (blank_block_ends_at_one_place.same ptr start ptr block none))

  pub comment_attaches_not_to_other_entry : (e : EntryTree Span) (j : ℕ) → entry_at edition t ptr (Read e j)
      → attached content e ≡ None → AttachesNot
  comment_attaches_not_to_other_entry e j read none = λ block x k there.
      let same = entry_is_functional edition t in
      let equal : Read e j ≡ Read x k = same.same ptr (Read e j) (Read x k) read there in
      let e_is_x : e ≡ x = cc in
      rw (← e_is_x) none

  pub comment_attaches_not_to_refused_entry : (r : Refusal) → IsRefusedAs t (entry_at edition t) ptr r → AttachesNot
  comment_attaches_not_to_refused_entry r refused = λ block x k there.
      let same = entry_is_functional edition t in
      let equal = same.same ptr (Read x k) _ there (refused _ _ _ (refl, refl, refl)) in
      cc
