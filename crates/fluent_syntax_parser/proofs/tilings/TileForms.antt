-- What there is at a place: an entry, or junk with its error.
use Rattle.std.proofs.Common.{◌≡◌, ℕ, ◌<◌, ◌≤◌, List, length, Some, None, refl, sym, subst, arith}
use Rattle.fluent_syntax_tree.specs.Entry.{EntryTree, junk}
use Rattle.fluent_syntax_tree.specs.declared.edition.Edition.{Edition}
use Rattle.fluent_syntax_tree.specs.declared.errors.ParserError.{ParserError}
use Rattle.fluent_syntax_tree.specs.declared.spans.Span.{Span}
use Rattle.fluent_syntax_grammar.specs.Construct.{Read}
use Rattle.fluent_syntax_grammar.specs.Grammar.{family, within}
use Rattle.fluent_syntax_grammar.specs.Tiling.{entry_in, Tile, JunkEnd, failing_place, TileAt, reads, refuses}
use Rattle.fluent_syntax_grammar.proofs.Boundaries.{places_in_text_are_boundaries}
use Rattle.fluent_syntax_grammar.proofs.SoundStrings.{InText}
use Rattle.fluent_syntax_grammar.proofs.SoundTiling.{refused_entry_has_entry_fault, tile_at_place_is_ended_tile}
use Rattle.fluent_syntax_grammar.proofs.IncludedEntries.{entry_is_included}
use Rattle.fluent_syntax_grammar.proofs.Nesting.{within_family}
use Rattle.fluent_syntax_parser.specs.Faults.{fault_of, refused_as}
use Rattle.fluent_syntax_parser.specs.Outcomes.{IsRefusedAs, kind_at, from_of, to_of}
use Rattle.fluent_syntax_parser.specs.Rest.{GivesTile}
use Rattle.fluent_syntax_parser.specs.declared.fault.Fault.{Fault}
use Rattle.fluent_syntax_parser.specs.declared.fault.Fault.TheVariants as fault
use Rattle.fluent_syntax_parser.specs.declared.fault.Refusal.{Refusal}

-- reading fails where the refusal says
fault_fails_at_its_place : (t : List ℕ) (f : Fault) (from place : ℕ) →
    failing_place (kind_at t f from place) (from_of f from place) (to_of f place) ≡ place
fault_fails_at_its_place t fault.MessageField from place = refl
fault_fails_at_its_place t f from place = refl

module _ (edition : Edition) (t : List ℕ) (i j : ℕ) (inside : i < length t) where
  pub tile_is_inside_text : (tile : Tile) → TileAt edition t i j tile → (i < j) × (j ≤ length t)
  tile_is_inside_text tile in_place =
      let ended =
      tile_at_place_is_ended_tile edition t (InText t) (places_in_text_are_boundaries t) i j tile
      (omega (arith, inside)) inside in_place in
      (ended.onward, ended.place)

  pub read_entry_gives_tile : (n : ℕ) (e : EntryTree Span) → entry_in edition t (within edition t n) i (Read e j) →
      GivesTile edition t n i j e None
  read_entry_gives_tile n e read = record { tile = _; in_place = reads read; entry = refl; errors = refl }

  module _ (n : ℕ) (r : Refusal) (refused : IsRefusedAs t (entry_in edition t (within edition t n)) i r) where
    pub refusal_is_in_text : r.place ≤ length t
    refusal_is_in_text =
        let same = fault_fails_at_its_place t r.fault r.from r.place in
        let here =
        refused_entry_has_entry_fault edition t (InText t) (places_in_text_are_boundaries t) i _ _ _
        (omega (arith, inside))
        ((entry_is_included edition t (within edition t n) (family edition t) (within_family edition t n)).part i _
        (refused _ _ _ (refl, refl, refl))) in
        omega (arith, same, here.in_text)

    pub refused_entry_gives_junk_tile : (error : ParserError) → JunkEnd t r.place j →
        fault_of error ≡ Some (refused_as t r (record { start = i; end = j })) →
        GivesTile edition t n i j (junk (record { start = i; end = j })) (Some error)
    refused_entry_gives_junk_tile error end stated =
        let there = subst (λ place. JunkEnd t place j) (sym (fault_fails_at_its_place t r.fault r.from r.place)) end in
        record {
          tile = _;
          in_place = refuses (refused _ _ _ (refl, refl, refl)) there;
          entry = refl;
          errors = rw stated refl;
        }
