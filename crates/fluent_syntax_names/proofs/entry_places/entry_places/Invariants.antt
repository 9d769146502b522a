use Rattle.fluent_syntax_names.specs.EntryPlaces.{definition_named, entry_place, first_place_in, junk_named}
use Rattle.fluent_syntax_names.specs.FirstPlaces.{place_of}
use Rattle.fluent_syntax_names.proofs.EntryPlaces.{LeavesPlaces}
use Rattle.fluent_syntax_names.proofs.entry_places.entry_places.Given as goal

abbrev pub invariant-loop-mention : goal.invariant-loop-mention
invariant-loop-mention l = record {
  left : LeavesPlaces (definition_named l.text) l.mentions (first_place_in (definition_named l.text) l.mentions)
      (place_of l.places.table) l.mention-index;
}

abbrev pub invariant-loop-mention-2 : goal.invariant-loop-mention-2
invariant-loop-mention-2 l = record {
  left : LeavesPlaces (junk_named l.text) l.mentions (entry_place l.text l.mentions) (place_of l.places.table)
      l.mention-index;
}
