use Rattle.std.proofs.Common.{◌≡◌, ◌-◌, length}
use Rattle.fluent_syntax_edits.proofs.EntryPlacesRead.{HasEntryPlacesBefore}
use Rattle.fluent_syntax_edits.proofs.entry_places.entry_places.Given as goal

abbrev pub invariant-loop-found : goal.invariant-loop-found
invariant-loop-found l =
    let t = l.initial.tiles.source.bytes.now in
    record {
      text : l.tiles.source.bytes.now ≡ t;
      edition : l.tiles.edition ≡ l.initial.tiles.edition;
      read : HasEntryPlacesBefore l.initial.tiles.edition t l.tiles.ptr l.entry_places.items l.last;
    }

abbrev pub decreases-loop-found : goal.decreases-loop-found
decreases-loop-found l = length l.initial.tiles.source.bytes.now - l.tiles.ptr
