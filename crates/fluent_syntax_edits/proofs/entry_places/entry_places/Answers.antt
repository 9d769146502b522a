use Rattle.std.proofs.Common.{ap, ◌∙◌, ◌++◌, [], sym}
use Rattle.std.proofs.lemmas.List.{append-nil}
use Rattle.std.specs.Global.{Global}
use Rattle.std.proofs.Common.{Vec}
use Rattle.fluent_syntax_edits.specs.EntryPlaces.{entry_places_after}
use Rattle.fluent_syntax_edits.specs.declared.entry_places.EntryPlace.{EntryPlace}
use Rattle.fluent_syntax_edits.proofs.EntryPlacesRead.{places_read_to_end_are_entry_places, entry_places_grow_by_tile}
use Rattle.fluent_syntax_edits.proofs.entry_places.entry_places.Goals as goal
use Rattle.fluent_syntax_edits.proofs.entry_places.entry_places.Goals.{in-Some+in_ok-push-in-Ok-None, in_default}

pub loop-found-preserved : goal.loop-found-preserved
loop-found-preserved c =
    let inv = c.loop-found.invariant in
    let here = c.in-Ok-Some.ensures in
    let t = c.new-tiles.result.source.bytes.now in
    let ps = c.loop-found.entry_places.items in
    let next = rw (inv.text, inv.edition, c.in-Ok-Some.field-0-is) at here.next in
    record {
      text = ap (λ source. source.bytes.now) here.text ∙ inv.text;
      edition = here.edition ∙ inv.edition;
      read = entry_places_grow_by_tile c.new-tiles.result.edition t c.loop-found.tiles.ptr c.next_tile.new.self.ptr ps _
          c.loop-found.last _
          c.in-Ok-Some.found inv.read next
          (λ tile more place. c.in_ok-add_place-in-Ok-Some.ensures tile more (place ∙ sym c.entry_place.ensures));
    }

pub returns-in-Ok-None : goal.returns-in-Ok-None
returns-in-Ok-None c =
    let inv = c.loop-found.invariant in
    let here = c.in-Ok-None.ensures in
    let t = c.new-tiles.result.source.bytes.now in
    let edition = c.new-tiles.result.edition in
    let ps = c.loop-found.entry_places.items in
    let block = rw (inv.text, inv.edition, c.in-Ok-None.field-0-is) at here.next in
    let all = places_read_to_end_are_entry_places edition t c.loop-found.tiles.ptr ps c.match-last.entry_places.items
    c.loop-found.last inv.read
    block in
    rw (← c.new-tiles.ensures.text, ← c.new-tiles.ensures.edition)
    (elim c.match-last.branch [
      | in-Some+in_ok-push-in-Ok-None w ↦
          all (ap (λ (v : Vec EntryPlace Global). v.items) w.entry_places-is ∙ (w.in_ok-push-in-Ok-None.ensures.items
          ∙ ap (λ last. ps ++ entry_places_after last []) (sym w.in-Some.is)))
      | in_default w ↦
          all (ap (λ (v : Vec EntryPlace Global). v.items) w.entry_places-is
          ∙ (sym (append-nil ps) ∙ ap (λ last. ps ++ entry_places_after last []) (sym w.in_default.is)))
    ])
