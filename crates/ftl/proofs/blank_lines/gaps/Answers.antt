use Rattle.std.proofs.Common.{ap, ◌∙◌, sym}
use Rattle.ftl.proofs.GapsRead.{gaps_before_end_are_all, gaps_grow_by_tile}
use Rattle.ftl.proofs.blank_lines.gaps.Goals as goal

pub loop-found-preserved : goal.loop-found-preserved
loop-found-preserved c =
    let inv = c.loop-found.invariant in
    let here = c.in-Ok-Some.ensures in
    let t = c.args.text.now in
    let edition = c.args.edition in
    let next = rw (inv.text, inv.edition, c.in-Ok-Some.field-0-is) at here.next in
    record {
      text = ap (λ source. source.bytes.now) here.text ∙ inv.text;
      edition = here.edition ∙ inv.edition;
      read = gaps_grow_by_tile edition t c.loop-found.tiles.ptr c.next_tile.new.self.ptr c.loop-found.gaps.items _
          c.loop-found.last _ c.in-Ok-Some.found inv.read next
          (λ tile more place. c.in_ok-last-in-Ok-Some.ensures tile more (place ∙ sym c.tile_place.ensures));
    }

pub returns-in-Ok-None : goal.returns-in-Ok-None
returns-in-Ok-None c =
    let inv = c.loop-found.invariant in
    let block = rw (inv.text, inv.edition, c.in-Ok-None.field-0-is) at c.in-Ok-None.ensures.next in
    gaps_before_end_are_all c.args.edition c.args.text.now c.loop-found.tiles.ptr c.loop-found.gaps.items
    c.loop-found.last inv.read
    block
