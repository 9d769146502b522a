use Rattle.std.proofs.Common.{ap, arith, ◌∙◌}
use Rattle.fluent_syntax_c.proofs.ValueRows.{value_rows_at_end_are_values_of_tiling, no_value_rows_are_before_start}
use Rattle.fluent_syntax_c.proofs.ValueRows.{value_rows_grow_by_tile_values}
use Rattle.fluent_syntax_c.proofs.values.value_rows.Goals as goal

pub loop-found-init : goal.loop-found-init
loop-found-init c = record {
  text = c.new-tiles.ensures.text;
  edition = c.new-tiles.ensures.edition;
  values = rw (c.new-tiles.ensures.start, c.new-rows.ensures.items)
      (no_value_rows_are_before_start c.args.edition c.args.text.now);
}

pub add_tile-requires : goal.add_tile-requires
add_tile-requires c =
    let inv = c.loop-found.invariant in
    let next = rw (inv.text, inv.edition, c.in-Ok-Some.field-0-is) at c.in-Ok-Some.ensures.next in
    omega (arith, next.inside)

pub loop-found-preserved : goal.loop-found-preserved
loop-found-preserved c =
    let inv = c.loop-found.invariant in
    let here = c.in-Ok-Some.ensures in
    let t = c.args.text.now in
    let next = rw (inv.text, inv.edition, c.in-Ok-Some.field-0-is) at here.next in
    record {
      text = ap (λ source. source.bytes.now) here.text ∙ inv.text;
      edition = here.edition ∙ inv.edition;
      values =
          value_rows_grow_by_tile_values c.args.edition t c.loop-found.tiles.ptr c.next_tile.new.self.ptr
          c.in-Ok-Some.found
          c.loop-found.rows.items c.add_tile.new.rows.items inv.values next
          c.in_ok-add_tile-in-Ok-Some.ensures;
    }

pub returns-in-Ok-None : goal.returns-in-Ok-None
returns-in-Ok-None c =
    let inv = c.loop-found.invariant in
    let block = rw (inv.text, inv.edition, c.in-Ok-None.field-0-is) at c.in-Ok-None.ensures.next in
    value_rows_at_end_are_values_of_tiling c.args.edition c.args.text.now c.loop-found.tiles.ptr c.loop-found.rows.items
    inv.values block
