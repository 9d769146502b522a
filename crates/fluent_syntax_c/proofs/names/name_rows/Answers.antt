use Rattle.std.proofs.Common.{◌≡◌, ◌++◌, length, ap, arith, subst, sym, ◌∙◌}
use Rattle.fluent_syntax_tree.specs.Every.{entry_every}
use Rattle.fluent_syntax_tree.specs.Spans.{IsTextRange}
use Rattle.fluent_syntax_parser.specs.Rest.{tree_of}
use Rattle.fluent_syntax_c.specs.Names.{entry_rows}
use Rattle.fluent_syntax_c.proofs.NameRows.{name_rows_at_end_are_names_of_tiles, no_name_rows_are_before_start}
use Rattle.fluent_syntax_c.proofs.NameRows.{name_rows_grow_by_entry_rows, found_entry_has_parts_in_text}
use Rattle.fluent_syntax_c.proofs.names.name_rows.Goals as goal

pub loop-found-init : goal.loop-found-init
loop-found-init c = record {
  text = c.new-tiles.ensures.text;
  edition = c.new-tiles.ensures.edition;
  positions = c.new-positions.ensures;
  names = rw (c.new-tiles.ensures.start, c.new-rows.ensures.items)
      (no_name_rows_are_before_start c.args.edition c.args.text.now c.utf8.text);
}

pub add_tile-requires : goal.add_tile-requires
add_tile-requires c =
    let inv = c.loop-found.invariant in
    let t = c.args.text.now in
    let next = rw (inv.text, inv.edition, c.in-Ok-Some.field-0-is) at c.in-Ok-Some.ensures.next in
    let parts =
    found_entry_has_parts_in_text c.args.edition t c.utf8.text c.loop-found.tiles.ptr c.next_tile.new.self.ptr
    c.in-Ok-Some.found
    c.loop-found.rows.items inv.names next in
    subst (λ u. entry_every (IsTextRange u) (tree_of c.in-Ok-Some.found.entry)) (sym inv.positions) parts

pub loop-found-preserved : goal.loop-found-preserved
loop-found-preserved c =
    let inv = c.loop-found.invariant in
    let here = c.in-Ok-Some.ensures in
    let t = c.args.text.now in
    let next = rw (inv.text, inv.edition, c.in-Ok-Some.field-0-is) at here.next in
    let rows = c.loop-found.rows in
    let found = c.in-Ok-Some.found in
    let counted : rows.len ≡ length rows.items = omega (arith, rows.ok.0) in
    let added =
    c.in_ok-add_tile-in-Ok-Some.ensures.rows
    ∙ ap (λ u. rows.items ++ entry_rows u rows.len found.span (tree_of found.entry)) inv.positions
    ∙ ap (λ n. rows.items ++ entry_rows t n found.span (tree_of found.entry)) counted in
    record {
      text = ap (λ source. source.bytes.now) here.text ∙ inv.text;
      edition = here.edition ∙ inv.edition;
      positions = c.in_ok-add_tile-in-Ok-Some.ensures.text ∙ inv.positions;
      names =
          name_rows_grow_by_entry_rows c.args.edition t c.utf8.text c.loop-found.tiles.ptr c.next_tile.new.self.ptr
          found rows.items
          inv.names next c.add_tile.new.rows.items added;
    }

pub returns-in-Ok-None : goal.returns-in-Ok-None
returns-in-Ok-None c =
    let inv = c.loop-found.invariant in
    let block = rw (inv.text, inv.edition, c.in-Ok-None.field-0-is) at c.in-Ok-None.ensures.next in
    name_rows_at_end_are_names_of_tiles c.args.edition c.args.text.now c.loop-found.tiles.ptr c.loop-found.rows.items
    inv.names block
