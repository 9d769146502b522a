use Rattle.std.proofs.Common.{refl}
use Rattle.fluent_syntax_edits.proofs.reading.read.Goals as goal

pub returns-in-Ok-Ok : goal.returns-in-Ok-Ok
returns-in-Ok-Ok c =
    let (tiles, tiling, same) =
    rw (c.new.ensures, c.as_str.ensures.value, c.in-Ok-Ok.field-0-is) at c.in-Ok-Ok.ensures.tiling in record {
      tiles = tiles;
      tiling = tiling;
      tree = same.0;
      errors = rw (c.new-in-Ok-Ok.ensures.items, same.1) refl;
    }

pub returns-in-Ok-Err-Syntax : goal.returns-in-Ok-Err-Syntax
returns-in-Ok-Err-Syntax c =
    let (tiles, tiling, same) =
    rw (c.new.ensures, c.as_str.ensures.value, c.in-Ok-Err-Syntax.field-0-is, c.in-Ok-Err-Syntax.field-0-0-is)
    at c.in-Ok-Err-Syntax.ensures.tiling in
    rw (c.in-Ok-Err-Syntax.tree-is, c.in-Ok-Err-Syntax.errors-is)
    (record { tiles = tiles; tiling = tiling; tree = same.0; errors = same.1 })
