use Rattle.std.proofs.Common.{arith, ap, refl}
use Rattle.fluent_syntax_c.proofs.LineStarts.{column_is_at_most_place_plus_one, last_position_is_on_line}
use Rattle.fluent_syntax_c.proofs.columns.start_on_line.Goals as goal

pub overflow_sub-last-then-last-byte : goal.overflow_sub-last-then-last-byte
overflow_sub-last-then-last-byte c =
    let placed = c.requires.placed in
    let inside = column_is_at_most_place_plus_one c.args.text.now c.args.last.byte placed.within in
    let same = ap (λ place. place.column) placed.position_is in
    omega (arith, inside, same)

pub returns-then-last-start-clause-on_line : goal.returns-then-last-start-clause-on_line
returns-then-last-start-clause-on_line c =
    last_position_is_on_line c.args.text.now c.args.last c.args.start _ c.requires.placed c.if-last-start.true refl refl
    refl
