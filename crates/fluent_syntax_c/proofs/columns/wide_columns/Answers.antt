use Rattle.std.proofs.Common.{arith, refl}
use Rattle.fluent_syntax_c.specs.Columns.{characters, utf16_units}
use Rattle.fluent_syntax_c.proofs.LineStarts.{column_is_at_most_place_plus_one, sum_over_line_is_column}
use Rattle.fluent_syntax_c.proofs.columns.wide_columns.Goals as goal

pub overflow_sub-start-2 : goal.overflow_sub-start-2
overflow_sub-start-2 c =
    let inside = column_is_at_most_place_plus_one c.args.text.now c.args.byte c.requires.in_text in
    omega (arith, inside, c.requires.column)

pub returns-clause-utf16 : goal.returns-clause-utf16
returns-clause-utf16 c =
    sum_over_line_is_column c.args.text.now c.args.byte c.requires.in_text utf16_units c.args.column _ _
    c.requires.column refl
    c.columns_from.ensures.utf16

pub returns-clause-characters : goal.returns-clause-characters
returns-clause-characters c =
    sum_over_line_is_column c.args.text.now c.args.byte c.requires.in_text characters c.args.column _ _
    c.requires.column refl
    c.columns_from.ensures.characters
