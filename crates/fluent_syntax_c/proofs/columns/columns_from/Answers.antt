use Rattle.std.proofs.Common.{arith}
use Rattle.fluent_syntax_c.specs.Columns.{characters, utf16_units}
use Rattle.fluent_syntax_c.proofs.LineStarts.{byte_counts_at_most_two_characters, range_is_counted, count_fits_one_more}
use Rattle.fluent_syntax_c.proofs.LineStarts.{byte_has_at_most_two_utf16_units}
use Rattle.fluent_syntax_c.proofs.columns.columns_from.Goals as goal

pub overflow_add-column_utf16 : goal.overflow_add-column_utf16
overflow_add-column_utf16 c =
    let known = c.requires.on_line in
    let fits =
    count_fits_one_more utf16_units c.args.text.now c.as_bytes.result.now c.args.start c.args.from.byte c.args.byte
    c.loop-byte.byte-index _ c.args.from.column_utf16 c.loop-byte.column_utf16 c.utf16_units-column_utf16.result
    byte_has_at_most_two_utf16_units c.requires.short known.beyond c.requires.before c.requires.in_text
    c.loop-byte-test.true
    known.units_are c.loop-byte.invariant.units c.utf16_units-column_utf16.ensures in
    omega (arith, fits)

pub overflow_add-column_characters : goal.overflow_add-column_characters
overflow_add-column_characters c =
    let known = c.requires.on_line in
    let fits =
    count_fits_one_more characters c.args.text.now c.as_bytes.result.now c.args.start c.args.from.byte c.args.byte
    c.loop-byte.byte-index _ c.args.from.column_characters c.loop-byte.column_characters
    c.characters-column_characters.result byte_counts_at_most_two_characters c.requires.short known.beyond
    c.requires.before
    c.requires.in_text c.loop-byte-test.true known.characters_are c.loop-byte.invariant.characters
    c.characters-column_characters.ensures in
    omega (arith, fits)

pub returns-clause-utf16 : goal.returns-clause-utf16
returns-clause-utf16 c =
    let known = c.requires.on_line in
    range_is_counted utf16_units c.args.text.now c.as_bytes.result.now c.args.start c.args.from.byte c.args.byte
    c.loop-byte.byte-index c.args.from.column_utf16 c.loop-byte.column_utf16 c.as_bytes.ensures.value known.beyond
    c.requires.before c.loop-byte-test.false known.units_are c.loop-byte.invariant.units

pub returns-clause-characters : goal.returns-clause-characters
returns-clause-characters c =
    let known = c.requires.on_line in
    range_is_counted characters c.args.text.now c.as_bytes.result.now c.args.start c.args.from.byte c.args.byte
    c.loop-byte.byte-index c.args.from.column_characters c.loop-byte.column_characters c.as_bytes.ensures.value
    known.beyond c.requires.before c.loop-byte-test.false known.characters_are c.loop-byte.invariant.characters
