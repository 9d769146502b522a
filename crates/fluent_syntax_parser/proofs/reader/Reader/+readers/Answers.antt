mod Inlines
mod Placeables
mod Selects
mod Arguments
mod Patterns
use Rattle.fluent_syntax_parser.proofs.reader.Reader.+readers.Goals as goal
use Rattle.fluent_syntax_parser.proofs.reader.Reader.+readers.Answers.Inlines as inlines
use Rattle.fluent_syntax_parser.proofs.reader.Reader.+readers.Answers.Placeables as placeables
use Rattle.fluent_syntax_parser.proofs.reader.Reader.+readers.Answers.Selects as selects
use Rattle.fluent_syntax_parser.proofs.reader.Reader.+readers.Answers.Arguments as arguments
use Rattle.fluent_syntax_parser.proofs.reader.Reader.+readers.Answers.Patterns as patterns

-- ---- inline expressions

pub add_term_reference-returns-in_err-start-clause-parses : goal.add_term_reference-returns-in_err-start-clause-parses
add_term_reference-returns-in_err-start-clause-parses = inlines.add_term_reference-returns-in_err-start-clause-parses

pub add_term_reference-returns-in_err-end-clause-parses : goal.add_term_reference-returns-in_err-end-clause-parses
add_term_reference-returns-in_err-end-clause-parses = inlines.add_term_reference-returns-in_err-end-clause-parses

pub add_term_reference-returns-in_err-attribute-clause-parses :
    goal.add_term_reference-returns-in_err-attribute-clause-parses
add_term_reference-returns-in_err-attribute-clause-parses =
    inlines.add_term_reference-returns-in_err-attribute-clause-parses

pub add_term_reference-returns-in_err-arguments-clause-parses :
    goal.add_term_reference-returns-in_err-arguments-clause-parses
add_term_reference-returns-in_err-arguments-clause-parses =
    inlines.add_term_reference-returns-in_err-arguments-clause-parses

pub add_term_reference-returns-clause-parses : goal.add_term_reference-returns-clause-parses
add_term_reference-returns-clause-parses = inlines.add_term_reference-returns-clause-parses

pub add_term_reference-returns-in_err-add_term_named-clause-parses :
    goal.add_term_reference-returns-in_err-add_term_named-clause-parses
add_term_reference-returns-in_err-add_term_named-clause-parses =
    inlines.add_term_reference-returns-in_err-add_term_named-clause-parses

pub add_reference-returns-in_err-end-clause-parses : goal.add_reference-returns-in_err-end-clause-parses
add_reference-returns-in_err-end-clause-parses = inlines.add_reference-returns-in_err-end-clause-parses

pub add_reference-returns-in_err-arguments-clause-parses : goal.add_reference-returns-in_err-arguments-clause-parses
add_reference-returns-in_err-arguments-clause-parses = inlines.add_reference-returns-in_err-arguments-clause-parses

pub add_reference-returns-clause-parses : goal.add_reference-returns-clause-parses
add_reference-returns-clause-parses = inlines.add_reference-returns-clause-parses

pub add_inner_placeable-wrap_last-requires : goal.add_inner_placeable-wrap_last-requires
add_inner_placeable-wrap_last-requires = inlines.add_inner_placeable-wrap_last-requires

pub add_inner_placeable-returns-in_err-end-clause-parses : goal.add_inner_placeable-returns-in_err-end-clause-parses
add_inner_placeable-returns-in_err-end-clause-parses = inlines.add_inner_placeable-returns-in_err-end-clause-parses

pub add_inner_placeable-returns-in_err-wrap_last-clause-parses :
    goal.add_inner_placeable-returns-in_err-wrap_last-clause-parses
add_inner_placeable-returns-in_err-wrap_last-clause-parses =
    inlines.add_inner_placeable-returns-in_err-wrap_last-clause-parses

pub add_inner_placeable-returns-clause-parses : goal.add_inner_placeable-returns-clause-parses
add_inner_placeable-returns-clause-parses = inlines.add_inner_placeable-returns-clause-parses

pub add_inline_expression-add_number-requires-clause-starts :
    goal.add_inline_expression-add_number-requires-clause-starts
add_inline_expression-add_number-requires-clause-starts =
    inlines.add_inline_expression-add_number-requires-clause-starts

pub add_inline_expression-returns-in-Quote-clause-parses : goal.add_inline_expression-returns-in-Quote-clause-parses
add_inline_expression-returns-in-Quote-clause-parses = inlines.add_inline_expression-returns-in-Quote-clause-parses

pub add_inline_expression-returns-in-Digit-clause-parses : goal.add_inline_expression-returns-in-Digit-clause-parses
add_inline_expression-returns-in-Digit-clause-parses = inlines.add_inline_expression-returns-in-Digit-clause-parses

pub add_inline_expression-returns-in-Dollar-clause-parses : goal.add_inline_expression-returns-in-Dollar-clause-parses
add_inline_expression-returns-in-Dollar-clause-parses = inlines.add_inline_expression-returns-in-Dollar-clause-parses

pub add_inline_expression-returns-in-Other-clause-parses : goal.add_inline_expression-returns-in-Other-clause-parses
add_inline_expression-returns-in-Other-clause-parses = inlines.add_inline_expression-returns-in-Other-clause-parses

-- ---- placeables and what is in them

pub add_placeable-returns-in_err-start-clause-parses : goal.add_placeable-returns-in_err-start-clause-parses
add_placeable-returns-in_err-start-clause-parses = placeables.add_placeable-returns-in_err-start-clause-parses

pub add_placeable-returns-then-nesting-eq0-clause-parses : goal.add_placeable-returns-then-nesting-eq0-clause-parses
add_placeable-returns-then-nesting-eq0-clause-parses = placeables.add_placeable-returns-then-nesting-eq0-clause-parses

pub add_placeable-returns-in_err-ptr-clause-parses : goal.add_placeable-returns-in_err-ptr-clause-parses
add_placeable-returns-in_err-ptr-clause-parses = placeables.add_placeable-returns-in_err-ptr-clause-parses

pub add_placeable-returns-in_err-end-clause-parses : goal.add_placeable-returns-in_err-end-clause-parses
add_placeable-returns-in_err-end-clause-parses = placeables.add_placeable-returns-in_err-end-clause-parses

pub add_placeable-returns-clause-parses : goal.add_placeable-returns-clause-parses
add_placeable-returns-clause-parses = placeables.add_placeable-returns-clause-parses

pub add_expression-returns-in_err-ptr-clause-parses : goal.add_expression-returns-in_err-ptr-clause-parses
add_expression-returns-in_err-ptr-clause-parses = placeables.add_expression-returns-in_err-ptr-clause-parses

pub add_expression-returns-then-is_arrow-clause-parses : goal.add_expression-returns-then-is_arrow-clause-parses
add_expression-returns-then-is_arrow-clause-parses = placeables.add_expression-returns-then-is_arrow-clause-parses

pub add_expression-returns-then-is_term_attribute-clause-parses :
    goal.add_expression-returns-then-is_term_attribute-clause-parses
add_expression-returns-then-is_term_attribute-clause-parses =
    placeables.add_expression-returns-then-is_term_attribute-clause-parses

pub add_expression-returns-clause-parses : goal.add_expression-returns-clause-parses
add_expression-returns-clause-parses = placeables.add_expression-returns-clause-parses

pub add_expression-last_inline-requires : goal.add_expression-last_inline-requires
add_expression-last_inline-requires = placeables.add_expression-last_inline-requires

pub add_expression-end_select-requires : goal.add_expression-end_select-requires
add_expression-end_select-requires = placeables.add_expression-end_select-requires

-- ---- selects and their variants

pub end_select-last_inline-requires : goal.end_select-last_inline-requires
end_select-last_inline-requires = selects.end_select-last_inline-requires

pub end_select-returns-in_err-start-clause-parses : goal.end_select-returns-in_err-start-clause-parses
end_select-returns-in_err-start-clause-parses = selects.end_select-returns-in_err-start-clause-parses

pub end_select-returns-in_err-end-clause-parses : goal.end_select-returns-in_err-end-clause-parses
end_select-returns-in_err-end-clause-parses = selects.end_select-returns-in_err-end-clause-parses

pub end_select-returns-in_err-add_variants-clause-parses : goal.end_select-returns-in_err-add_variants-clause-parses
end_select-returns-in_err-add_variants-clause-parses = selects.end_select-returns-in_err-add_variants-clause-parses

pub end_select-returns-clause-parses : goal.end_select-returns-clause-parses
end_select-returns-clause-parses = selects.end_select-returns-clause-parses

pub gather_variants-returns-then-star-clause-parses : goal.gather_variants-returns-then-star-clause-parses
gather_variants-returns-then-star-clause-parses = selects.gather_variants-returns-then-star-clause-parses

pub gather_variants-returns-then-has_default-clause-parses : goal.gather_variants-returns-then-has_default-clause-parses
gather_variants-returns-then-has_default-clause-parses = selects.gather_variants-returns-then-has_default-clause-parses

pub gather_variants-returns-then-not-bracket-clause-parses : goal.gather_variants-returns-then-not-bracket-clause-parses
gather_variants-returns-then-not-bracket-clause-parses = selects.gather_variants-returns-then-not-bracket-clause-parses

pub gather_variants-returns-in_err-key-clause-parses : goal.gather_variants-returns-in_err-key-clause-parses
gather_variants-returns-in_err-key-clause-parses = selects.gather_variants-returns-in_err-key-clause-parses

pub gather_variants-returns-in_err-next-clause-parses : goal.gather_variants-returns-in_err-next-clause-parses
gather_variants-returns-in_err-next-clause-parses = selects.gather_variants-returns-in_err-next-clause-parses

pub gather_variants-returns-in_err-value-clause-parses : goal.gather_variants-returns-in_err-value-clause-parses
gather_variants-returns-in_err-value-clause-parses = selects.gather_variants-returns-in_err-value-clause-parses

pub gather_variants-returns-in_default-clause-parses : goal.gather_variants-returns-in_default-clause-parses
gather_variants-returns-in_default-clause-parses = selects.gather_variants-returns-in_default-clause-parses

pub gather_variants-loop-starred-preserved : goal.gather_variants-loop-starred-preserved
gather_variants-loop-starred-preserved = selects.gather_variants-loop-starred-preserved

pub gather_variants-returns-in_err-add_variant-clause-parses :
    goal.gather_variants-returns-in_err-add_variant-clause-parses
gather_variants-returns-in_err-add_variant-clause-parses =
    selects.gather_variants-returns-in_err-add_variant-clause-parses

pub gather_variants-loop-starred-init : goal.gather_variants-loop-starred-init
gather_variants-loop-starred-init = selects.gather_variants-loop-starred-init

-- ---- argument lists

pub get_call_arguments-returns-then-not-bracket-clause-parses :
    goal.get_call_arguments-returns-then-not-bracket-clause-parses
get_call_arguments-returns-then-not-bracket-clause-parses =
    arguments.get_call_arguments-returns-then-not-bracket-clause-parses

pub get_call_arguments-returns-then-nesting-eq0-clause-parses :
    goal.get_call_arguments-returns-then-nesting-eq0-clause-parses
get_call_arguments-returns-then-nesting-eq0-clause-parses =
    arguments.get_call_arguments-returns-then-nesting-eq0-clause-parses

pub get_call_arguments-returns-in_err-arguments-clause-parses :
    goal.get_call_arguments-returns-in_err-arguments-clause-parses
get_call_arguments-returns-in_err-arguments-clause-parses =
    arguments.get_call_arguments-returns-in_err-arguments-clause-parses

pub get_call_arguments-returns-clause-parses : goal.get_call_arguments-returns-clause-parses
get_call_arguments-returns-clause-parses = arguments.get_call_arguments-returns-clause-parses

pub add_argument_value-returns-in_err-end-in-Quote-clause-parses :
    goal.add_argument_value-returns-in_err-end-in-Quote-clause-parses
add_argument_value-returns-in_err-end-in-Quote-clause-parses =
    arguments.add_argument_value-returns-in_err-end-in-Quote-clause-parses

pub add_argument_value-returns-in_ok-end-in-Quote-clause-parses :
    goal.add_argument_value-returns-in_ok-end-in-Quote-clause-parses
add_argument_value-returns-in_ok-end-in-Quote-clause-parses =
    arguments.add_argument_value-returns-in_ok-end-in-Quote-clause-parses

pub add_argument_value-returns-in_default : goal.add_argument_value-returns-in_default
add_argument_value-returns-in_default = arguments.add_argument_value-returns-in_default

pub get_arguments-last_inline-requires : goal.get_arguments-last_inline-requires
get_arguments-last_inline-requires = arguments.get_arguments-last_inline-requires

pub get_arguments-add_named-requires : goal.get_arguments-add_named-requires
get_arguments-add_named-requires = arguments.get_arguments-add_named-requires

pub get_arguments-add_positional-requires : goal.get_arguments-add_positional-requires
get_arguments-add_positional-requires = arguments.get_arguments-add_positional-requires

pub get_arguments-returns-then-place-self-clause-parses : goal.get_arguments-returns-then-place-self-clause-parses
get_arguments-returns-then-place-self-clause-parses = arguments.get_arguments-returns-then-place-self-clause-parses

pub get_arguments-returns-in_err-next-clause-parses : goal.get_arguments-returns-in_err-next-clause-parses
get_arguments-returns-in_err-next-clause-parses = arguments.get_arguments-returns-in_err-next-clause-parses

pub get_arguments-returns-then-not-is_new-clause-parses : goal.get_arguments-returns-then-not-is_new-clause-parses
get_arguments-returns-then-not-is_new-clause-parses = arguments.get_arguments-returns-then-not-is_new-clause-parses

pub get_arguments-skip_blank-start-requires : goal.get_arguments-skip_blank-start-requires
get_arguments-skip_blank-start-requires = arguments.get_arguments-skip_blank-start-requires

pub get_arguments-returns-in_err-end-in-Some-clause-parses : goal.get_arguments-returns-in_err-end-in-Some-clause-parses
get_arguments-returns-in_err-end-in-Some-clause-parses =
    arguments.get_arguments-returns-in_err-end-in-Some-clause-parses

pub get_arguments-returns-clause-parses : goal.get_arguments-returns-clause-parses
get_arguments-returns-clause-parses = arguments.get_arguments-returns-clause-parses

pub get_arguments-loop-noted-preserved-then-is_byte_at : goal.get_arguments-loop-noted-preserved-then-is_byte_at
get_arguments-loop-noted-preserved-then-is_byte_at = arguments.get_arguments-loop-noted-preserved-then-is_byte_at

pub get_arguments-returns-then-not-is_empty-clause-parses : goal.get_arguments-returns-then-not-is_empty-clause-parses
get_arguments-returns-then-not-is_empty-clause-parses = arguments.get_arguments-returns-then-not-is_empty-clause-parses

pub get_arguments-loop-noted-preserved : goal.get_arguments-loop-noted-preserved
get_arguments-loop-noted-preserved = arguments.get_arguments-loop-noted-preserved

pub get_arguments-returns-clause-within : goal.get_arguments-returns-clause-within
get_arguments-returns-clause-within = arguments.get_arguments-returns-clause-within

pub get_arguments-returns-in_err-add_named-in-Some-clause-parses :
    goal.get_arguments-returns-in_err-add_named-in-Some-clause-parses
get_arguments-returns-in_err-add_named-in-Some-clause-parses =
    arguments.get_arguments-returns-in_err-add_named-in-Some-clause-parses

pub get_arguments-returns-in_err-add_positional-in_default-clause-parses :
    goal.get_arguments-returns-in_err-add_positional-in_default-clause-parses
get_arguments-returns-in_err-add_positional-in_default-clause-parses =
    arguments.get_arguments-returns-in_err-add_positional-in_default-clause-parses

pub get_arguments-returns-in_err-is_new-in-Some-clause-parses :
    goal.get_arguments-returns-in_err-is_new-in-Some-clause-parses
get_arguments-returns-in_err-is_new-in-Some-clause-parses =
    arguments.get_arguments-returns-in_err-is_new-in-Some-clause-parses

pub get_arguments-loop-noted-init : goal.get_arguments-loop-noted-init
get_arguments-loop-noted-init = arguments.get_arguments-loop-noted-init

-- ---- patterns: their pieces, lines and layout

pub add_opening-returns-in-Some-clause-opens : goal.add_opening-returns-in-Some-clause-opens
add_opening-returns-in-Some-clause-opens = patterns.add_opening-returns-in-Some-clause-opens

pub add_opening-loop-elements-init : goal.add_opening-loop-elements-init
add_opening-loop-elements-init = patterns.add_opening-loop-elements-init

pub add_opening-loop-elements-preserved : goal.add_opening-loop-elements-preserved
add_opening-loop-elements-preserved = patterns.add_opening-loop-elements-preserved

pub add_opening-returns-in-Some-eq125-clause-opens : goal.add_opening-returns-in-Some-eq125-clause-opens
add_opening-returns-in-Some-eq125-clause-opens = patterns.add_opening-returns-in-Some-eq125-clause-opens

pub add_opening-returns-in_err-place-in-Some-eq123-clause-opens :
    goal.add_opening-returns-in_err-place-in-Some-eq123-clause-opens
add_opening-returns-in_err-place-in-Some-eq123-clause-opens =
    patterns.add_opening-returns-in_err-place-in-Some-eq123-clause-opens

pub add_opening-returns-in_err-add_text_run-in-Some-eq123-clause-opens :
    goal.add_opening-returns-in_err-add_text_run-in-Some-eq123-clause-opens
add_opening-returns-in_err-add_text_run-in-Some-eq123-clause-opens =
    patterns.add_opening-returns-in_err-add_text_run-in-Some-eq123-clause-opens

pub add_opening-returns-in_default-byte_at-clause-opens : goal.add_opening-returns-in_default-byte_at-clause-opens
add_opening-returns-in_default-byte_at-clause-opens = patterns.add_opening-returns-in_default-byte_at-clause-opens

pub add_opening-returns-in_default-byte_at-clause-rest : goal.add_opening-returns-in_default-byte_at-clause-rest
add_opening-returns-in_default-byte_at-clause-rest = patterns.add_opening-returns-in_default-byte_at-clause-rest

pub get_long_pattern-returns-in_err-opening-clause-parses : goal.get_long_pattern-returns-in_err-opening-clause-parses
get_long_pattern-returns-in_err-opening-clause-parses = patterns.get_long_pattern-returns-in_err-opening-clause-parses

pub get_long_pattern-returns-in_err-end-clause-parses : goal.get_long_pattern-returns-in_err-end-clause-parses
get_long_pattern-returns-in_err-end-clause-parses = patterns.get_long_pattern-returns-in_err-end-clause-parses

pub get_long_pattern-returns-in_err-end_elements-clause-parses :
    goal.get_long_pattern-returns-in_err-end_elements-clause-parses
get_long_pattern-returns-in_err-end_elements-clause-parses =
    patterns.get_long_pattern-returns-in_err-end_elements-clause-parses

pub get_long_pattern-returns-then-is_empty-clause-parses : goal.get_long_pattern-returns-then-is_empty-clause-parses
get_long_pattern-returns-then-is_empty-clause-parses = patterns.get_long_pattern-returns-then-is_empty-clause-parses

pub get_long_pattern-returns-else-is_empty-clause-parses : goal.get_long_pattern-returns-else-is_empty-clause-parses
get_long_pattern-returns-else-is_empty-clause-parses = patterns.get_long_pattern-returns-else-is_empty-clause-parses

pub get_pattern-returns-in_ok-pattern-in-Some-clause-parses :
    goal.get_pattern-returns-in_ok-pattern-in-Some-clause-parses
get_pattern-returns-in_ok-pattern-in-Some-clause-parses =
    patterns.get_pattern-returns-in_ok-pattern-in-Some-clause-parses

pub get_pattern-returns-in-None-clause-parses : goal.get_pattern-returns-in-None-clause-parses
get_pattern-returns-in-None-clause-parses = patterns.get_pattern-returns-in-None-clause-parses

pub get_pattern-returns-in_err-pattern-in-Some-clause-parses :
    goal.get_pattern-returns-in_err-pattern-in-Some-clause-parses
get_pattern-returns-in_err-pattern-in-Some-clause-parses =
    patterns.get_pattern-returns-in_err-pattern-in-Some-clause-parses

pub gather_pieces-returns-in-None-clause-parses : goal.gather_pieces-returns-in-None-clause-parses
gather_pieces-returns-in-None-clause-parses = patterns.gather_pieces-returns-in-None-clause-parses

pub gather_pieces-returns-then-is_eol_at-clause-parses : goal.gather_pieces-returns-then-is_eol_at-clause-parses
gather_pieces-returns-then-is_eol_at-clause-parses = patterns.gather_pieces-returns-then-is_eol_at-clause-parses

pub gather_pieces-returns-then-byte-eq125-clause-parses : goal.gather_pieces-returns-then-byte-eq125-clause-parses
gather_pieces-returns-then-byte-eq125-clause-parses = patterns.gather_pieces-returns-then-byte-eq125-clause-parses

pub gather_pieces-returns-in_err-place-in-Some-clause-parses :
    goal.gather_pieces-returns-in_err-place-in-Some-clause-parses
gather_pieces-returns-in_err-place-in-Some-clause-parses =
    patterns.gather_pieces-returns-in_err-place-in-Some-clause-parses

pub gather_pieces-loop-elements-preserved-in-Continue-branch-2 :
    goal.gather_pieces-loop-elements-preserved-in-Continue-branch-2
gather_pieces-loop-elements-preserved-in-Continue-branch-2 =
    patterns.gather_pieces-loop-elements-preserved-in-Continue-branch-2

pub gather_pieces-add_placed-requires : goal.gather_pieces-add_placed-requires
gather_pieces-add_placed-requires = patterns.gather_pieces-add_placed-requires

pub gather_pieces-loop-elements-preserved : goal.gather_pieces-loop-elements-preserved
gather_pieces-loop-elements-preserved = patterns.gather_pieces-loop-elements-preserved

pub gather_pieces-returns-in_err-add_placed-in-Some-clause-parses :
    goal.gather_pieces-returns-in_err-add_placed-in-Some-clause-parses
gather_pieces-returns-in_err-add_placed-in-Some-clause-parses =
    patterns.gather_pieces-returns-in_err-add_placed-in-Some-clause-parses

pub gather_pieces-returns-in_err-add_run-in-Some-clause-parses :
    goal.gather_pieces-returns-in_err-add_run-in-Some-clause-parses
gather_pieces-returns-in_err-add_run-in-Some-clause-parses =
    patterns.gather_pieces-returns-in_err-add_run-in-Some-clause-parses

pub gather_pieces-loop-elements-init : goal.gather_pieces-loop-elements-init
gather_pieces-loop-elements-init = patterns.gather_pieces-loop-elements-init

pub gather_pieces-loop-elements-smaller : goal.gather_pieces-loop-elements-smaller
gather_pieces-loop-elements-smaller = patterns.gather_pieces-loop-elements-smaller

pub gather_line-returns-in_err-end-clause-adds : goal.gather_line-returns-in_err-end-clause-adds
gather_line-returns-in_err-end-clause-adds = patterns.gather_line-returns-in_err-end-clause-adds

pub gather_line-returns-in_err-next-clause-adds : goal.gather_line-returns-in_err-next-clause-adds
gather_line-returns-in_err-next-clause-adds = patterns.gather_line-returns-in_err-next-clause-adds

pub gather_line-returns-clause-adds : goal.gather_line-returns-clause-adds
gather_line-returns-clause-adds = patterns.gather_line-returns-clause-adds

pub gather_line-returns-clause-within : goal.gather_line-returns-clause-within
gather_line-returns-clause-within = patterns.gather_line-returns-clause-within

pub gather_lines-returns-in-None-clause-parses : goal.gather_lines-returns-in-None-clause-parses
gather_lines-returns-in-None-clause-parses = patterns.gather_lines-returns-in-None-clause-parses

pub gather_lines-returns-in-None-clause-beyond : goal.gather_lines-returns-in-None-clause-beyond
gather_lines-returns-in-None-clause-beyond = patterns.gather_lines-returns-in-None-clause-beyond

pub gather_lines-returns-then-not-belongs-clause-beyond : goal.gather_lines-returns-then-not-belongs-clause-beyond
gather_lines-returns-then-not-belongs-clause-beyond = patterns.gather_lines-returns-then-not-belongs-clause-beyond

pub gather_lines-returns-then-not-belongs-clause-parses : goal.gather_lines-returns-then-not-belongs-clause-parses
gather_lines-returns-then-not-belongs-clause-parses = patterns.gather_lines-returns-then-not-belongs-clause-parses

pub gather_lines-returns-in_err-start-in-Some-clause-parses :
    goal.gather_lines-returns-in_err-start-in-Some-clause-parses
gather_lines-returns-in_err-start-in-Some-clause-parses =
    patterns.gather_lines-returns-in_err-start-in-Some-clause-parses

pub gather_lines-loop-byte-preserved : goal.gather_lines-loop-byte-preserved
gather_lines-loop-byte-preserved = patterns.gather_lines-loop-byte-preserved

pub gather_lines-loop-byte-init : goal.gather_lines-loop-byte-init
gather_lines-loop-byte-init = patterns.gather_lines-loop-byte-init
