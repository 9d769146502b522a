use Rattle.std.proofs.Common.{◌≡◌, None, ◌+◌, ◌*◌, length, ◌-◌, ◌≤◌}
use Rattle.fluent_syntax_grammar.specs.Grammar as grammar
use Rattle.fluent_syntax_grammar.specs.Lines.{next_line, next_piece}
use Rattle.fluent_syntax_grammar.specs.Places.{after_eol}
use Rattle.fluent_syntax_grammar.specs.Variants.{next_variant}
use Rattle.fluent_syntax_parser.specs.Layouts.{line_of, piece_of}
use Rattle.fluent_syntax_parser.specs.Lines.{line_view, piece_view}
use Rattle.fluent_syntax_parser.specs.Gathered.{names_in, names_in_order}
use Rattle.fluent_syntax_parser.specs.Noted.{Notes}
use Rattle.fluent_syntax_parser.proofs.expressions.ArgumentLists.{MadeArguments}
use Rattle.fluent_syntax_parser.proofs.patterns.Opening.{MadeOpening}
use Rattle.fluent_syntax_parser.proofs.readers.ContinuesFrom.{MadeItems}
use Rattle.fluent_syntax_parser.proofs.expressions.GatheredVariants.{MadeVariants}
use Rattle.fluent_syntax_parser.proofs.reader.Reader.+readers.Given as goal

-- how much deeper it may nest, times the number of ranks, and the reader's rank

abbrev pub decreases-add_placeable : goal.decreases-add_placeable
decreases-add_placeable g l = 12 * l.nesting

abbrev pub decreases-get_call_arguments : goal.decreases-get_call_arguments
decreases-get_call_arguments g l = 12 * l.nesting

abbrev pub decreases-add_inline_expression : goal.decreases-add_inline_expression
decreases-add_inline_expression g l = 12 * l.nesting + 2

abbrev pub decreases-add_term_reference : goal.decreases-add_term_reference
decreases-add_term_reference g l = 12 * l.nesting + 1

abbrev pub decreases-add_reference : goal.decreases-add_reference
decreases-add_reference g l = 12 * l.nesting + 1

abbrev pub decreases-add_argument_value : goal.decreases-add_argument_value
decreases-add_argument_value g l = 12 * l.nesting + 3

abbrev pub decreases-get_arguments : goal.decreases-get_arguments
decreases-get_arguments g l = 12 * l.nesting + 4

abbrev pub decreases-gather_pieces : goal.decreases-gather_pieces
decreases-gather_pieces g l = 12 * l.nesting + 1

abbrev pub decreases-gather_lines : goal.decreases-gather_lines
decreases-gather_lines g l = 12 * l.nesting + 3

abbrev pub decreases-gather_line : goal.decreases-gather_line
decreases-gather_line g l = 12 * l.nesting + 2

abbrev pub decreases-add_opening : goal.decreases-add_opening
decreases-add_opening g l = 12 * l.nesting + 2

abbrev pub decreases-get_pattern : goal.decreases-get_pattern
decreases-get_pattern g l = 12 * l.nesting + 6

abbrev pub decreases-get_long_pattern : goal.decreases-get_long_pattern
decreases-get_long_pattern g l = 12 * l.nesting + 5

abbrev pub decreases-gather_variants : goal.decreases-gather_variants
decreases-gather_variants g l = 12 * l.nesting + 7

abbrev pub decreases-add_expression : goal.decreases-add_expression
decreases-add_expression g l = 12 * l.nesting + 10

abbrev pub decreases-end_select : goal.decreases-end_select
decreases-end_select g l = 12 * l.nesting + 9

abbrev pub decreases-add_inner_placeable : goal.decreases-add_inner_placeable
decreases-add_inner_placeable g l = 12 * l.nesting + 1

-- ---- loops

abbrev pub invariant-get_arguments-loop-noted : goal.invariant-get_arguments-loop-noted
invariant-get_arguments-loop-noted g l =
    let t = l.self.source.bytes.now in
    record {
      forward : l.ptr ≤ l.place;
      within : l.place ≤ length t;
      gathered :
          MadeArguments t (grammar.within l.self.edition t l.nesting) (g.M.MakeTexts.source l.self.texts.now)
          g.M.MakeTexts.made l.ptr l.positional.items l.named.items (names_in t l.noted.names.items) l.place;
      noted : Notes (λ k. k.now) l.noted.table.keys (names_in_order t l.noted.names.items);
    }

abbrev pub decreases-get_arguments-loop-noted : goal.decreases-get_arguments-loop-noted
decreases-get_arguments-loop-noted g l = length l.self.source.bytes.now - l.place

abbrev pub invariant-gather_variants-loop-starred : goal.invariant-gather_variants-loop-starred
invariant-gather_variants-loop-starred g l =
    let t = l.self.source.bytes.now in
    record {
      forward : l.ptr ≤ l.place;
      within : l.place ≤ length t;
      gathered :
          MadeVariants t (next_variant l.self.edition t (grammar.within l.self.edition t l.nesting))
          (g.M.MakeTexts.source l.self.texts.now) g.M.MakeTexts.made l.ptr l.variants.items l.starred l.place;
    }

abbrev pub decreases-gather_variants-loop-starred : goal.decreases-gather_variants-loop-starred
decreases-gather_variants-loop-starred g l = length l.self.source.bytes.now - l.place

abbrev pub invariant-gather_pieces-loop-elements : goal.invariant-gather_pieces-loop-elements
invariant-gather_pieces-loop-elements g l =
    let t = l.self.source.bytes.now in
    record {
      forward : l.ptr ≤ l.place;
      within : l.place ≤ length t;
      gathered :
          MadeItems t (next_piece t (grammar.within l.self.edition t l.nesting))
          (piece_of (g.M.MakeTexts.source l.self.texts.now)) (piece_view g.M.MakeTexts.made) l.ptr l.pieces.items
          l.place;
    }

abbrev pub decreases-gather_pieces-loop-elements : goal.decreases-gather_pieces-loop-elements
decreases-gather_pieces-loop-elements g l = length l.self.source.bytes.now - l.place

abbrev pub invariant-add_opening-loop-elements : goal.invariant-add_opening-loop-elements
invariant-add_opening-loop-elements g l =
    let t = l.self.source.bytes.now in
    record {
      forward : l.ptr ≤ l.place;
      within : l.place ≤ length t;
      unended : after_eol t l.ptr ≡ None;
      gathered :
          MadeOpening t (grammar.within l.self.edition t l.nesting) (g.M.MakeTexts.source l.self.texts.now)
          g.M.MakeTexts.made l.ptr l.elements.items l.place;
    }

abbrev pub decreases-add_opening-loop-elements : goal.decreases-add_opening-loop-elements
decreases-add_opening-loop-elements g l = length l.self.source.bytes.now - l.place

abbrev pub invariant-gather_lines-loop-byte : goal.invariant-gather_lines-loop-byte
invariant-gather_lines-loop-byte g l =
    let t = l.self.source.bytes.now in
    record {
      forward : l.ptr ≤ l.start;
      within : l.start ≤ length t;
      gathered :
          MadeItems t (next_line t (grammar.within l.self.edition t l.nesting))
          (line_of (g.M.MakeTexts.source l.self.texts.now)) (line_view g.M.MakeTexts.made) l.ptr l.lines.items
          l.start;
    }

abbrev pub decreases-gather_lines-loop-byte : goal.decreases-gather_lines-loop-byte
decreases-gather_lines-loop-byte g l = length l.self.source.bytes.now - l.start
