use Rattle.std.proofs.Common.{sym}
use Rattle.fluent_syntax_grammar.specs.Construct.{list_ends}
use Rattle.fluent_syntax_grammar.specs.Lines.{no_byte, other_line}
use Rattle.fluent_syntax_parser.proofs.patterns.BlankLines.{block_at_no_byte_is_empty, block_before_other_line_is_empty}
use Rattle.fluent_syntax_parser.proofs.source.Source.end_after_blank_lines.Goals as goal

pub returns-in-None-clause-lines : goal.returns-in-None-clause-lines
returns-in-None-clause-lines c = record {
  place = _;
  block = c.past_blank_lines-line.ensures.blank;
  none = λ n. list_ends (no_byte c.past_blank_lines-line.ensures.spaces (sym c.in-None.ensures));
}

pub returns-in-None-clause-beyond : goal.returns-in-None-clause-beyond
returns-in-None-clause-beyond c =
    block_at_no_byte_is_empty c.args.self.now.bytes.now c.past_blank_lines-line.ensures.spaces (sym c.in-None.ensures)

pub returns-else-belongs-clause-lines : goal.returns-else-belongs-clause-lines
returns-else-belongs-clause-lines c = record {
  place = _;
  block = c.past_blank_lines-line.ensures.blank;
  none = λ n. list_ends (other_line c.past_blank_lines-line.ensures.spaces (sym c.in-Some.ensures)
      (sym c.if-belongs.ensures));
}

pub returns-else-belongs-clause-beyond : goal.returns-else-belongs-clause-beyond
returns-else-belongs-clause-beyond c =
    block_before_other_line_is_empty c.args.self.now.bytes.now c.past_blank_lines-line.ensures.spaces _
    (sym c.if-belongs.ensures)
