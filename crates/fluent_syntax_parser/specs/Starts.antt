-- The start that a reader has found.
use Rattle.fluent_syntax_grammar.specs.Starts as starts
use Rattle.fluent_syntax_parser.specs.declared.expression.starts.Start.{Start}
use Rattle.fluent_syntax_parser.specs.declared.expression.starts.Start.TheVariants as found

abbrev pub start_view : Start → starts.Start
start_view found.Quote = starts.quote
start_view found.Digit = starts.digit
start_view found.Term = starts.term
start_view found.Minus = starts.minus
start_view found.Dollar = starts.dollar
start_view found.Letter = starts.letter
start_view found.Brace = starts.brace
start_view found.Other = starts.other
