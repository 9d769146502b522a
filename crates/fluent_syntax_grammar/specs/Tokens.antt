-- Marks, blanks, line ends, identifiers and numbers.
use Rattle.std.specs.Prelude.{ℕ, List, Option, Some, None, Bool, true, false, codes}
use Rattle.fluent_syntax_grammar.specs.Bytes.{hyphen, full_stop, is_letter, is_digit, is_name_byte}
use Rattle.fluent_syntax_grammar.specs.Places.{LongestRun, Steps, JumpsTo, has, has_byte, ByteRun, after_eol}
use Rattle.fluent_syntax_grammar.specs.Places.{is_line_place, InlineBlank, Blank, BlankBlock}
use Rattle.fluent_syntax_tree.specs.Kind.{ExpectedToken, ExpectedCharRange}
use Rattle.fluent_syntax_grammar.specs.Construct.{Construct, ◌>>=◌, ◌>>◌, yields, here, fails, skip, peek, branch_on}
use Rattle.fluent_syntax_tree.specs.declared.spans.Span.{Span}

-- the text from an earlier place to here
abbrev pub spanned : ℕ → Construct Span
spanned start = do
  end ← here
  yields (record { start = start; end = end })

-- what a line end that may be there passes over, by where it ends
abbrev pub past_eol : Option ℕ → Construct (Unit {0})
past_eol None = yields tt
past_eol (Some k) = skip (JumpsTo k)

module _ (t : List ℕ) where
  -- whether the byte is there; if it is, it is passed over
  abbrev pub optional : ℕ → Construct Bool
  optional b = peek (has_byte t b) (λ found. branch_on found (skip (Steps 1) >> yields true) (yields false))

  -- the byte, which has to be there
  abbrev pub token : ℕ → Construct (Unit {0})
  token b = do
    found ← optional b
    branch_on found (yields tt) (fails (ExpectedToken b))

  -- an inline blank is passed over
  abbrev pub inline_blank : Construct (Unit {0})
  inline_blank = skip (InlineBlank t)

  -- a blank is passed over
  abbrev pub blank : Construct (Unit {0})
  blank = skip (Blank t)

  -- a blank block is passed over
  abbrev pub blank_block : Construct (Unit {0})
  blank_block = skip (BlankBlock t)

  -- a line end, if one is there
  abbrev pub optional_eol : Construct (Unit {0})
  optional_eol = peek (after_eol t) past_eol

  -- the text up to a line end or to the text's end
  abbrev pub rest_of_line : Construct Span
  rest_of_line = do
    start ← here
    skip (LongestRun (is_line_place t))
    spanned start

  -- the longest run of digits, which is not empty
  abbrev pub digits : Construct (Unit {0})
  digits =
      peek (has t is_digit)
      (λ found. branch_on found (skip (ByteRun t is_digit)) (fails (ExpectedCharRange (codes "0-9"))))

  -- Identifier: a letter, then the longest run of letters, digits, `-` and `_`.
  abbrev pub identifier : Construct Span
  identifier = do
    start ← here
    letter ← peek (has t is_letter) yields
    branch_on letter (skip (ByteRun t is_name_byte) >> spanned start) (fails (ExpectedCharRange (codes "a-zA-Z")))

  -- Number: an optional `-`, digits, and where `.` follows, that and again digits. Its value is its spelling.
  abbrev pub number : Construct Span
  number = do
    start ← here
    optional hyphen
    digits
    point ← optional full_stop
    branch_on point digits (yields tt)
    spanned start
