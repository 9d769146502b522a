-- Patterns: the source of a pattern is read as a layout, and spells the elements of that layout.
use Rattle.std.specs.Prelude.{ℕ, List, Option, Some, None}
use Rattle.fluent_syntax_grammar.specs.Places.{JumpsTo, after_eol}
use Rattle.fluent_syntax_tree.specs.Tree.{PatternTree}
use Rattle.fluent_syntax_grammar.specs.Construct.{Construct, ◌>>=◌, ◌>>◌, yields, here, skip, peek}
use Rattle.fluent_syntax_grammar.specs.Tokens.{inline_blank, blank_block}
use Rattle.fluent_syntax_grammar.specs.Layout.{Layout}
use Rattle.fluent_syntax_grammar.specs.Elements.{pattern_of}
use Rattle.fluent_syntax_grammar.specs.Family.{Family}
use Rattle.fluent_syntax_grammar.specs.Lines.{ending, more_lines, more_pieces}
use Rattle.fluent_syntax_tree.specs.declared.spans.Span.{Span}
use Rattle.fluent_syntax_tree.specs.declared.edition.Edition.{Edition}

module _ (t : List ℕ) (R : Family) where
  -- The layout, after the inline blank that opens it. If a line end follows, it and the blank block after it are
  -- dropped, and there is no opening line; otherwise what follows on this line is the opening line, which has no
  -- leading spaces.
  abbrev pub layout_at : Option ℕ → Construct Layout
  layout_at (Some k) = do
    skip (JumpsTo k)
    blank_block t
    ls ← more_lines t R
    yields (record { opening = None; lines = ls })
  layout_at None = do
    start ← here
    ps ← more_pieces t R
    e ← ending t
    ls ← more_lines t R
    yields (record { opening = Some (record { start = start; spaces = 0; pieces = ps; ending = e }); lines = ls })

  -- Layout: an inline blank, and what follows on the line decides.
  abbrev pub layout : Construct Layout
  layout = do
    inline_blank t
    peek (after_eol t) layout_at

module _ (edition : Edition) (t : List ℕ) (R : Family) where
  -- Pattern: what the layout spells, if it spells something.
  abbrev pub pattern : Construct (Option (PatternTree Span))
  pattern = do
    y ← layout t R
    yields (pattern_of edition t y)
