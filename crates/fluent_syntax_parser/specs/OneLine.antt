-- Patterns of one line.
use Rattle.std.specs.Prelude.{◌≡◌, ℕ, ◌+◌, List, [], ◌∷◌, length, Option, Some, None}
use Rattle.fluent_syntax_tree.specs.Tree.{PatternTree, elements_of, text_element}
use Rattle.fluent_syntax_tree.specs.declared.edition.Edition.{Edition}
use Rattle.fluent_syntax_tree.specs.declared.spans.Span.{Span}
use Rattle.fluent_syntax_grammar.specs.Construct.{Read}
use Rattle.fluent_syntax_grammar.specs.Grammar.{within}
use Rattle.fluent_syntax_grammar.specs.Lines.{more_lines}
use Rattle.fluent_syntax_grammar.specs.Patterns.{pattern}
use Rattle.fluent_syntax_grammar.specs.Places.{after_eol, BlankBlock, InlineBlank}

-- A line whose run ends at `to` ends there, and `next` is the next line's start: with LF, which the text takes in, with
-- CRLF, or with the text.
pub data EndsLine (t : List ℕ) (to : ℕ) : ℕ → ℕ → Type 0 where
  with_lf : {next : ℕ} → after_eol t to ≡ Some next → next ≡ to + 1 → EndsLine t to next next
  with_crlf : {next : ℕ} → after_eol t to ≡ Some next → (next ≡ to + 1 → ⊥) → EndsLine t to to next
  with_text : after_eol t to ≡ None → to ≡ length t → EndsLine t to to to

-- The pattern that opens with an inline blank up to the place is that one or none, and ends there. Nothing nests in it.
abbrev pub OpensAs : Edition → List ℕ → ℕ → Option (PatternTree Span) → ℕ → Type 0
OpensAs edition t start value end =
    (n i : ℕ) → InlineBlank t i start → pattern edition t (within edition t n) i (Read value end)

-- There is no line of a pattern from the line's start on, and it ends at the other place.
abbrev pub NoLines : Edition → List ℕ → (i end : ℕ) → Type 0
NoLines edition t i end = (n : ℕ) → more_lines t (within edition t n) i (Read [] end)

-- From the place on there are blank lines, and after them no line of a pattern, which ends at the other place.
pub record EndsBlank (edition : Edition) (t : List ℕ) (i end : ℕ) : Type 0 where
  pub place : ℕ
  pub block : BlankBlock t i place
  pub none : NoLines edition t place end

-- the pattern of one text
abbrev pub text_pattern : Span → PatternTree Span
text_pattern s = elements_of (text_element s ∷ [])
