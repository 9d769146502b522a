-- Comments.
use Rattle.std.specs.Prelude.{◌≡◌, ◌≢◌, ℕ, ◌+◌, List, [], ◌∷◌, ◌++◌, slice_get, Option, Some, None, Bool, true, false}
use Rattle.std.specs.Prelude.{◌==◌, not, if◌then◌else◌}
use Rattle.fluent_syntax_grammar.specs.Bytes.{space, hash}
use Rattle.fluent_syntax_grammar.specs.Places.{Steps, has_byte, has_eol}
use Rattle.fluent_syntax_tree.specs.Entry.{EntryTree, comment, Level, regular, group, resource}
use Rattle.fluent_syntax_tree.specs.Kind.{Kind}
use Rattle.fluent_syntax_grammar.specs.Construct.{Outcome, Read, Refused, Construct, ◌>>=◌, ◌>>◌, yields, here, skip}
use Rattle.fluent_syntax_grammar.specs.Construct.{peek}
use Rattle.fluent_syntax_grammar.specs.Tokens.{spanned, token, optional_eol, rest_of_line}
use Rattle.fluent_syntax_tree.specs.declared.spans.Span.{Span}

-- the level that a number of hashes makes
abbrev pub level_of : ℕ → Level
level_of hashes = if hashes == 1 then regular else if hashes == 2 then group else resource

module _ (t : List ℕ) where
  -- the number of `#` from a place on, at most 3
  abbrev pub hashes : ℕ → ℕ
  hashes i =
      if not (has_byte t hash i) then 0
      else if not (has_byte t hash (i + 1)) then 1
      else if not (has_byte t hash (i + 2)) then 2
      else 3

  -- After its hashes, by whether a line end follows: the empty line; else a space, and the line's text up to a line end
  -- or the text's end.
  abbrev pub comment_text : (eol : Bool) → Construct Span
  comment_text true = here >>= λ i. spanned i
  comment_text false = token t space >> rest_of_line t

  -- What a comment line adds after its hashes, with its line end. Hashes at the very end of the text add no line.
  abbrev pub comment_rest : Option ℕ → Construct (List Span)
  comment_rest None = yields []
  comment_rest (Some b) = do
    content ← peek (has_eol t) comment_text
    optional_eol t
    yields (content ∷ [])

  -- a comment line with that many hashes
  abbrev pub comment_line : ℕ → Construct (List Span)
  comment_line level = skip (Steps level) >> peek (slice_get t) comment_rest

  -- The longest run of comment lines of one level. A line that is none ends the comment before it.
  pub data comment_lines (level : ℕ) : ℕ → Outcome (List Span) → Type 0 where
    other_level : {i : ℕ} → hashes i ≢ level → comment_lines level i (Read [] i)
    no_comment_line : {i from to : ℕ} {k : Kind} → hashes i ≡ level → comment_line level i (Refused k from to) →
        comment_lines level i (Read [] i)
    one_more : {i j end : ℕ} {content rest : List Span} → hashes i ≡ level → comment_line level i (Read content j) →
        comment_lines level j (Read rest end) → comment_lines level i (Read (content ++ rest) end)

  -- a comment with that many hashes: its first line, which has to be one, and the others
  abbrev pub comment_of : ℕ → Construct (EntryTree Span)
  comment_of level = do
    first ← comment_line level
    rest ← comment_lines level
    yields (comment (level_of level) (first ++ rest))

  -- Comment: the leading hashes of its first line give its level.
  abbrev pub comment_entry : Construct (EntryTree Span)
  comment_entry = peek hashes comment_of
