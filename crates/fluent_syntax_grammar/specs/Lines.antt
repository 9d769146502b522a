-- The lines of a pattern: runs of text and placeables.
use Rattle.std.specs.Prelude.{◌≡◌, ℕ, ◌+◌, ◌-◌, List, slice_get, Option, Some, None, Bool, true, false, ◌&&◌}
use Rattle.std.specs.Prelude.{◌||◌, ◌==◌, not, nat_lt, if◌then◌else◌}
use Rattle.fluent_syntax_grammar.specs.Bytes.{lf, cr, asterisk, full_stop, left_brace, left_bracket, right_brace}
use Rattle.fluent_syntax_grammar.specs.Places.{LongestRun, JumpsTo, has, has_byte, after_eol, has_eol, InlineBlank}
use Rattle.fluent_syntax_tree.specs.Kind.{UnbalancedClosingBrace}
use Rattle.fluent_syntax_grammar.specs.Construct.{Outcome, Read, Construct, ◌>>=◌, ◌>>◌, yields, here, fails, skip}
use Rattle.fluent_syntax_grammar.specs.Construct.{peek, branch_on, More, no_item, item, list_of}
use Rattle.fluent_syntax_grammar.specs.Tokens.{inline_blank}
use Rattle.fluent_syntax_grammar.specs.Layout.{Piece, run, placed, Ending, lf_at, crlf_at, text_end, Line}
use Rattle.fluent_syntax_grammar.specs.Family.{Family, placeable}

module _ (t : List ℕ) where
  -- a byte that is no brace and begins no line end
  abbrev pub is_run_place : ℕ → Bool
  is_run_place i = has t (λ b. not (b == lf || b == left_brace || b == right_brace)) i && not (has_eol t i)

  -- the ending at a place, by where the line end there ends
  abbrev pub ending_of : ℕ → Option ℕ → Construct Ending
  ending_of i None = yields text_end
  ending_of i (Some k) = skip (JumpsTo k) >> yields (if k == i + 1 then lf_at i else crlf_at i)

  -- a line's ending: LF, CRLF or the text's end
  abbrev pub ending : Construct Ending
  ending = do
    i ← here
    peek (after_eol t) (ending_of i)

  -- Whether a line belongs to a pattern, by what comes after its leading spaces, if it has some. A blank line does.
  -- With leading spaces: any byte but `.`, `}`, `[` and `*`. Without: `{`, or a CR that begins no line end.
  abbrev pub belongs : (indented : Bool) → ℕ → Bool
  belongs true i =
      has_eol t i || has t (λ b. not (b == full_stop || b == right_brace || b == left_bracket || b == asterisk)) i
  belongs false i = has_eol t i || has_byte t left_brace i || has_byte t cr i

  -- a run of text, which reaches to the next brace, line end or the text's end
  abbrev pub text_run : Construct Piece
  text_run = do
    from ← here
    skip (LongestRun is_run_place)
    to ← here
    yields (run from to)

module _ (t : List ℕ) (R : Family) where
  -- The next piece of a line by the byte there. The line ends before a line end and at the text's end; `}` is refused;
  -- `{` begins a placeable; any other byte begins a run.
  abbrev pub next_piece_at : Option ℕ → Construct (More Piece (Unit {0}))
  next_piece_at None = yields no_item
  next_piece_at (Some b) =
      peek (has_eol t) (λ eol. branch_on eol (yields no_item)
      (branch_on (b == right_brace) (fails UnbalancedClosingBrace)
      (branch_on (b == left_brace) (placeable t R >>= λ e. yields (item (placed e) tt))
      (text_run t >>= λ p. yields (item p tt)))))

  -- the next piece of a line, if it has one more
  abbrev pub next_piece : Construct (More Piece (Unit {0}))
  next_piece = peek (slice_get t) next_piece_at

  -- the rest of a line, up to its ending
  abbrev pub more_pieces : Construct (List Piece)
  more_pieces = list_of next_piece

  -- Line: its leading spaces, runs and placeables, and its ending.
  abbrev pub line : Construct Line
  line = do
    start ← here
    inline_blank t
    first ← here
    ps ← more_pieces
    e ← ending t
    yields (record { start = start; spaces = first - start; pieces = ps; ending = e })

  -- The next line of a pattern, if one more belongs to it. The first that does not belong stays unread. Spaces alone at
  -- the text's end are passed over and give nothing.
  pub data next_line : ℕ → Outcome (More Line (Unit {0})) → Type 0 where
    no_byte : {i k : ℕ} → InlineBlank t i k → slice_get t k ≡ None → next_line i (Read no_item k)
    other_line : {i k b : ℕ} → InlineBlank t i k → slice_get t k ≡ Some b → belongs t (nat_lt i k) k ≡ false →
        next_line i (Read no_item i)
    own_line : {i k b : ℕ} {o : Outcome (More Line (Unit {0}))} → InlineBlank t i k → slice_get t k ≡ Some b →
        belongs t (nat_lt i k) k ≡ true → (line >>= λ l. yields (item l tt)) i o → next_line i o

  -- the lines that belong to a pattern, from a line's start on
  abbrev pub more_lines : Construct (List Line)
  more_lines = list_of next_line
