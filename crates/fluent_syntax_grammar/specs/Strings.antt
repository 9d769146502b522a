-- String literals: quotes, with units between them.
use Rattle.std.specs.Prelude.{◌≡◌, ℕ, ◌+◌, ◌<◌, ◌≤◌, List, slice_get, slice_range, Option, Some, None, true, false}
use Rattle.std.specs.Prelude.{◌||◌, ◌==◌, nat_lt, if◌then◌else◌, codes}
use Rattle.std.specs.Char.{is_ascii_hexdigit}
use Rattle.std.specs.Fmt.{decimal}
use Rattle.fluent_syntax_grammar.specs.Bytes.{lf, backslash, capital_u, double_quote, left_brace, small_u}
use Rattle.fluent_syntax_grammar.specs.Places.{Steps, has, has_byte}
use Rattle.fluent_syntax_tree.specs.Kind.{Kind, ExpectedToken, UnterminatedStringLiteral, UnknownEscapeSequence}
use Rattle.fluent_syntax_tree.specs.Kind.{InvalidUnicodeEscapeSequence}
use Rattle.fluent_syntax_grammar.specs.Construct.{Outcome, Read, Refused, Construct, ◌>>=◌, ◌>>◌, yields, here, fails}
use Rattle.fluent_syntax_grammar.specs.Construct.{skip, peek, branch_on}
use Rattle.fluent_syntax_grammar.specs.Tokens.{spanned, token}
use Rattle.fluent_syntax_tree.specs.declared.spans.Span.{Span}

module _ (t : List ℕ) where
  -- From i to k there are hexadecimal digits: w of them, or fewer, and then there is none at k.
  pub record HexDigits (i w k : ℕ) : Type 0 where
    pub forward : i ≤ k
    pub most : k ≤ i + w
    pub each : (j : ℕ) → i ≤ j → j < k → has t is_ascii_hexdigit j ≡ true
    pub longest : k < i + w → has t is_ascii_hexdigit k ≡ false

  -- how many bytes the character has that begins with the byte; none, where no byte is left
  abbrev pub character_len : Option ℕ → ℕ
  character_len None = 0
  character_len (Some b) = if nat_lt b 192 then 1 else if nat_lt b 224 then 2 else if nat_lt b 240 then 3 else 4

  -- the place after the whole character at k, or k at the end of the text
  abbrev pub after_character : ℕ → ℕ
  after_character k = k + character_len (slice_get t k)

  -- The digits of an escape, w of them. With too few it is refused at the first place that holds none;
  -- the fault carries the digits read and the whole character after them, if there is one.
  pub data hex_digits (w : ℕ) : ℕ → Outcome (Unit {0}) → Type 0 where
    all_there : {i j : ℕ} → HexDigits i w j → j ≡ i + w → hex_digits w i (Read tt j)
    too_few : {i k to : ℕ} → HexDigits i w k → k < i + w → to ≡ k + 1 →
        hex_digits w i (Refused (InvalidUnicodeEscapeSequence (slice_range t i (after_character k))) k to)

  -- An escape, from its backslash on, by the byte after that: `\\`, `\"`, `\{`, `\u` with 4 and `\U` with 6 hexadecimal
  -- digits. Before any other byte the backslash is refused, with the byte's decimal number; at the text's end with that
  -- of a space.
  abbrev pub escaped : Option ℕ → Construct (Unit {0})
  escaped None = fails (UnknownEscapeSequence (codes "32"))
  escaped (Some b) =
      branch_on (b == backslash || b == double_quote || b == left_brace) (skip (Steps 2))
      (branch_on (b == small_u) (skip (Steps 2) >> hex_digits 4)
      (branch_on (b == capital_u) (skip (Steps 2) >> hex_digits 6)
      (fails (UnknownEscapeSequence (decimal b)))))

  -- A unit of a string, by its first byte: an escape, or any other byte but a quote and LF.
  abbrev pub string_unit : Option ℕ → Construct (Unit {0})
  string_unit None = fails (ExpectedToken double_quote)
  string_unit (Some b) =
      branch_on (b == lf) (fails UnterminatedStringLiteral)
      (branch_on (b == backslash) (peek (λ i. slice_get t (i + 1)) escaped)
      (skip (Steps 1)))

  -- the units up to the next quote
  pub data string_units : ℕ → Outcome (Unit {0}) → Type 0 where
    before_quote : {i : ℕ} → has_byte t double_quote i ≡ true → string_units i (Read tt i)
    unit_and_more : {i j : ℕ} {o : Outcome (Unit {0})} → has_byte t double_quote i ≡ false →
        string_unit (slice_get t i) i (Read tt j) → string_units j o → string_units i o
    bad_unit : {i from to : ℕ} {k : Kind} → has_byte t double_quote i ≡ false →
        string_unit (slice_get t i) i (Refused k from to) → string_units i (Refused k from to)

  -- String literal: a quote, units, and a quote. Its value is the text between the quotes as it is spelled.
  abbrev pub string_literal : Construct Span
  string_literal = do
    token t double_quote
    start ← here
    string_units
    value ← spanned start
    token t double_quote
    yields value
