-- What an inline expression begins with.
use Rattle.std.specs.Prelude.{ℕ, ◌+◌, List, slice_get, Option, Some, None, Bool, ◌==◌, if◌then◌else◌}
use Rattle.fluent_syntax_grammar.specs.Bytes.{is_letter, is_digit, dollar_sign, double_quote, hyphen, left_brace}
use Rattle.fluent_syntax_grammar.specs.Places.{has}

-- `"`, a digit, `-` before a letter, another `-`, `$`, a letter, `{`, and any other byte or the text's end
pub data Start : Type 0 where
  quote digit term minus dollar letter brace other : Start

-- the start that a byte makes, where a letter follows it or not
abbrev pub start_of : Option ℕ → (letter_next : Bool) → Start
start_of None letter_next = other
start_of (Some b) letter_next =
    if b == double_quote then quote
    else if is_digit b then digit
    else if b == hyphen then (if letter_next then term else minus)
    else if b == dollar_sign then dollar
    else if is_letter b then letter
    else if b == left_brace then brace
    else other

-- the start at a place
abbrev pub start : List ℕ → ℕ → Start
start t i = start_of (slice_get t i) (has t is_letter (i + 1))
