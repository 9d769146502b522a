-- Runs of bytes that are looked at several at a time.
use Rattle.std.specs.Prelude.{◌≡◌, ℕ, ◌+◌, ◌<◌, ◌≤◌, List, Bool, true, false, ◌||◌, ◌==◌, not}
use Rattle.fluent_syntax_grammar.specs.Bytes.{lf, left_brace, right_brace}
use Rattle.fluent_syntax_grammar.specs.Places.{has}

-- a byte of a text other than LF and braces
abbrev pub is_passed : ℕ → Bool
is_passed b = not (b == lf || b == left_brace || b == right_brace)

-- Of the n bytes at the place, r pass the test before one that fails it, if one does.
pub record RunOf (test : ℕ → Bool) (t : List ℕ) (i n r : ℕ) : Type 0 where
  pub within : r ≤ n
  pub each : (k : ℕ) → i ≤ k → k < i + r → has t test k ≡ true
  pub stops : r < n → has t test (i + r) ≡ false
