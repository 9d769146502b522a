-- The bytes that the grammar names, and its sets of bytes. All are ASCII: a byte of another character is in none of the
-- sets.
pub use Rattle.fluent_syntax_tree.specs.Bytes.{
  lf,
  cr,
  space,
  double_quote,
  hash,
  dollar_sign,
  left_parenthesis,
  right_parenthesis,
  asterisk,
  comma,
  hyphen,
  full_stop,
  colon,
  equals_sign,
  greater_than,
  capital_u,
  left_bracket,
  backslash,
  right_bracket,
  underscore,
  small_u,
  left_brace,
  vertical_bar,
  right_brace,
}
use Rattle.std.specs.Prelude.{ℕ, Bool, ◌&&◌, ◌||◌, ◌==◌, nat_le}
use Rattle.std.specs.Char.{is_ascii_alphabetic, is_ascii_alphanumeric, is_ascii_digit}

-- a space
abbrev pub is_space : ℕ → Bool
is_space b = b == space

-- `a` to `z` and `A` to `Z`
abbrev pub is_letter : ℕ → Bool
is_letter b = is_ascii_alphabetic b

-- `A` to `Z`
abbrev pub is_capital : ℕ → Bool
is_capital b = nat_le 65 b && nat_le b 90

-- `0` to `9`
abbrev pub is_digit : ℕ → Bool
is_digit b = is_ascii_digit b

-- letters, digits, `-` and `_`
abbrev pub is_name_byte : ℕ → Bool
is_name_byte b = is_ascii_alphanumeric b || b == hyphen || b == underscore
