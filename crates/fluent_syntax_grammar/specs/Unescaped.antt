-- What a text is with its escapes read. A backslash is one byte that no other character holds, so this goes from byte
-- to byte.
use Rattle.std.specs.Prelude.{ℕ, zero, suc, ◌+◌, min, List, [], ◌∷◌, ◌++◌, length, take, drop, Bool, ◌&&◌, ◌||◌, ◌==◌}
use Rattle.std.specs.Prelude.{nat_lt, nat_le, if◌then◌else◌, encode_utf8}
use Rattle.std.specs.Char.{is_digit}
use Rattle.std.specs.List.{list_all, prefix_len}
use Rattle.std.specs.Str.Parse.{digits_value, without_leading_plus}
use lib.Utf8.{scalar}
use Rattle.fluent_syntax_grammar.specs.Bytes.{backslash, capital_u, double_quote, small_u}

-- U+FFFD, in the place of an escape that is of no character
abbrev pub unknown_char : ℕ
unknown_char = 0xfffd

-- a byte of a character after its first
abbrev pub is_continuation : ℕ → Bool
is_continuation b = nat_le 128 b && nat_lt b 192

-- The number of bytes in the next w, or in all where there are fewer, and in the character that they would cut, which
-- is swallowed whole.
abbrev pub whole_len : ℕ → List ℕ → ℕ
whole_len w bs = let n = min w (length bs) in n + prefix_len is_continuation (drop n bs)

-- hexadecimal digits in either case, one or more
abbrev pub is_hexadecimal : List ℕ → Bool
is_hexadecimal ds = nat_lt 0 (length ds) && list_all (λ b. is_digit b 16) ds

-- the character whose number the bytes spell, where they are w and spell one; a plus may come first
abbrev pub spelled_char : ℕ → List ℕ → ℕ
spelled_char w bs =
    let ds = without_leading_plus bs in
    if length bs == w && (is_hexadecimal ds && scalar (digits_value 16 ds)) then digits_value 16 ds
    else unknown_char

-- the character of the next w bytes: they must be there and cut no character
abbrev pub code_point : ℕ → List ℕ → ℕ
code_point w bs = spelled_char w (take (whole_len w bs) bs)

-- An escape is given by what follows its backslash. These are its character, and how many bytes it swallows there.
abbrev pub escape_char : List ℕ → ℕ
escape_char [] = unknown_char
escape_char (b ∷ bs) =
    if b == backslash || b == double_quote then b
    else if b == small_u then code_point 4 bs
    else if b == capital_u then code_point 6 bs
    else unknown_char

-- `u` and its 4 bytes, `U` and its 6, or one character
abbrev pub escape_len : List ℕ → ℕ
escape_len [] = 0
escape_len (b ∷ bs) =
    if b == small_u then 1 + whole_len 4 bs
    else if b == capital_u then 1 + whole_len 6 bs
    else whole_len 1 (b ∷ bs)

-- What a text gives once so many of its bytes are passed over, which an escape has swallowed: each escape its
-- character, and any other byte itself.
abbrev pub unescaped_after : (swallowed : ℕ) → List ℕ → List ℕ
unescaped_after k [] = []
unescaped_after (suc k) (b ∷ bs) = unescaped_after k bs
unescaped_after zero (b ∷ bs) =
    if b == backslash then encode_utf8 (escape_char bs) ++ unescaped_after (escape_len bs) bs
    else b ∷ unescaped_after zero bs

-- the text with its escapes read
unfoldable pub unescaped : List ℕ → List ℕ
unescaped bs = unescaped_after 0 bs
