-- The names of bytes.
use Rattle.std.specs.Prelude.{ℕ}

-- the line feed
abbrev pub lf : ℕ
lf = 10

-- the carriage return
abbrev pub cr : ℕ
cr = 13

-- the one blank; a tab is an ordinary byte
abbrev pub space : ℕ
space = 32

-- `"`
abbrev pub double_quote : ℕ
double_quote = 34

-- `#`
abbrev pub hash : ℕ
hash = 35

-- `$`
abbrev pub dollar_sign : ℕ
dollar_sign = 36

-- `(`
abbrev pub left_parenthesis : ℕ
left_parenthesis = 40

-- `)`
abbrev pub right_parenthesis : ℕ
right_parenthesis = 41

-- `*`
abbrev pub asterisk : ℕ
asterisk = 42

-- `,`
abbrev pub comma : ℕ
comma = 44

-- `-`
abbrev pub hyphen : ℕ
hyphen = 45

-- `.`
abbrev pub full_stop : ℕ
full_stop = 46

-- `:`
abbrev pub colon : ℕ
colon = 58

-- `=`
abbrev pub equals_sign : ℕ
equals_sign = 61

-- `>`
abbrev pub greater_than : ℕ
greater_than = 62

-- `U`, which begins an escape of six digits
abbrev pub capital_u : ℕ
capital_u = 85

-- `[`
abbrev pub left_bracket : ℕ
left_bracket = 91

-- `\`
abbrev pub backslash : ℕ
backslash = 92

-- `]`
abbrev pub right_bracket : ℕ
right_bracket = 93

-- `_`
abbrev pub underscore : ℕ
underscore = 95

-- `u`, which begins an escape of four digits
abbrev pub small_u : ℕ
small_u = 117

-- `{`
abbrev pub left_brace : ℕ
left_brace = 123

-- `|`
abbrev pub vertical_bar : ℕ
vertical_bar = 124

-- `}`
abbrev pub right_brace : ℕ
right_brace = 125
