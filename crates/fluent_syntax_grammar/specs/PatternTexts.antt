-- Tests of the texts of a pattern.
use Rattle.std.specs.Prelude.{ℕ, ◌+◌, [], ◌∷◌, None, Bool, true, false, ◌&&◌, ◌||◌, ◌==◌, not, if◌then◌else◌}
use Rattle.std.specs.List.{list_all}
use Rattle.fluent_syntax_tree.specs.Text.{is_trimmed}
use Rattle.fluent_syntax_grammar.specs.Bytes.{lf, cr, is_space, left_brace, right_brace}
use Rattle.fluent_syntax_grammar.specs.Places.{holds}
use Rattle.fluent_syntax_grammar.specs.Written.{Text, last_of, is_last}

abbrev pub is_empty : Text → Bool
is_empty [] = true
is_empty (b ∷ bs) = false

abbrev pub is_lone_lf : Text → Bool
is_lone_lf [] = false
is_lone_lf (b ∷ bs) = b == lf && is_empty bs

-- `{` or `}`
abbrev pub is_brace : ℕ → Bool
is_brace b = b == left_brace || b == right_brace

-- a CR directly before an LF
abbrev pub has_crlf : Text → Bool
has_crlf [] = false
has_crlf (b ∷ []) = false
has_crlf (b ∷ c ∷ bs) = b == cr && c == lf || has_crlf (c ∷ bs)

-- ---- how a text begins

-- spaces alone, without LF
abbrev pub is_spaces : Text → Bool
is_spaces v = list_all is_space v

abbrev pub begins_with_space : Text → Bool
begins_with_space [] = false
begins_with_space (b ∷ bs) = is_space b

-- how many spaces begin it
abbrev pub leading_spaces : Text → ℕ
leading_spaces [] = 0
leading_spaces (b ∷ bs) = if is_space b then leading_spaces bs + 1 else 0

-- the text without the spaces that begin it
abbrev pub after_spaces : Text → Text
after_spaces [] = []
after_spaces (b ∷ bs) = if is_space b then after_spaces bs else b ∷ bs

-- ---- how a text ends

abbrev pub ends_in_lf : Text → Bool
ends_in_lf v = is_last lf (last_of None v)

-- the last byte is no space, CR or LF
abbrev pub ends_plainly : Text → Bool
ends_plainly v = holds (λ b. not (is_trimmed b)) (last_of None v)
