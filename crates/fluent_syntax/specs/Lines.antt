-- Lines and columns of a text, both from 1; columns count bytes.
use Rattle.std.specs.Prelude.{ℕ, ◌+◌, List, ◌==◌, not, take, count_by}
use Rattle.std.specs.List.{suffix_len}
use Rattle.fluent_syntax_grammar.specs.Bytes.{lf}

-- 1 and the number of LFs before the place
abbrev pub line_at : List ℕ → ℕ → ℕ
line_at t place = 1 + count_by (λ b. b == lf) (take place t)

-- 1 and the number of bytes from the line's start to the place
abbrev pub column_at : List ℕ → ℕ → ℕ
column_at t place = 1 + suffix_len (λ b. not (b == lf)) (take place t)
