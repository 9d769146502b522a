-- Line ends of a header.
use Rattle.std.specs.Prelude.{◌≡◌, ◌+◌, ◌<◌, ◌≤◌, ℕ, List, length, slice_index}
use Rattle.fluent_syntax_grammar.specs.Bytes.{lf, cr}
use Rattle.ftl_lsp.specs.declared.limits.TheConstants.{HEADER_LIMIT}

-- there is a CRLF
abbrev pub IsCrlfAt : List ℕ → ℕ → Type 0
IsCrlfAt t at = (slice_index t at ≡ cr) × (slice_index t (at + 1) ≡ lf)

-- The first line ends there: at the first CRLF, or at the end.
pub record IsLineEnd (t : List ℕ) (at : ℕ) : Type 0 where
  pub within : at ≤ length t
  pub first : (k : ℕ) → k < at → ¬ (IsCrlfAt t k)
  pub ends : at < length t → IsCrlfAt t at

-- The header ends there: before the first CRLF that another follows.
pub record IsHeaderEnd (t : List ℕ) (at : ℕ) : Type 0 where
  pub line : IsCrlfAt t at
  pub empty : IsCrlfAt t (at + 2)
  pub first : (k : ℕ) → k < at → ¬ (IsCrlfAt t k × IsCrlfAt t (k + 2))

-- a header of no more bytes than the limit ends there
pub record HeaderOf (t : List ℕ) (at : ℕ) : Type 0 where
  pub ends : IsHeaderEnd t at
  pub short : at + 4 ≤ HEADER_LIMIT
  pub within : at + 4 ≤ length t

-- no header ends within the limit
abbrev pub NoHeader : List ℕ → Type 0
NoHeader t = (k : ℕ) → k + 4 ≤ HEADER_LIMIT → ¬ (IsCrlfAt t k × IsCrlfAt t (k + 2))
