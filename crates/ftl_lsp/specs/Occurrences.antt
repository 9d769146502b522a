-- The names in a text, each where it is.
use Rattle.std.specs.Prelude.{◌≡◌, ◌==◌, ◌||◌, ◌+◌, ◌≤◌, ◌<◌, ◌⊎◌, ℕ, List, [], Bool, length, slice_index, slice_range}
use Rattle.std.specs.Prelude.{true, unwrap_or}
use Rattle.std.specs.Option.{option_map_or}
use Rattle.fluent_syntax_grammar.specs.Bytes.{dollar_sign, full_stop, hyphen}
use Rattle.fluent_syntax_tree.specs.declared.spans.Span.{Span}
use Rattle.ftl_lsp.specs.declared.documents.occurrences.Name.{Name}
use Rattle.ftl_lsp.specs.declared.documents.occurrences.Occurrence.{Occurrence}

-- where it is: its attribute's name, if it is one of an attribute
abbrev pub span_of : Occurrence → Span
span_of occurrence = unwrap_or occurrence.attribute occurrence.name

-- the text that is there
abbrev pub shown_of : Name → List ℕ
shown_of name = option_map_or (λ attribute. attribute.now) name.attribute name.name.now

-- The bytes are those of the span; there are none where the text has no such span.
abbrev pub IsCut : (t : List ℕ) → Span → (bytes : List ℕ) → Type 0
IsCut t span bytes = (bytes ≡ slice_range t span.start span.end) ⊎ (bytes ≡ [])

-- whether the byte is the `-` of a term, the `$` of a variable or the `.` of an attribute
abbrev pub is_mark : ℕ → Bool
is_mark b = (b == hyphen) || ((b == dollar_sign) || (b == full_stop))

-- The byte is such a mark, right before the span.
pub record IsMarked (t : List ℕ) (at : ℕ) (span : Span) : Type 0 where
  pub before : at + 1 ≡ span.start
  pub within : at < length t
  pub mark : is_mark (slice_index t at) ≡ true

-- The place is in the span, at its end, or at the mark before it.
abbrev pub IsAt : (t : List ℕ) → (at : ℕ) → Span → Type 0
IsAt t at span = ((span.start ≤ at) × (at ≤ span.end)) ⊎ IsMarked t at span

-- The bytes are those of a span at which the place is.
pub record IsNameAt (t : List ℕ) (at : ℕ) (bytes : List ℕ) : Type 0 where
  pub span : Span
  pub there : IsAt t at span
  pub cut : IsCut t span bytes
