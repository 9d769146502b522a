-- Names with a `*`.
use Rattle.std.specs.Prelude.{ℕ, ◌==◌, Bool, true, false, ◌&&◌, ◌||◌, List, [], ◌∷◌, if◌then◌else◌}
use Rattle.ftl_files.specs.declared.patterns.Outcome.{Outcome}
use Rattle.ftl_files.specs.declared.patterns.Outcome.TheVariants as declared

-- whether it holds of what the name ends in, from some byte on, or of nothing
abbrev pub of_some_end : (List ℕ → Bool) → List ℕ → Bool
of_some_end holds [] = holds []
of_some_end holds (byte ∷ name) = holds (byte ∷ name) || of_some_end holds name

-- whether the name begins with the byte, and it holds of what follows
abbrev pub of_rest : ℕ → (List ℕ → Bool) → List ℕ → Bool
of_rest byte holds [] = false
of_rest byte holds (first ∷ name) = byte == first && holds name

abbrev pub is_empty : List ℕ → Bool
is_empty [] = true
is_empty (byte ∷ bytes) = false

-- whether the pattern is the name, where each `*` in it means any characters
abbrev pub name_matches : (pattern name : List ℕ) → Bool
name_matches [] = is_empty
name_matches (byte ∷ pattern) =
    if byte == 42 then of_some_end (name_matches pattern) else of_rest byte (name_matches pattern)

-- What comes of a pattern and a name up to the first `*`: they are the same, or differ, or this is left of both.
pub data Meeting : Type 0 where
  same : Meeting
  differs : Meeting
  star : (pattern name : List ℕ) → Meeting

abbrev pub meets_nothing : (name : List ℕ) → Meeting
meets_nothing [] = same
meets_nothing (byte ∷ name) = differs

abbrev pub meets_byte : ℕ → (List ℕ → Meeting) → (name : List ℕ) → Meeting
meets_byte byte meets [] = differs
meets_byte byte meets (first ∷ name) = if byte == first then meets name else differs

abbrev pub meeting : (pattern name : List ℕ) → Meeting
meeting [] name = meets_nothing name
meeting (byte ∷ pattern) name = if byte == 42 then star pattern name else meets_byte byte (meeting pattern) name

abbrev pub meeting_of : Outcome → Meeting
meeting_of declared.Same = same
meeting_of declared.Differs = differs
meeting_of (declared.Star pattern name) = star pattern.now name.now
