-- The names of named arguments, as a table notes them.
use Rattle.std.specs.Prelude.{◌≡◌, ◌<◌, ◌≤◌, ℕ, List, [], length}
use Rattle.fluent_syntax_grammar.specs.NameKeys.{NotesAll}

module _ {K : Type 0} (text : K → List ℕ) where
  -- of few names none is noted, and of many all are
  abbrev pub Notes : List K → List (List ℕ) → Type 0
  Notes keys names = (length names < 32 → keys ≡ []) × (32 ≤ length names → NotesAll text keys names)
