-- How errors move, replacement by replacement.
use Rattle.std.specs.Prelude.{◌≡◌, ℕ, ◌≤◌, List, drop, Option, Some, None}
use Rattle.fluent_syntax_grammar.specs.Tiling.{Fault}
use Rattle.fluent_syntax_edits.specs.SeveralEdits.{moved_by, shifted_fault}
use Rattle.fluent_syntax_edits.specs.declared.drafts.Replacement.{Replacement}
use Rattle.fluent_syntax_edits.specs.declared.moved_errors.Passed.{Passed}

-- where the junk of an error ends, or the place, if it became none
abbrev pub junk_end : Option Fault → (place : ℕ) → ℕ
junk_end None place = place
junk_end (Some f) place = f.slice.end

-- An error whose junk ends there, or after, moves by the first replacements as far as they have been passed.
abbrev pub MoveFrom : List Replacement → Passed → Type 0
MoveFrom rs p = (f : Fault) → p.end ≤ f.slice.end → moved_by 0 0 rs f ≡ moved_by p.from p.to (drop p.count rs) f

-- An error whose junk ends there moves by those that have been passed alone.
abbrev pub MoveBy : List Replacement → Passed → Type 0
MoveBy rs p = (f : Fault) → f.slice.end ≡ p.end → moved_by 0 0 rs f ≡ shifted_fault p.from p.to f
