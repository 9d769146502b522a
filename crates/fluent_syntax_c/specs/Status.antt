-- The numbers of statuses.
use Rattle.std.specs.Prelude.{◌≡◌, ℕ}
use Rattle.fluent_syntax_c.specs.Rules.{rule_number}
use Rattle.fluent_syntax_c.specs.declared.status.Refusal.{Refusal}
use Rattle.fluent_syntax_c.specs.declared.status.Refusal.TheVariants.{Argument, Input, Memory, Depth, Tree}
use Rattle.fluent_syntax_c.specs.declared.status.EditRefusal.{EditRefusal}
use Rattle.fluent_syntax_c.specs.declared.status.EditRefusal.TheVariants.{NotFound, NotOneEntry, ReadsOtherwise}
use Rattle.fluent_syntax_c.specs.declared.status.EditRefusal.TheVariants.{NoValue, PartHasErrors, Overlap, NotCanonical}
use Rattle.fluent_syntax_c.specs.declared.status.Status.{Status}
use Rattle.fluent_syntax_c.specs.declared.status.Status.TheVariants.{Clean, SyntaxErrors, TooSmall, Refused, NotEdited}

abbrev pub refusal_number : Refusal → ℕ
refusal_number Argument = 2
refusal_number Input = 3
refusal_number Memory = 4
refusal_number Depth = 6
refusal_number Tree = 7

abbrev pub edit_refusal_number : EditRefusal → ℕ
edit_refusal_number NotFound = 8
edit_refusal_number NotOneEntry = 9
edit_refusal_number ReadsOtherwise = 10
edit_refusal_number NoValue = 11
edit_refusal_number PartHasErrors = 12
edit_refusal_number Overlap = 13
edit_refusal_number (NotCanonical rule) = rule_number rule

abbrev pub status_number : Status → ℕ
status_number Clean = 0
status_number SyntaxErrors = 1
status_number TooSmall = 5
status_number (Refused refusal) = refusal_number refusal
status_number (NotEdited refusal) = edit_refusal_number refusal

-- The number is that of a status of which this holds.
abbrev pub EndsAs : (number : ℕ) → (Status → Type 0) → Type 0
EndsAs number holds = (status : Status) × (number ≡ status_number status) × holds status
