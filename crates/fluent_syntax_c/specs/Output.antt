-- What a call leaves in the caller's memory.
use Rattle.std.specs.Prelude.{◌≡◌, ◌<◌, ◌++◌, ℕ, List, length, drop}
use Rattle.ftl.specs.declared.outcome.Outcome.{Outcome}
use Rattle.ftl.specs.declared.outcome.Outcome.TheVariants as outcome
use Rattle.fluent_syntax_c.specs.declared.status.Status.{Status}
use Rattle.fluent_syntax_c.specs.declared.status.Status.TheVariants.{Clean, SyntaxErrors, TooSmall, Refused, NotEdited}

module _ {A : Type 0} where
  -- The array has the items at its front, and after them what it had there; their number was given.
  abbrev pub FillsOutput : (items before after : List A) → (count : ℕ) → Type 0
  FillsOutput items before after count = (after ≡ items ++ drop (length items) before) × (count ≡ length items)

  -- The array is as it was, and this number was given.
  abbrev pub SetsCount : (before after : List A) → (count stated : ℕ) → Type 0
  SetsCount before after count stated = (after ≡ before) × (count ≡ stated)

  -- What a call leaves by how it ended, that is asked for these items of a text with this outcome.
  abbrev pub LeavesOutput : (List A → Outcome → Type 0) → (before after : List A) → (count : ℕ) → Status → Type 0
  LeavesOutput expected before after count Clean =
      (items : List A) × expected items outcome.Clean × FillsOutput items before after count
  LeavesOutput expected before after count SyntaxErrors =
      (items : List A) × expected items outcome.SyntaxErrors × FillsOutput items before after count
  LeavesOutput expected before after count TooSmall =
      (items : List A) × ((found : Outcome) × expected items found) × (length before < length items) ×
      SetsCount before after count (length items)
  LeavesOutput expected before after count (Refused refusal) = SetsCount before after count 0
  LeavesOutput expected before after count (NotEdited refusal) = SetsCount before after count 0
