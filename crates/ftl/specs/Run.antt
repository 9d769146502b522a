-- What a run writes, and how it may fail.
use Rattle.std.specs.Prelude.{◌≡◌, ◌⊎◌, ◌++◌, ℕ, List, Bool, true, Option, Some, None, IfSome, Result, Ok, Err}
use Rattle.std.specs.Io.KnownBytes.{Appends}
use Rattle.std.specs.Str.{IsUtf8}
use Rattle.ftl.specs.Answer.{IsAnswer}
use Rattle.ftl.specs.declared.command.Command.{Command}
use Rattle.ftl.specs.declared.outcome.Outcome.{Outcome}
use Rattle.ftl.specs.declared.outcome.RunFault.{RunFault}
use Rattle.ftl.specs.declared.outcome.RunFault.TheVariants.{Input, Memory, Output}

-- the bytes are no UTF-8; of bytes that are not known nothing is said
abbrev pub IsNoText : Option (List ℕ) → Type 0
IsNoText None = Unit {0}
IsNoText (Some bytes) = ¬ (IsUtf8 bytes)

-- `Input` only where the reader failed or the input is not UTF-8, and `Output` only where the writer failed
abbrev pub FailsAs : Option (List ℕ) → (reader_failed writer_failed : Bool) → Result Outcome RunFault → Type 0
FailsAs input reader_failed writer_failed (Ok outcome) = Unit {0}
FailsAs input reader_failed writer_failed (Err Input) = (reader_failed ≡ true) ⊎ IsNoText input
FailsAs input reader_failed writer_failed (Err Memory) = Unit {0}
FailsAs input reader_failed writer_failed (Err Output) = writer_failed ≡ true

-- of the known bytes a beginning of the text was appended
abbrev pub AppendsBeginning : Option (List ℕ) → Option (List ℕ) → List ℕ → Type 0
AppendsBeginning old new text = (front : List ℕ) × ((rest : List ℕ) × (text ≡ front ++ rest)) × Appends old new front

-- The text and the outcome are the command's of what was read: of the reader's bytes, where these are known.
pub record IsRunAnswer (command : Command) (input : Option (List ℕ)) (text : List ℕ) (outcome : Outcome) : Type 0 where
  pub read : List ℕ
  pub is_input : IfSome input (λ bytes. read ≡ bytes)
  pub answer : IsAnswer command read text outcome

-- The command's text of what was read was written, with its outcome; after `Output` a beginning of it. Only UTF-8 has
-- such a text: for any other bytes the result is `Input` or `Memory`.
abbrev pub WritesAnswer : Command → (input old new : Option (List ℕ)) → Result Outcome RunFault → Type 0
WritesAnswer command input old new (Ok outcome) =
    (text : List ℕ) × IsRunAnswer command input text outcome × Appends old new text
WritesAnswer command input old new (Err Output) =
    (text : List ℕ) × (outcome : Outcome) × IsRunAnswer command input text outcome × AppendsBeginning old new text
WritesAnswer command input old new (Err Input) = Unit {0}
WritesAnswer command input old new (Err Memory) = Unit {0}

-- where something was written, the text or a beginning of it
abbrev pub IfWritten : Result Outcome RunFault → Type 0 → Type 0
IfWritten (Ok outcome) holds = holds
IfWritten (Err Output) holds = holds
IfWritten (Err Input) holds = Unit {0}
IfWritten (Err Memory) holds = Unit {0}
