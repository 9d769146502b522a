-- Runs over files: each file is met once, in order, and counted.
use Rattle.std.specs.Io.KnownBytes.{Appends}
use Rattle.std.specs.Prelude.{◌≡◌, ℕ, List, [], ◌∷◌, Bool, Option, String, string_bytes}
use Rattle.std.specs.Global.{Global}
use Rattle.ftl_project.specs.Faults.{Failing, Fails, IsFault, IsRead}
use Rattle.ftl_project.specs.Tally.{Processed, answered, counted, failed}
use Rattle.ftl_project.specs.declared.fault.Fault.{Fault}
use Rattle.ftl_project.specs.declared.tally.Tally.{Tally}

-- A file was met so, with a text for it: it was counted, and the text was written after what was written before.
abbrev pub Writes : (Processed → List ℕ → Type 0) → (old new : Tally) → (before after : Option (List ℕ)) → Type 0
Writes Is old new before after =
    (processed : Processed) × (text : List ℕ) × Is processed text × (new ≡ counted old processed)
    × Appends before after text

-- So was each of the files, one after another.
abbrev pub WritesEach : {A : Type 0} → (A → Processed → List ℕ → Type 0) → List A → (old new : Tally) →
    (before after : Option (List ℕ)) → Type 0
WritesEach Processes [] old new before after = (new ≡ old) × Appends before after []
WritesEach Processes (file ∷ files) old new before after = (now : Tally) × (between : Option (List ℕ))
    × Writes (Processes file) old now before between × WritesEach Processes files now new between after

-- what is said of the text of a file: how many errors it has, whether it has problems, and what is written
abbrev pub TaskAnswers : Type 1
TaskAnswers = (path text : List ℕ) (errors : ℕ) (has_problems : Bool) (written : List ℕ) → Type 0

module _ (CallFails : Failing) (Is : TaskAnswers) (OfText : List ℕ → Fault → Type 0) where
  -- How a file of these bytes is met: what was read of it is answered so; or it failed, and nothing is written.
  abbrev pub ProcessesFile : (path : List ℕ) → Option (List ℕ) → Processed → (written : List ℕ) → Type 0
  ProcessesFile path bytes (answered errors warnings has_problems) written =
      (read : List ℕ) × IsRead bytes read × Is path read errors has_problems written × (warnings ≡ 0)
  ProcessesFile path bytes (failed status) written = Fails (IsFault CallFails bytes OfText) status × (written ≡ [])

  -- So are all of the files, one after another.
  abbrev pub AnswersEach : (at : List ℕ → Option (List ℕ)) → List (String Global) → (old new : Tally) →
      (before after : Option (List ℕ)) → Type 0
  AnswersEach at = WritesEach (λ file. ProcessesFile (string_bytes file) (at (string_bytes file)))
