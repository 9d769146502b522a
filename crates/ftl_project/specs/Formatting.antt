-- What a run that formats does with each file, and how it counts it.
use Rattle.std.specs.Prelude.{◌≡◌, ◌++◌, ℕ, List, [], ◌∷◌, All, length, Bool, true, false, Option, None, Some}
use Rattle.std.specs.Prelude.{Result, Ok, Err, String, codes, string_bytes}
use Rattle.std.specs.Global.{Global}
use Rattle.ftl.specs.Answer.{IsAnswer}
use Rattle.ftl.specs.declared.outcome.Outcome.{Outcome}
use Rattle.ftl_files.specs.Store.{AllUnchanged}
use Rattle.ftl_project.specs.Excerpt.{shown_text}
use Rattle.ftl_project.specs.Faults.{Failing, HasStatus}
use Rattle.ftl_project.specs.Rewriting.{IsReplacement, Rewrites}
use Rattle.ftl_project.specs.Runs.{TaskAnswers}
use Rattle.ftl_project.specs.Answered.{has_errors}
use Rattle.ftl_project.specs.Lossless.{IsRewriting, IsWritten, format_of}
use Rattle.ftl_project.specs.Tally.{Processed, answered, counted, failed}
use Rattle.ftl_project.specs.declared.fault.Fault.{Fault}
use Rattle.ftl_project.specs.declared.formatting.replacement.FormatOptions.{FormatOptions}
use Rattle.ftl_project.specs.declared.formatting.replacement.Replacement.{Replacement}
use Rattle.ftl_project.specs.declared.formatting.replacement.Replacement.TheVariants.{Errors, Same, Text, Lossy}
use Rattle.ftl_project.specs.declared.tally.Tally.{Tally}

-- how many errors are counted of a text with this replacement
abbrev pub errors_in : Replacement → ℕ
errors_in (Errors refused) = length refused.errors.items
errors_in _ = 0

-- whether the text is left as it is, though it is not in its normal form
abbrev pub is_left_unchanged : Replacement → Bool
is_left_unchanged (Errors refused) = true
is_left_unchanged (Lossy entry) = true
is_left_unchanged _ = false

-- ---- in place

-- how a file is met of which this became
abbrev pub IsProcessed : Result Replacement Fault → Processed → Type 0
IsProcessed (Ok replacement) processed = processed ≡ answered (errors_in replacement) 0 (is_left_unchanged replacement)
IsProcessed (Err fault) processed = (status : ℕ) × HasStatus fault status × (processed ≡ failed status)

module _ (CallFails : Failing) (options : FormatOptions) where
  -- A file was rewritten, or left as it is, and counted by what became of it.
  abbrev pub Formats : (path : List ℕ) → (old new : List ℕ → Option (List ℕ)) → (before after : Tally) → Type 0
  Formats path old new before after = (result : Result Replacement Fault)
      × Rewrites CallFails options path old new result × (processed : Processed) × IsProcessed result processed
      × (after ≡ counted before processed)

  -- So was each of the files, one after another.
  abbrev pub FormatsEach : List (String Global) → (old new : List ℕ → Option (List ℕ)) → (before after : Tally) → Type 0
  FormatsEach [] old new before after = AllUnchanged old new × (after ≡ before)
  FormatsEach (file ∷ files) old new before after =
      (now : List ℕ → Option (List ℕ)) × (between : Tally) × Formats (string_bytes file) old now before between
      × FormatsEach files now new between after

-- The bytes that are known have become their rewriting, if they have one.
abbrev pub IsNormal : FormatOptions → (old new : Option (List ℕ)) → Type 0
IsNormal options None new = Unit {0}
IsNormal options (Some bytes) new = (text : List ℕ) → IsRewriting options bytes text → new ≡ Some text

-- So has each of the files.
abbrev pub AllNormal : FormatOptions → List (String Global) → (old new : List ℕ → Option (List ℕ)) → Type 0
AllNormal options files old new = All (λ file. IsNormal options (old (string_bytes file)) (new (string_bytes file)))
    files

-- ---- by name

-- whether a text with this replacement is not in its normal form
abbrev pub is_not_normal : Replacement → Bool
is_not_normal Same = false
is_not_normal _ = true

-- its path, on a line, where it is to get another text
abbrev pub name_of : (path : List ℕ) → Replacement → List ℕ
name_of path (Text text) = shown_text path ++ codes "\n"
name_of path _ = []

-- of a text of which it is shown what would change: how that is shown is for people
abbrev pub IsShown : FormatOptions → TaskAnswers
IsShown options path text errors has_problems shown = (replacement : Replacement)
    × IsReplacement options text replacement × (errors ≡ errors_in replacement)
    × (has_problems ≡ is_not_normal replacement)

-- of a text that is named where it would change
abbrev pub IsNamed : FormatOptions → TaskAnswers
IsNamed options path text errors has_problems named = (replacement : Replacement)
    × IsReplacement options text replacement × (errors ≡ errors_in replacement)
    × (has_problems ≡ is_not_normal replacement) × (named ≡ name_of path replacement)

-- ---- on standard output

-- The text is printed as its normal text, with the blank lines that are kept, and with that outcome.
abbrev pub IsPrintedAs : FormatOptions → (text printed : List ℕ) → Outcome → Type 0
IsPrintedAs options text printed outcome = (normal : List ℕ)
    × IsAnswer (format_of options.reading.edition) text normal outcome
    × IsWritten options.blank_lines options.reading.edition text normal printed

-- of a text that is so printed
abbrev pub IsFormatted : FormatOptions → TaskAnswers
IsFormatted options path text errors has_problems printed =
    (outcome : Outcome) × IsPrintedAs options text printed outcome × (errors ≡ 0) × (has_problems ≡ has_errors outcome)
