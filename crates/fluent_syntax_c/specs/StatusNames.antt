-- The names of statuses.
use Rattle.std.specs.Prelude.{◌≡◌, ◌-◌, ℕ, List, [], ◌∷◌, Option, Some, codes, nat_le, slice_get, if◌then◌else◌}
use Rattle.ftl.specs.declared.outcome.Outcome.{Outcome}
use Rattle.ftl.specs.declared.outcome.Outcome.TheVariants.{Clean}

-- the names of the statuses from 0 on
abbrev pub first_names : List (List ℕ)
first_names =
    codes "Clean" ∷ codes "SyntaxErrors" ∷ codes "WrongArgument" ∷ codes "NotUtf8" ∷ codes "NoMemory" ∷
    codes "TooSmall" ∷ codes "TooDeep" ∷ codes "NoTree" ∷ codes "NotFound" ∷ codes "NotOneEntry" ∷
    codes "ReadsOtherwise" ∷ codes "NoValue" ∷ codes "PartHasErrors" ∷ codes "Overlap" ∷ []

-- the names of the rules of canonical trees, which are statuses from 101 on
abbrev pub rule_names : List (List ℕ)
rule_names =
    codes "Junk" ∷ codes "EmptyMessage" ∷ codes "LfInComment" ∷ codes "EmptyPattern" ∷ codes "EmptyText" ∷
    codes "BraceInText" ∷ codes "CrBeforeLf" ∷ codes "LfWithinText" ∷ codes "TextAfterText" ∷
    codes "BlankFirstText" ∷ codes "LeadingSpace" ∷ codes "BlankEnd" ∷ codes "LineOfSpaces" ∷ codes "MarkedLine" ∷
    codes "ForbiddenSelector" ∷ codes "SecondDefault" ∷ codes "TermAttribute" ∷ codes "ForbiddenCallee" ∷
    codes "ForbiddenArgument" ∷ codes "RepeatedArgument" ∷ codes "MisspelledString" ∷ codes "MisspelledNumber" ∷
    codes "MisspelledName" ∷ codes "EmptyComment" ∷ codes "BlankCommentLine" ∷ codes "HiddenMark" ∷
    codes "CommonIndent" ∷ codes "SpacesOnBlankLine" ∷ codes "NoDefault" ∷ []

-- the name of the status of the number, if one has it
abbrev pub status_name : ℕ → Option (List ℕ)
status_name n = if nat_le 101 n then slice_get rule_names (n - 101) else slice_get first_names n

-- The bytes are the name of the status of the number; there is nothing that could have errors.
abbrev pub IsStatusName : (number : ℕ) (name : List ℕ) (outcome : Outcome) → Type 0
IsStatusName number name outcome = (status_name number ≡ Some name) × (outcome ≡ Clean)
