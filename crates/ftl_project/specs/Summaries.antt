-- Lines that are reported.
use Rattle.std.specs.Prelude.{ℕ, Bool, true, false, ◌-◌, ◌==◌, List, [], ◌++◌, Option, None, Some, codes, if◌then◌else◌}
use Rattle.std.specs.Fmt.{decimal}
use Rattle.ftl_project.specs.Excerpt.{shown_text}
use Rattle.ftl_project.specs.declared.comparing.share.Share.{Share}
use Rattle.ftl_project.specs.declared.fault.Fault.{Fault}
use Rattle.ftl_project.specs.declared.fault.Fault.TheVariants.{Json, Memory, NotText, Read, TooDeep, Write}
use Rattle.ftl_project.specs.declared.tally.Tally.{Tally}
use Rattle.ftl_project.specs.declared.formatting.lossy_entry.LossyEntry.{LossyEntry}

abbrev pub file_count_of : ℕ → List ℕ
file_count_of files = if files == 1 then codes "1 file" else decimal files ++ codes " files"

abbrev pub error_count_of : ℕ → List ℕ
error_count_of errors = if errors == 1 then codes "1 error" else decimal errors ++ codes " errors"

-- how many errors there are, if there are some, and in how many of how many files; where each was answered and none has
-- an error that too
abbrev pub errors_in_files : Tally → List ℕ
errors_in_files tally =
    if tally.errors == 0
    then file_count_of tally.files ++ (if tally.fault == 0 then codes ", no errors" else [])
    else error_count_of tally.errors ++ codes " in " ++ decimal tally.with_problems ++ codes " of " ++
    file_count_of tally.files

-- how many warnings there are, if there are some
abbrev pub warnings_part : ℕ → List ℕ
warnings_part warnings =
    if warnings == 0 then []
    else (if warnings == 1 then codes ", 1 warning" else codes ", " ++ decimal warnings ++ codes " warnings")

-- the errors with the files, and the warnings
abbrev pub check_summary_of : Tally → List ℕ
check_summary_of tally = errors_in_files tally ++ warnings_part tally.warnings ++ codes "\n"

-- how many files are not in normal form, if there are some, and how many files
abbrev pub format_summary_of : Tally → List ℕ
format_summary_of tally =
    if tally.with_problems == 0 then file_count_of tally.files ++ codes "\n"
    else decimal tally.with_problems ++ codes " of " ++ file_count_of tally.files ++ codes " not in normal form\n"

-- how much of the reference is there
abbrev pub share_line_of : Share → List ℕ
share_line_of share =
    decimal (share.wanted - share.missing) ++ codes " of " ++ decimal share.wanted ++
    codes " messages and terms are there\n"

-- a place in a file, a note, and a text for its rule
abbrev pub placed_note : (path : List ℕ) (line column : ℕ) (note rule : List ℕ) → List ℕ
placed_note path line column note rule =
    path ++ codes ":" ++ decimal line ++ codes ":" ++ decimal column ++ codes ": " ++ note ++ codes ": " ++ rule ++
    codes "\n"

-- the same of an entry
abbrev pub lossy_entry_line_of : (path : List ℕ) → LossyEntry → (note rule : List ℕ) → List ℕ
lossy_entry_line_of path entry note rule = placed_note (shown_text path) entry.line entry.column note rule

-- of an entry by which what was written does not read back, with a text for its rule; of none nothing
abbrev pub lossy_note_of : (path : List ℕ) → Option LossyEntry → (rule : List ℕ) → List ℕ
lossy_note_of path None rule = []
lossy_note_of path (Some entry) rule =
    lossy_entry_line_of path entry (codes "what is written does not read back") rule

-- what is said of bytes that are no UTF-8, by whether they begin with the byte order mark of UTF-16
abbrev pub utf16_guess : Bool → List ℕ
utf16_guess true = codes "; it begins as UTF-16 does"
utf16_guess false = []

-- what a fault says; what the system or the JSON says is not known
abbrev pub fault_text : Fault → Option (List ℕ)
fault_text (Read error) = None
fault_text (NotText invalid) = Some
    (codes "is not UTF-8 from byte " ++ decimal invalid.place ++ codes " on, at " ++ decimal invalid.line ++ codes ":"
    ++ decimal invalid.column ++ utf16_guess invalid.is_utf16)
fault_text Memory = Some (codes "no memory")
fault_text (Write error) = None
fault_text TooDeep = Some (codes "nests deeper than it may")
fault_text (Json fault) = None
