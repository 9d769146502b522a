-- What formatting in place does to a file.
use Rattle.std.specs.Prelude.{◌≡◌, ◌≢◌, ◌⊎◌, ℕ, List, [], ◌∷◌, Option, None, Some, Result, Ok, Err, false, length, min}
use Rattle.std.specs.Prelude.{slice_get, string_bytes}
use Rattle.fluent_syntax.specs.Lines.{column_at, line_at}
use Rattle.fluent_syntax_grammar.specs.Body.{body}
use Rattle.fluent_syntax_grammar.specs.RoundTrip.{ReadsAs}
use Rattle.fluent_syntax_grammar.specs.Tiling.{Tile, Tiling}
use Rattle.fluent_syntax_grammar.specs.Written.{Text}
use Rattle.fluent_syntax_writer.specs.Uncanonical.{IsFirstBroken}
use Rattle.fluent_syntax_writer.specs.declared.canonical.broken_rules.Uncanonical.{Uncanonical}
use Rattle.fluent_syntax_tree.specs.Entry.{BodyTree, EntryTree, comment, junk, message, term}
use Rattle.fluent_syntax_tree.specs.declared.edition.Edition.{Edition}
use Rattle.fluent_syntax_tree.specs.declared.spans.Span.{Span}
use Rattle.ftl.specs.Lossless.{is_lossless, reread_tree}
use Rattle.ftl_files.specs.Store.{AllUnchanged, Becomes, OthersUnchanged}
use Rattle.ftl_project.specs.Errors.{IsRefused}
use Rattle.ftl_project.specs.Faults.{Failing, IsFault, IsRead, IsTooDeep, IsUnparsed, IsUnwritten}
use Rattle.ftl_project.specs.Lossless.{IsRewriting}
use Rattle.ftl_project.specs.declared.fault.Fault.{Fault}
use Rattle.ftl_files.specs.declared.options.BlankLines.TheVariants.{Normal}
use Rattle.ftl_files.specs.declared.options.Reading.{Reading}
use Rattle.ftl_project.specs.declared.formatting.replacement.FormatOptions.{FormatOptions}
use Rattle.ftl_project.specs.declared.formatting.replacement.Replacement.{Replacement}
use Rattle.ftl_project.specs.declared.formatting.replacement.Replacement.TheVariants.{Errors, Same, Lossy}
use Rattle.ftl_project.specs.declared.formatting.replacement.Replacement.TheVariants as replacement
use Rattle.ftl_project.specs.declared.formatting.lossy_entry.LossyEntry.{LossyEntry}

-- ---- the entry by which a text is not safe to write

-- where the first line of a comment is
abbrev pub first_start : List Span → ℕ
first_start [] = 0
first_start (line ∷ lines) = line.start

-- where an entry has its name, or its text where it has none
abbrev pub named_at : EntryTree Span → ℕ
named_at (message m) = m.id.start
named_at (term m) = m.id.start
named_at (comment level lines) = first_start lines
named_at (junk content) = content.start

abbrev pub place_of_entry : Option (EntryTree Span) → ℕ
place_of_entry None = 0
place_of_entry (Some entry) = named_at entry

-- the place of the entry of that number in a text
abbrev pub entry_place : (text : Text) → List (EntryTree Span) → (number : ℕ) → ℕ
entry_place text entries number = min (place_of_entry (slice_get entries number)) (length text)

-- It is where the text has the entry, and breaks the rule.
abbrev pub IsEntryAt : Edition → Text → Uncanonical → LossyEntry → Type 0
IsEntryAt edition text broken entry = (tiles : List Tile) × Tiling edition text tiles
    × (entry ≡ record {
      line = line_at text (entry_place text (body tiles) broken.entry);
      column = column_at text (entry_place text (body tiles) broken.entry);
      rule = broken.rule;
    })

-- The bytes have no error, and are not safe to write; and that is the first entry by which they are not.
pub record IsLossy (edition : Edition) (bytes : Text) (entry : LossyEntry) : Type 0 where
  pub tree : BodyTree Text
  pub reads : ReadsAs edition bytes tree
  pub lossy : is_lossless edition tree ≡ false
  pub broken : Uncanonical
  pub first : IsFirstBroken edition (reread_tree edition tree) broken
  pub entry_is : IsEntryAt edition bytes broken entry

-- ---- what is to come in the place of a text

abbrev pub IsReplacement : FormatOptions → List ℕ → Replacement → Type 0
IsReplacement options bytes Same = IsRewriting options bytes bytes
IsReplacement options bytes (replacement.Text text) =
    IsRewriting options bytes (string_bytes text) × (string_bytes text ≢ bytes)
IsReplacement options bytes (Errors refused) = IsRefused options.reading.edition bytes refused.errors.items
IsReplacement options bytes (Lossy entry) = IsLossy options.reading.edition bytes entry

abbrev pub lossy_entry_of : Replacement → Option LossyEntry
lossy_entry_of (Lossy entry) = Some entry
lossy_entry_of _ = None

-- The entry is that of the text's replacement, if it has one.
abbrev pub FindsLossy : Reading → Text → Option LossyEntry → Type 0
FindsLossy reading bytes found = (replacement : Replacement)
    × IsReplacement (record { reading = reading; blank_lines = Normal }) bytes replacement
    × (found ≡ lossy_entry_of replacement)

-- ---- what a file becomes whose bytes are replaced by such texts

module _ (IsNext : (bytes text : List ℕ) → Type 0) where
  -- where the bytes were known, such a text is there now
  abbrev pub BecomesBy : (old new : Option (List ℕ)) → Type 0
  BecomesBy None new = Unit {0}
  BecomesBy (Some bytes) new = (text : List ℕ) × IsNext bytes text × (new ≡ Some text)

  -- A file is as it was, or has become so what it is, once or more often where a run came to it so.
  pub data ReachesBy : (old new : Option (List ℕ)) → Type 0 where
    stays : {bytes : Option (List ℕ)} → ReachesBy bytes bytes
    goes : {old now new : Option (List ℕ)} → ReachesBy old now → BecomesBy now new → ReachesBy old new

  -- so does each file
  abbrev pub AllReachBy : (old new : List ℕ → Option (List ℕ)) → Type 0
  AllReachBy old new = (path : List ℕ) → ReachesBy (old path) (new path)

-- ---- a file

-- where the bytes were known, a rewriting of them is there now
abbrev pub BecomesRewriting : FormatOptions → (old new : Option (List ℕ)) → Type 0
BecomesRewriting options = BecomesBy (IsRewriting options)

-- A text has come in the file's place, and no other file was touched; or all files are as they were.
abbrev pub Puts : Replacement → (path : List ℕ) → (old new : List ℕ → Option (List ℕ)) → Type 0
Puts (replacement.Text text) path old new = Becomes (old path) (new path) (string_bytes text)
    × OthersUnchanged old new path
Puts _ path old new = AllUnchanged old new

-- The replacement of what was read of the file was put in its place; after a fault the old bytes are there, or a
-- rewriting of them.
abbrev pub Rewrites : Failing → FormatOptions → (path : List ℕ) → (old new : List ℕ → Option (List ℕ)) →
    Result Replacement Fault → Type 0
Rewrites CallFails options path old new (Ok replacement) = (read : List ℕ) × IsRead (old path) read
    × IsReplacement options read replacement × Puts replacement path old new
Rewrites CallFails options path old new (Err fault) =
    ((new path ≡ old path) ⊎ BecomesRewriting options (old path) (new path)) × OthersUnchanged old new path
    × (IsFault CallFails (old path) (λ text. IsUnparsed (IsTooDeep options.reading text)) fault
    ⊎ IsUnwritten CallFails (old path) fault)

-- A file is as it was, or has become a rewriting of what it was, once or more often.
abbrev pub Reaches : FormatOptions → (old new : Option (List ℕ)) → Type 0
Reaches options = ReachesBy (IsRewriting options)

-- so does each file
abbrev pub AllReach : FormatOptions → (old new : List ℕ → Option (List ℕ)) → Type 0
AllReach options = AllReachBy (IsRewriting options)
