-- Why a file is not answered.
use Rattle.std.specs.Prelude.{◌≡◌, ◌⊎◌, ℕ, List, Option, IfSome}
use Rattle.std.specs.Str.{IsUtf8}
use Rattle.std.specs.Str.Lossy.{utf8_valid_len}
use Rattle.std.specs.IoError.{error_kind}
use Rattle.std.specs.declared.io.Error.{Error}
use Rattle.std.specs.declared.io.ErrorKind.{ErrorKind}
use Rattle.std.specs.declared.io.ErrorKind.TheVariants.{OutOfMemory}
use Rattle.fluent_syntax_grammar.specs.Nesting.{NestsDeeper}
use Rattle.ftl.specs.FromJson as json
use Rattle.ftl_project.specs.declared.fault.Fault.{Fault}
use Rattle.ftl_project.specs.declared.fault.Fault.TheVariants.{Json, Memory, NotText, Read, TooDeep, Write}
use Rattle.ftl_files.specs.declared.options.Reading.{Reading}

-- the exit status of a call that failed: that of want of memory, where the system had none, or another
abbrev pub status_of_call : ErrorKind → (other : ℕ) → ℕ
status_of_call OutOfMemory other = 4
status_of_call _ other = other

-- the exit status of a fault
abbrev pub HasStatus : Fault → ℕ → Type 0
HasStatus (Read error) status = status ≡ status_of_call (error_kind error) 3
HasStatus (NotText invalid) status = status ≡ 3
HasStatus Memory status = status ≡ 4
HasStatus (Write error) status = status ≡ status_of_call (error_kind error) 5
HasStatus TooDeep status = status ≡ 6
HasStatus (Json fault) status = status ≡ json.json_status fault

-- The file failed so, and the status is that of its fault.
abbrev pub Fails : (Fault → Type 0) → ℕ → Type 0
Fails Is status = (fault : Fault) × Is fault × HasStatus fault status

-- ---- of a text

-- the text nests deeper than is read
abbrev pub IsTooDeep : Reading → List ℕ → Type 0
IsTooDeep reading text = NestsDeeper reading.edition text reading.nesting

-- Why a text was not parsed: memory was wanted, or it nests deeper than it may.
abbrev pub IsUnparsed : (deeper : Type 0) → Fault → Type 0
IsUnparsed deeper Memory = Unit {0}
IsUnparsed deeper TooDeep = deeper
IsUnparsed deeper _ = ⊥

-- Why the tree of a text was not written with its places: memory was wanted, or it nests deeper than it may.
abbrev pub IsUnplaced : (text : List ℕ) → Fault → Type 0
IsUnplaced text fault = IsUnparsed (Unit {0}) fault

-- Why a text was not converted: memory was wanted, or it spells no tree.
abbrev pub IsMisspelled : (text : List ℕ) → Fault → Type 0
IsMisspelled text Memory = Unit {0}
IsMisspelled text (Json fault) = json.IsFault text fault
IsMisspelled text _ = ⊥

-- ---- of a file

-- the bytes are no text, and from that place on they are none
abbrev pub IsNoText : (bytes : List ℕ) (place : ℕ) → Type 0
IsNoText bytes place = ¬ (IsUtf8 bytes) × (place ≡ utf8_valid_len bytes)

-- what was read of a file: its bytes, where these are known
abbrev pub IsRead : Option (List ℕ) → List ℕ → Type 0
IsRead bytes read = IfSome bytes (λ known. read ≡ known)

-- why a call of a store may fail on a file of these bytes
abbrev pub Failing : Type 1
Failing = Option (List ℕ) → Error → Type 0

module _ (CallFails : Failing) (bytes : Option (List ℕ)) where
  -- Why no text was read of the file: the call failed, or what was read is no text.
  abbrev pub IsUnread : Fault → Type 0
  IsUnread (Read error) = CallFails bytes error
  IsUnread (NotText invalid) = (read : List ℕ) × IsRead bytes read × IsNoText read invalid.place
  IsUnread _ = ⊥

  -- Why nothing was written in its place: the call failed.
  abbrev pub IsUnwritten : Fault → Type 0
  IsUnwritten (Write error) = CallFails bytes error
  IsUnwritten _ = ⊥

  -- Why the file was not answered: no text was read of it, or of the text that was read there is no answer.
  abbrev pub IsFault : (OfText : List ℕ → Fault → Type 0) → Fault → Type 0
  IsFault OfText fault = IsUnread fault ⊎ ((read : List ℕ) × IsRead bytes read × OfText read fault)
