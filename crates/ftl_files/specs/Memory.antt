-- The files that a store in memory has: what the changes so far have left, the newest first.
use Rattle.std.specs.Prelude.{◌≡◌, ◌⊎◌, ◌≤◌, ◌+◌, ℕ, List, [], ◌∷◌, Option, None, Some, Vec, zero, suc, drop, length}
use Rattle.std.specs.Prelude.{option_map, string_bytes, if◌then◌else◌}
use Rattle.std.specs.IoError.{error_kind}
use Rattle.std.specs.Str.{bytes_eq}
use Rattle.std.proofs.Common.{subst, sym}
use Rattle.std.proofs.Math.Arith.{add-le_cancel_left}
use Rattle.std.proofs.Math.Bridge.{no_suc-le-zero}
use Rattle.std.proofs.Math.Nat.{add-zero}
use Rattle.std.specs.declared.alloc.Global.{Global}
use Rattle.std.specs.declared.io.Error.{Error}
use Rattle.std.specs.declared.io.ErrorKind.TheVariants.{OutOfMemory}
use Rattle.ftl_files.specs.Files.{Files}
use Rattle.ftl_files.specs.declared.memory.Change.{Change}

-- the bytes that a change has left at its path
abbrev pub bytes_of : Option (Vec ℕ Global) → Option (List ℕ)
bytes_of bytes = option_map (λ b. b.items) bytes

-- what is at a path after the changes
abbrev pub bytes_at : List Change → List ℕ → Option (List ℕ)
bytes_at [] path = None
bytes_at (change ∷ before) path =
    if bytes_eq path (string_bytes change.path) then bytes_of change.bytes else bytes_at before path

-- why a call on the file fails: there is none, or memory was wanted
abbrev pub fails : Option (List ℕ) → Error → Type 0
fails bytes error = (bytes ≡ None) ⊎ (error_kind error ≡ OutOfMemory)

-- Each change is done at once and for good: a crash leaves what is there, and has left since a moment what was
-- there after some of the changes after it.
abbrev pub files_of : List Change → Files
files_of changes = record {
  bytes_at = bytes_at changes;
  may_hold = λ path bytes. bytes_at changes path ≡ Some bytes;
  may_leave = λ path left. left ≡ bytes_at changes path;
  moment = length changes;
  left_since = λ t path left. (undone : ℕ) × (t + undone ≤ length changes)
      × (left ≡ bytes_at (drop undone changes) path);
}

-- ---- this moment

undone_none : (changes : List Change) (path : List ℕ) (left : Option (List ℕ)) (undone : ℕ) → undone ≤ 0 →
    left ≡ bytes_at (drop undone changes) path → left ≡ bytes_at changes path
undone_none changes path left zero le is = is
undone_none changes path left (suc n) le is = absurd (no_suc-le-zero le)

-- it is one of those since an earlier one
pub counts_now : (changes : List Change) (t : ℕ) (path : List ℕ) (left : Option (List ℕ)) → t ≤ length changes →
    left ≡ bytes_at changes path → (files_of changes).left_since t path left
counts_now changes t path left le is = (0, subst (λ n. n ≤ length changes) (sym (add-zero t)) le, is)

-- since it there is no other
pub only_now : (changes : List Change) (path : List ℕ) (left : Option (List ℕ)) →
    (files_of changes).left_since (length changes) path left → left ≡ bytes_at changes path
only_now changes path left since =
    let none = add-le_cancel_left (length changes)
    (subst (λ n. length changes + since.0 ≤ n) (sym (add-zero (length changes))) since.1) in
    undone_none changes path left since.0 none since.2
