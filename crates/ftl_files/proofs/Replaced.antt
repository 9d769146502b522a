-- How a file takes another's name, step by step.
use Rattle.std.proofs.Common.{◌≡◌, ◌⊎◌, ◌∙◌, ◌++◌, ℕ, List, [], Option, None, Some, IfSome, OnOk, Result, Ok, Err, inl}
use Rattle.std.proofs.Common.{inr, ⊎_elim, refl, sym, ap}
use Rattle.std.proofs.lemmas.Option.{MatchOption-at_some}
use Rattle.ftl_files.specs.Files.{Changes, Files, GoesOn, IsDurable, IsNamed, IsSynced, at_free_paths}
use Rattle.ftl_files.specs.Files.{at_path, filled, nowhere, renamed, replaced}
use Rattle.ftl_files.specs.Store.{AllUnchanged, Becomes}
use Rattle.ftl_files.proofs.Steps.{AreSomeOf, GoesOn-trans}

-- what a call that changes nothing has left
pub nowhere_leaves_all_unchanged : (old new : Files) → GoesOn old new nowhere → AllUnchanged old.bytes_at new.bytes_at
nowhere_leaves_all_unchanged old new one path = ⊎_elim (λ same. same) (λ none. absurd none) (one.bytes path)

known_none_or_fact : (o : Option (List ℕ)) (P : Type 0) → IfSome o (λ _. P) → (o ≡ None) ⊎ P
known_none_or_fact None P is = inl refl
known_none_or_fact (Some bytes) P is = inr is

IfSome-weaker : (o : Option (List ℕ)) (P Q : Type 0) → IfSome o (λ _. P) → (P → Q) → IfSome o (λ _. Q)
IfSome-weaker None P Q is so = tt
IfSome-weaker (Some bytes) P Q is so = so is

module _ (old synced : Files) (temporary path text : List ℕ) where
  -- what a rename brings is the text, after the bytes that were known
  pub renaming_is_some_of_filling : ((bytes : List ℕ) → old.bytes_at temporary ≡ Some bytes →
      synced.bytes_at temporary ≡ Some (bytes ++ text)) →
      IsSynced synced temporary → AreSomeOf (renamed synced temporary path) (filled old temporary path text)
  renaming_is_some_of_filling written is_synced at left (inl same) = inl same
  renaming_is_some_of_filling written is_synced at left (inr (same, (bytes, is, inl had_bytes))) =
      inr (same, λ had known. is ∙ sym had_bytes ∙ written had known)
  renaming_is_some_of_filling written is_synced at left (inr (same, (bytes, is, inr held))) =
      inr (
        same,
        λ had known. is ∙
            ap Some (is_synced (had ++ text) (written had known) bytes held),
      )

-- the file was filled and has the name
pub written_and_synced_file_replaces : (old written synced new : Files) (temporary path text : List ℕ) →
    GoesOn old written (at_path temporary) →
    GoesOn written synced nowhere → GoesOn synced new (renamed synced temporary path) →
    ((bytes : List ℕ) → old.bytes_at temporary ≡ Some bytes → written.bytes_at temporary ≡ Some (bytes ++ text)) →
    IsSynced synced temporary → GoesOn old new (filled old temporary path text)
written_and_synced_file_replaces old written synced new temporary path text write sync rename has_text is_synced =
    let part = renaming_is_some_of_filling old synced temporary path text
    (λ bytes known. nowhere_leaves_all_unchanged written synced sync temporary ∙
    has_text bytes known) is_synced in
    let two = GoesOn-trans old written synced (at_path temporary) nowhere (filled old temporary path text) write sync
    (λ p left is. inl is) (λ p left none. absurd none) in
    GoesOn-trans old synced new (filled old temporary path text)
    (renamed synced temporary path) (filled old temporary path text) two rename
    (λ p left is. is) part

-- the file that is filled was not there before, and was empty if the old one's bytes were known
pub filled_is_in_replaced : (old made : Files) (temporary path text : List ℕ) → old.bytes_at temporary ≡ None →
    IfSome (old.bytes_at path) (λ _. made.bytes_at temporary ≡ Some []) →
    AreSomeOf (filled made temporary path text) (replaced old path text)
filled_is_in_replaced old made temporary path text free empty at left (inl same) = inl (ap old.bytes_at same ∙ free)
filled_is_in_replaced old made temporary path text free empty at left (inr (same, comes)) = ⊎_elim
    (λ none. inl (ap old.bytes_at same ∙ none)) (λ is_empty. inr (same, comes [] is_empty))
    (known_none_or_fact (old.bytes_at path) (made.bytes_at temporary ≡ Some []) empty)

-- a file that was not there before is removed
pub removal_is_part_of_replaced : (old : Files) (temporary path text : List ℕ) → old.bytes_at temporary ≡ None →
    AreSomeOf (at_path temporary) (replaced old path text)
removal_is_part_of_replaced old temporary path text free at left same = inl (ap old.bytes_at same ∙ free)

pub changed_file_becomes_text : (old new : Option (List ℕ)) (text : List ℕ) → IfSome old (λ _. new ≡ Some text) →
    Becomes old new text
changed_file_becomes_text None new text is = tt
changed_file_becomes_text (Some bytes) new text is = is

-- a file was made, filled and named, and a call more was made
pub making_and_filling_is_replacing : (old made mid new : Files) (temporary path text : List ℕ) (last : Changes) →
    GoesOn old made (at_free_paths old) → GoesOn made mid (filled made temporary path text) → GoesOn mid new last →
    AreSomeOf last (replaced old path text) → old.bytes_at temporary ≡ None →
    IfSome (old.bytes_at path) (λ _. made.bytes_at temporary ≡ Some []) → GoesOn old new (replaced old path text)
making_and_filling_is_replacing old made mid new temporary path text last first second third is_part free empty =
    let all = replaced old path text in
    let two = GoesOn-trans old made mid (at_free_paths old) (filled made temporary path text) all first second
    (λ p left none. inl none) (filled_is_in_replaced old made temporary path text free empty) in
    GoesOn-trans old mid new all last all two third (λ p left is. is) is_part

-- the text is on the disk, and so is its name
pub replaced_file_is_durable : (old made mid new : Files) (temporary path text : List ℕ) →
    IfSome (old.bytes_at path) (λ _. made.bytes_at temporary ≡ Some []) →
    IfSome (made.bytes_at temporary) (λ _. IsSynced mid path) → GoesOn mid new nowhere → IsNamed new path →
    IfSome (old.bytes_at path) (λ _. IsDurable new path)
replaced_file_is_durable old made mid new temporary path text empty synced last named =
    IfSome-weaker (old.bytes_at path) (made.bytes_at temporary ≡ Some []) (IsDurable new path) empty
    (λ is_empty bytes is left leaves.
    let kept = named bytes is left leaves in
    let held = ⊎_elim (λ was. was) (λ none. absurd none) (last.hold path kept.0 kept.2) in
    let is_synced = MatchOption-at_some _ _ [] is_empty synced in
    kept.1 ∙ ap Some (is_synced bytes (sym (nowhere_leaves_all_unchanged mid new last path) ∙ is) kept.0 held))

pub OnOk-weaker : {T E : Type 0} (r : Result T E) (P Q : Type 0) → OnOk r P → (P → Q) → OnOk r Q
OnOk-weaker (Ok x) P Q is so = so is
OnOk-weaker (Err e) P Q is so = tt
