-- One change more in memory.
use Rattle.std.proofs.Common.{◌≡◌, ◌⊎◌, ◌∙◌, ◌≤◌, ℕ, zero, suc, List, ◌∷◌, Option, Some, Bool, true, false, Decides}
use Rattle.std.proofs.Common.{arith, bytes_eq, inl, inr, ⊎_elim, length, refl, string_bytes, subst, sym, if◌then◌else◌}
use Rattle.std.proofs.lemmas.Slice.Eq.{bytes_eq-Decides}
use Rattle.ftl_files.specs.Files.{Changes, GoesOn}
use Rattle.ftl_files.specs.Memory.{bytes_at, bytes_of, files_of}
use Rattle.ftl_files.specs.declared.memory.Change.{Change}

tested_path_came_or_was : (test : Bool) (path at : List ℕ) (came was : Option (List ℕ)) → Decides test (path ≡ at) →
    ((path ≡ at) × ((if test then came else was) ≡ came)) ⊎ ((if test then came else was) ≡ was)
tested_path_came_or_was true path at came was is = inl (is.0 refl, refl)
tested_path_came_or_was false path at came was is = inr refl

module _ (change : Change) (before : List Change) where
  -- what is at a path is what the change has left there, or what was there
  pub bytes_at_path_are_changed_or_before : (path : List ℕ) → ((path ≡ string_bytes change.path)
      × (bytes_at (change ∷ before) path ≡ bytes_of change.bytes))
      ⊎ (bytes_at (change ∷ before) path ≡ bytes_at before path)
  bytes_at_path_are_changed_or_before path =
      tested_path_came_or_was (bytes_eq path (string_bytes change.path)) path (string_bytes change.path)
      (bytes_of change.bytes)
      (bytes_at before path) (bytes_eq-Decides path (string_bytes change.path))

  module _ (changes : Changes)
      (comes : (path : List ℕ) (left : Option (List ℕ)) → path ≡ string_bytes change.path →
      left ≡ bytes_of change.bytes →
      changes path left) where
    since : (t : ℕ) (path : List ℕ) (left : Option (List ℕ)) → t ≤ length before →
        (files_of (change ∷ before)).left_since t path left → (files_of before).left_since t path left
        ⊎ changes path left
    since t path left le (zero, within, is) = ⊎_elim
        (λ came. inr (comes path left came.0 (is ∙ came.1)))
        (λ same. inl (0, omega (arith, le), is ∙ same)) (bytes_at_path_are_changed_or_before path)
    since t path left le (suc undone, within, is) = inl (undone, omega (arith, within), is)

    pub files_go_on_to_change : GoesOn (files_of before) (files_of (change ∷ before)) changes
    files_go_on_to_change = record {
      later = omega arith;
      bytes = λ path. ⊎_elim (λ came. inr (comes path _ came.0 came.1)) inl (bytes_at_path_are_changed_or_before path);
      hold = λ path bytes held. ⊎_elim
          (λ came. inr (comes path (Some bytes) came.0 (sym held ∙ came.1)))
          (λ same. inl (sym same ∙ held)) (bytes_at_path_are_changed_or_before path);
      leave = λ path left is. ⊎_elim
          (λ came. inr (comes path left came.0 (is ∙ came.1))) (λ same. inl (is ∙ same))
          (bytes_at_path_are_changed_or_before path);
      since = since;
      keeps = λ t path left le is. (suc is.0, omega (arith, is.1), is.2);
    }

-- the same, of what a call has left
pub goes_on_to_change : (before after : List Change) (change : Change) (changes : Changes) → after ≡ change ∷ before →
    ((path : List ℕ) (left : Option (List ℕ)) → path ≡ string_bytes change.path → left ≡ bytes_of change.bytes →
    changes path left) → GoesOn (files_of before) (files_of after) changes
goes_on_to_change before after change changes is comes =
    subst (λ l. GoesOn (files_of before) (files_of l) changes) (sym is)
    (files_go_on_to_change change before changes comes)
