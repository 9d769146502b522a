-- IsEditResult of edits.
use Rattle.std.proofs.Common.{◌≡◌, ◌⊎◌, ◌<◌, ◌+◌, inl, inr, ℕ, List, Result, Ok, Err, String, subst}
use Rattle.std.proofs.Common.{Bool, true, false, nat_lt, refl, arith}
use Rattle.std.proofs.lemmas.Bool.Decides.{nat_tests}
use Rattle.std.specs.Prelude.{IsErrAnd}
use Rattle.std.specs.Global.{Global}
use Rattle.fluent_syntax_tree.specs.declared.edition.Edition.{Edition}
use Rattle.fluent_syntax_tree.specs.declared.spans.Span.{Span}
use Rattle.fluent_syntax_edits.specs.Changes.{Change, attempts, refusal}
use Rattle.fluent_syntax_edits.specs.Edits.{IsEditResult, IsRead, no_memory, no_range, read_otherwise}
use Rattle.fluent_syntax_edits.specs.EntryPlaces.{RangeOf}
use Rattle.fluent_syntax_edits.specs.declared.fault.EditFault.{EditFault}
use Rattle.fluent_syntax_edits.specs.declared.fault.EditFault.TheVariants.{Memory}

module _ (edition : Edition) (t : List ℕ) (n : ℕ) (change : Change) where
  -- a growth was refused
  pub memory_error_is_edit_result : (r : Result (String Global) EditFault) → IsErrAnd r (λ fault. fault ≡ Memory) →
      IsEditResult edition t n change r
  memory_error_is_edit_result (Ok made) h = absurd h
  memory_error_is_edit_result (Err fault) h = rw h no_memory

  -- there is no stretch, or no memory
  pub error_of_range_is_edit_result : (fault : EditFault) → let r : Result Span EditFault = Err fault in
      (r ≡ Err Memory) ⊎ RangeOf edition t n change r → IsEditResult edition t n change (Err fault)
  error_of_range_is_edit_result fault (inl e) = let same : fault ≡ Memory = cc in rw same no_memory
  error_of_range_is_edit_result fault (inr x) = no_range x

  pub found_range_is_range_of_change : (s : Span) → let r : Result Span EditFault = Ok s in
      (r ≡ Err Memory) ⊎ RangeOf edition t n change r → RangeOf edition t n change r
  found_range_is_range_of_change s (inl e) = cc
  found_range_is_range_of_change s (inr x) = x

  -- none of the texts that are tried is read so
  pub no_attempt_is_read : (s : Span) (fault : EditFault) → RangeOf edition t n change (Ok s) →
      ((k : ℕ) → k < attempts change → ¬ (IsRead edition t n change k s)) → fault ≡ refusal edition change →
      IsEditResult edition t n change (Err fault)
  no_attempt_is_read s fault x otherwise e = rw e (read_otherwise s x otherwise)

-- what holds of none below a number, nor of it, holds of none below the next
pub none_below_next : (P : ℕ → Type 0) (k : ℕ) → ((j : ℕ) → j < k → ¬ (P j)) → ¬ (P k) →
    (j : ℕ) → j < k + 1 → ¬ (P j)
none_below_next P k below here j l p = go (nat_lt j k) refl
  where
    go : (less : Bool) → nat_lt j k ≡ less → ⊥
    go true e = below j (grind (arith, nat_tests)) p
    go false e = let same : j ≡ k = grind (arith, nat_tests) in here (subst P same p)
