-- AreReplacements of several edits.
use Rattle.std.proofs.Common.{◌≡◌, ◌≢◌, ◌⊎◌, inl, inr, ℕ, List, Result, Ok, Err, refl}
use Rattle.std.specs.Prelude.{IsErrAnd}
use Rattle.fluent_syntax_tree.specs.declared.edition.Edition.{Edition}
use Rattle.fluent_syntax_edits.specs.SeveralEdits.{FirstFault, IsDraftOfReplacements}
use Rattle.fluent_syntax_edits.specs.SeveralEdits.{NumberedChange, no_memory, no_stretch, unless_otherwise}
use Rattle.fluent_syntax_edits.specs.declared.drafts.Draft.{Draft}
use Rattle.fluent_syntax_edits.specs.declared.fault.EditFault.{EditFault}
use Rattle.fluent_syntax_edits.specs.declared.fault.EditFault.TheVariants.{IsJunk, Memory, NoEntry, NotCanonical}
use Rattle.fluent_syntax_edits.specs.declared.fault.EditFault.TheVariants.{NoValue, Overlap, ReadsOtherwise}

module _ (edition : Edition) (t : List ℕ) (cs : List NumberedChange) where
  -- a growth was refused
  pub memory_error_is_draft_of_replacements : (r : Result Draft EditFault) → IsErrAnd r (λ fault. fault ≡ Memory) →
      IsDraftOfReplacements edition t cs r
  memory_error_is_draft_of_replacements (Ok draft) h = absurd h
  memory_error_is_draft_of_replacements (Err fault) h = rw h no_memory

  -- there is no stretch, or no memory
  pub fault_of_draft_is_refusal : (fault : EditFault) → (fault ≡ Memory) ⊎ FirstFault edition t 0 cs fault →
      IsDraftOfReplacements edition t cs (Err fault)
  fault_of_draft_is_refusal fault (inl e) = rw e no_memory
  fault_of_draft_is_refusal fault (inr first) = no_stretch first

-- any other fault comes first
pub other_fault_comes_first : (fault other : EditFault) → fault ≢ ReadsOtherwise →
    fault ≡ unless_otherwise fault other
other_fault_comes_first ReadsOtherwise other differs = absurd (differs refl)
other_fault_comes_first (NotCanonical rule) other differs = refl
other_fault_comes_first NoEntry other differs = refl
other_fault_comes_first (IsJunk s) other differs = refl
other_fault_comes_first NoValue other differs = refl
other_fault_comes_first Overlap other differs = refl
other_fault_comes_first Memory other differs = refl
