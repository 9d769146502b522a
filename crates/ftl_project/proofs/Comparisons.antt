-- What comes of a pair, of the texts that were read.
use mathlib.Core.Path.{fun_ext}
use Rattle.std.proofs.Common.{◌≡◌, ℕ, Bool, List, [], Option, None, Result, false, if◌then◌else◌, refl}
use Rattle.std.proofs.Common.{inl, inr, string_bytes, subst, sym, true}
use Rattle.std.specs.Int.{from_bool}
use Rattle.std.specs.Prelude.{OnOk}
use Rattle.fluent_syntax_names.specs.declared.differences.Side.{Side}
use Rattle.fluent_syntax_names.specs.declared.name_index.NameIndex.{NameIndex}
use Rattle.ftl_files.specs.Store.{AllUnchanged}
use Rattle.ftl_project.proofs.Counting.{unchanged_output_appends_nothing, fact_holds_on_ok}
use Rattle.ftl_project.specs.Comparing.{Compares, IsFileMissing, IsPairCompared, IsComparison, IsPairFault}
use Rattle.ftl_project.specs.Comparing.{IsSideFault}
use Rattle.ftl_project.specs.Faults.{Failing, HasStatus, IsRead}
use Rattle.ftl_project.specs.NameIndexes.{IsNameIndex}
use Rattle.ftl_project.specs.Tally.{counted, failed}
use Rattle.ftl_project.specs.declared.comparing.CompareOptions.{CompareOptions}
use Rattle.ftl_project.specs.declared.comparing.pair.Pair.{Pair}
use Rattle.ftl_project.specs.declared.comparing.pair.Presence.{Presence}
use Rattle.ftl_project.specs.declared.comparing.pair.Presence.TheVariants.{Both, ReferenceAlone, OtherAlone}
use Rattle.ftl_project.specs.declared.comparing.share.Share.{Share}
use Rattle.ftl_project.specs.declared.fault.Fault.{Fault}
use Rattle.ftl_files.specs.declared.options.Reading.{Reading}
use Rattle.ftl_project.specs.declared.tally.Tally.{Tally}

-- Files that all are unchanged are the same files.
pub files_are_same : (at here : List ℕ → Option (List ℕ)) → AllUnchanged at here → here ≡ at
files_are_same at here untouched = fun_ext untouched

-- What was read of a file, under the names that a caller has for its path and its text.
pub IsRead-as : (at : List ℕ → Option (List ℕ)) (path own text said : List ℕ) → path ≡ own → text ≡ said →
    IsRead (at path) said → IsRead (at own) text
IsRead-as at path own text said same_path same_text read =
    subst (λ p. IsRead (at p) text) same_path (subst (λ t. IsRead (at path) t) (sym same_text) read)

pub from_bool_is_one_or_zero : (b : Bool) → from_bool b ≡ (if b then 1 else 0)
from_bool_is_one_or_zero false = refl
from_bool_is_one_or_zero true = refl

module _ (CallFails : Failing) (reading : Reading) (options : CompareOptions) (at : List ℕ → Option (List ℕ))
    (pair : Pair) where
  pub comparison_without_other : (text : List ℕ) (errors warnings : ℕ) (share : Share) (report_text : List ℕ) →
      IsRead (at (string_bytes pair.reference)) text →
      ((name_index : NameIndex) × IsNameIndex reading.edition text name_index
      × IsFileMissing options pair name_index errors warnings share report_text) →
      IsComparison CallFails reading options at ReferenceAlone pair errors warnings share report_text
  comparison_without_other text errors warnings share report_text read that = (
    that.0,
    (text, read, that.1),
    that.2,
  )

  pub comparison_of_both : (text more : List ℕ) (errors warnings : ℕ) (share : Share) (report_text : List ℕ) →
      IsRead (at (string_bytes pair.reference)) text →
      IsRead (at (string_bytes pair.other)) more →
      ((reference : NameIndex) × IsNameIndex reading.edition text reference × (other : NameIndex)
      × IsNameIndex reading.edition more other
      × IsPairCompared options pair reference other errors warnings share report_text) →
      IsComparison CallFails reading options at Both pair errors warnings share report_text
  comparison_of_both text more errors warnings share report_text read other that = (
    that.0,
    (text, read, that.1),
    that.2,
    (more, other, that.3),
    that.4,
  )

  -- A fault of the file of a side is one of the pair.
  pub side_fault_is_of_pair : (presence : Presence) (side : Side) (fault : Fault) →
      IsSideFault CallFails reading options at presence pair side fault →
      IsPairFault CallFails reading options at presence pair fault
  side_fault_is_of_pair Both side fault (inl why) = inl why.1
  side_fault_is_of_pair Both side fault (inr why) = inr why.1
  side_fault_is_of_pair ReferenceAlone side fault why = why.1
  side_fault_is_of_pair OtherAlone side fault why = why

  -- A fault of the pair that was reported was counted, and nothing was written of the pair.
  pub Compares-report_text : {E : Type 0} (result : Result (Unit {0}) E) (fault : Fault) (old new : Tally)
      (share : Share)
      (before after : Option (List ℕ)) → IsPairFault CallFails reading options at pair.presence pair fault →
      ((status : ℕ) × HasStatus fault status × (new ≡ counted old (failed status))) → after ≡ before →
      OnOk result (Compares CallFails reading options at pair old new share share before after)
  Compares-report_text result fault old new share before after why report_text same = fact_holds_on_ok result (
    failed report_text.0,
    None,
    [],
    ((fault, why, report_text.1), refl, refl),
    report_text.2,
    refl,
    unchanged_output_appends_nothing before after same,
  )
