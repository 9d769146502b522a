-- Steps of a run, put together.
use Rattle.std.proofs.Common.{◌≡◌, ◌⊎◌, ℕ, List, Option, None, Some, Ok, Err, Result, string_bytes, subst, sym, ⊎_elim}
use Rattle.ftl_files.specs.Store.{AllUnchanged, Becomes, OthersUnchanged}
use Rattle.ftl_project.specs.Faults.{Failing, IsRead}
use Rattle.ftl_project.specs.Rewriting.{AllReach, AllReachBy, BecomesBy, BecomesRewriting, ReachesBy, Rewrites}
use Rattle.ftl_project.specs.Rewriting.{goes, stays}
use Rattle.ftl_project.specs.declared.fault.Fault.{Fault}
use Rattle.ftl_project.specs.declared.formatting.replacement.FormatOptions.{FormatOptions}
use Rattle.ftl_project.specs.Lossless.{IsRewriting}
use Rattle.ftl_project.specs.declared.formatting.replacement.Replacement.{Replacement}
use Rattle.ftl_project.specs.declared.formatting.replacement.Replacement.TheVariants as replacement

module _ (IsNext : (bytes text : List ℕ) → Type 0) where
  unchanged_file_is_reached : (old new : Option (List ℕ)) → new ≡ old → ReachesBy IsNext old new
  unchanged_file_is_reached old new e = subst (λ bytes. ReachesBy IsNext old bytes) (sym e) stays

  reach_after_reach_is_reach : {old now new : Option (List ℕ)} → ReachesBy IsNext old now → ReachesBy IsNext now new →
      ReachesBy IsNext old new
  reach_after_reach_is_reach first stays = first
  reach_after_reach_is_reach first (goes more step) = goes (reach_after_reach_is_reach first more) step

  pub AllReach-untouched : (old new : List ℕ → Option (List ℕ)) → AllUnchanged old new → AllReachBy IsNext old new
  AllReach-untouched old new untouched = λ path. unchanged_file_is_reached (old path) (new path) (untouched path)

  pub AllReach-trans : (old now new : List ℕ → Option (List ℕ)) → AllReachBy IsNext old now →
      AllReachBy IsNext now new →
      AllReachBy IsNext old new
  AllReach-trans old now new first next = λ path. reach_after_reach_is_reach (first path) (next path)

  -- where no file was, one may have come
  new_file_is_reached : (old new : Option (List ℕ)) → old ≡ None → ReachesBy IsNext old new
  new_file_is_reached old new none = goes stays (subst (λ o. BecomesBy IsNext o new) (sym none) tt)

  file_at_equal_path_is_reached : (old new : List ℕ → Option (List ℕ)) (path other : List ℕ) →
      ReachesBy IsNext (old path) (new path) → other ≡ path → ReachesBy IsNext (old other) (new other)
  file_at_equal_path_is_reached old new path other reach e = subst (λ p. ReachesBy IsNext (old p) (new p)) (sym e) reach

  file_alone_changed_is_reached : (old new : List ℕ → Option (List ℕ)) (path : List ℕ) →
      ReachesBy IsNext (old path) (new path) → OthersUnchanged old new path → AllReachBy IsNext old new
  file_alone_changed_is_reached old new path reach others =
      λ other. ⊎_elim (unchanged_file_is_reached (old other) (new other))
      (⊎_elim (file_at_equal_path_is_reached old new path other reach) (new_file_is_reached (old other) (new other)))
      (others other)

  -- The text that is there now may come next after the bytes that were known.
  pub file_that_becomes_next_reaches_it : (old new : Option (List ℕ)) (read text : List ℕ) → IsRead old read →
      IsNext read text → Becomes old new text → BecomesBy IsNext old new
  file_that_becomes_next_reaches_it None new read text is next becomes = tt
  file_that_becomes_next_reaches_it (Some bytes) new read text is next becomes =
      (text, subst (λ b. IsNext b text) is next, becomes)

  -- So have all, if it is the only one that was replaced.
  pub AllReach-replaced : (path : List ℕ) (old new : List ℕ → Option (List ℕ)) (read text : List ℕ) →
      IsRead (old path) read → IsNext read text → (new path ≡ old path) ⊎ Becomes (old path) (new path) text →
      OthersUnchanged old new path → AllReachBy IsNext old new
  AllReach-replaced path old new read text is next whole others = file_alone_changed_is_reached old new path
      (⊎_elim (unchanged_file_is_reached (old path) (new path))
      (λ becomes. goes stays (file_that_becomes_next_reaches_it (old path) (new path) read text is next becomes))
      whole) others

-- what one file has come to after its rewriting, and the others
pub AllReach-rewrites : (CallFails : Failing) (options : FormatOptions) (path : List ℕ)
    (old new : List ℕ → Option (List ℕ)) (result : Result Replacement Fault) →
    Rewrites CallFails options path old new result → AllReach options old new
AllReach-rewrites CallFails options path old new (Ok (replacement.Text text)) (read, is, that, puts) =
    file_alone_changed_is_reached (IsRewriting options) old new path
    (goes stays (file_that_becomes_next_reaches_it (IsRewriting options) (old path) (new path) read
    (string_bytes text) is that.0 puts.0)) puts.1
AllReach-rewrites CallFails options path old new (Ok replacement.Same) done =
    AllReach-untouched (IsRewriting options) old new done.3
AllReach-rewrites CallFails options path old new (Ok (replacement.Errors refused)) done =
    AllReach-untouched (IsRewriting options) old new done.3
AllReach-rewrites CallFails options path old new (Ok (replacement.Lossy entry)) done =
    AllReach-untouched (IsRewriting options) old new done.3
AllReach-rewrites CallFails options path old new (Err fault) done =
    file_alone_changed_is_reached (IsRewriting options) old new path
    (⊎_elim (unchanged_file_is_reached (IsRewriting options) (old path) (new path)) (λ becomes. goes stays becomes)
    done.0) done.1
