-- Files that are counted one after another.
use Rattle.std.proofs.Common.{◌≡◌, ◌<◌, ◌+◌, ◌∙◌, ℕ, List, [], ◌∷◌, Option, None, Some, Result, Ok, Err, ap, drop}
use Rattle.std.proofs.Common.{get_or, length, string_bytes}
use Rattle.std.proofs.Common.{◌≤◌, refl, subst, sym}
use Rattle.std.proofs.lemmas.List.{append-nil, drop_all, drop_more}
use Rattle.std.specs.Global.{Global}
use Rattle.std.specs.Io.KnownBytes.{Appends}
use Rattle.std.specs.Prelude.{OnOk, String}
use Rattle.ftl_project.specs.Faults.{Fails, HasStatus}
use Rattle.ftl_project.specs.Runs.{Writes, WritesEach}
use Rattle.ftl_project.specs.Tally.{Processed, counted, failed}
use Rattle.ftl_project.specs.declared.fault.Fault.{Fault}
use Rattle.ftl_project.specs.declared.tally.Tally.{Tally}

-- What is left at an index is the file there, and what is left after it.
pub drop_is_file_and_rest : {A : Type 0} (files : List A) (index : ℕ) (file : A) → index < length files →
    file ≡ get_or files index file → drop index files ≡ file ∷ drop (index + 1) files
drop_is_file_and_rest files index file below is =
    drop_more files index file below ∙ ap (λ x. x ∷ drop (index + 1) files) (sym is)

known_bytes_append_nothing : (known : Option (List ℕ)) → Appends known known []
known_bytes_append_nothing None = tt
known_bytes_append_nothing (Some bytes) = sym (append-nil bytes)

pub unchanged_output_appends_nothing : (before after : Option (List ℕ)) → after ≡ before → Appends before after []
unchanged_output_appends_nothing before after same =
    subst (λ o. Appends before o []) (sym same) (known_bytes_append_nothing before)

pub Appends-as : (before between after : Option (List ℕ)) (said text : List ℕ) → Appends before between said →
    said ≡ text → after ≡ between → Appends before after text
Appends-as before between after said text appends says same =
    subst (λ t. Appends before after t) says (subst (λ o. Appends before o said) (sym same) appends)

pub fact_holds_on_ok : {A E P : Type 0} (result : Result A E) → P → OnOk result P
fact_holds_on_ok (Ok value) holds = holds
fact_holds_on_ok (Err error) holds = tt

pub consequence_holds_on_ok : {A E P Q : Type 0} (result : Result A E) → (P → Q) → OnOk result P → OnOk result Q
consequence_holds_on_ok (Ok value) then holds = then holds
consequence_holds_on_ok (Err error) then holds = tt

-- A fault that was reported was counted, and nothing was written of the file.
pub Writes-report_text : {E : Type 0} (Is : Processed → List ℕ → Type 0) (Why : Fault → Type 0)
    (result : Result (Unit {0}) E)
    (fault : Fault) (old new : Tally) (before after : Option (List ℕ)) →
    ((status : ℕ) → Fails Why status → Is (failed status) []) → Why fault →
    ((status : ℕ) × HasStatus fault status × (new ≡ counted old (failed status))) → after ≡ before →
    OnOk result (Writes Is old new before after)
Writes-report_text Is Why result fault old new before after fails why report_text same = fact_holds_on_ok result (
  failed report_text.0,
  [],
  fails report_text.0 (fault, why, report_text.1),
  report_text.2,
  unchanged_output_appends_nothing before after same,
)

-- Files are met as their bytes are, which are those of the beginning.
module _ (Is : (path : List ℕ) → Option (List ℕ) → Processed → List ℕ → Type 0) (at : List ℕ → Option (List ℕ))
    (files : List (String Global)) where
  abbrev Processes : String Global → Processed → List ℕ → Type 0
  Processes file = Is (string_bytes file) (at (string_bytes file))

  -- Whatever the files from the index on add, all of them then add that to the beginning.
  abbrev pub WritesSo : (index : ℕ) (old now : Tally) (before between : Option (List ℕ)) → Type 0
  WritesSo index old now before between = (new : Tally) (after : Option (List ℕ)) →
      WritesEach Processes (drop index files) now new between after → WritesEach Processes files old new before after

  pub WritesSo-more : (here : List ℕ → Option (List ℕ)) (index : ℕ) (file : String Global) (path : List ℕ)
      (old now next : Tally) (before between beyond : Option (List ℕ)) → index < length files →
      file ≡ get_or files index file → path ≡ string_bytes file → here path ≡ at path →
      WritesSo index old now before between → Writes (Is path (here path)) now next between beyond →
      WritesSo (index + 1) old next before beyond
  WritesSo-more here index file path old now next before between beyond below is same in_place so writes =
      λ new after rest.
      let at_path = subst (λ bytes. Writes (Is path bytes) now next between beyond) in_place writes in
      let at_file = subst (λ p. Writes (Is p (at p)) now next between beyond) same at_path in
      so new after (subst (λ left. WritesEach Processes left now new between after)
      (sym (drop_is_file_and_rest files index file below is))
      (next, beyond, at_file, rest))

  pub WritesSo-all : (index : ℕ) (old now : Tally) (before between : Option (List ℕ)) → length files ≤ index →
      WritesSo index old now before between → WritesEach Processes files old now before between
  WritesSo-all index old now before between all so = so now between
      (subst (λ left. WritesEach Processes left now now between between) (sym (drop_all index files all))
      (refl, known_bytes_append_nothing between))
