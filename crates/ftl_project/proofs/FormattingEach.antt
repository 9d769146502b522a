-- A run that formats in place, file by file.
use Rattle.std.proofs.Common.{◌≡◌, ◌<◌, ◌≤◌, ◌+◌, ℕ, List, Option, drop, get_or, length, refl, string_bytes, subst, sym}
use Rattle.std.proofs.lemmas.List.{drop_all}
use Rattle.std.specs.Global.{Global}
use Rattle.std.specs.Prelude.{String}
use Rattle.ftl_project.proofs.Counting.{drop_is_file_and_rest}
use Rattle.ftl_project.specs.Faults.{Failing}
use Rattle.ftl_project.specs.Formatting.{Formats, FormatsEach}
use Rattle.ftl_project.specs.declared.formatting.replacement.FormatOptions.{FormatOptions}
use Rattle.ftl_project.specs.declared.tally.Tally.{Tally}

module _ (CallFails : Failing) (options : FormatOptions) (files : List (String Global)) where
  -- Whatever the run does with the files from the index on, from the beginning it does with all of them.
  abbrev pub FormatsSo : (index : ℕ) (old now : List ℕ → Option (List ℕ)) (before between : Tally) → Type 0
  FormatsSo index old now before between = (new : List ℕ → Option (List ℕ)) (after : Tally) →
      FormatsEach CallFails options (drop index files) now new between after →
      FormatsEach CallFails options files old new before after

  pub FormatsSo-more : (index : ℕ) (file : String Global) (old now next : List ℕ → Option (List ℕ))
      (before between beyond : Tally) → index < length files → file ≡ get_or files index file →
      FormatsSo index old now before between → Formats CallFails options (string_bytes file) now next between beyond →
      FormatsSo (index + 1) old next before beyond
  FormatsSo-more index file old now next before between beyond below is so formats = λ new after rest.
      so new after (subst (λ left. FormatsEach CallFails options left now new between after)
      (sym (drop_is_file_and_rest files index file below is))
      (next, beyond, formats, rest))

  pub FormatsSo-all : (index : ℕ) (old now : List ℕ → Option (List ℕ)) (before between : Tally) →
      length files ≤ index → FormatsSo index old now before between →
      FormatsEach CallFails options files old now before between
  FormatsSo-all index old now before between all so = so now between
      (subst (λ left. FormatsEach CallFails options left now now between between) (sym (drop_all index files all))
      (λ path. refl, refl))
