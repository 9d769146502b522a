-- A file more among those that were read.
use Rattle.std.proofs.Common.{◌≡◌, ◌+◌, List, [], ◌∷◌, ◌++◌, length}
use Rattle.std.specs.Prelude.{string_bytes}
use Rattle.std.proofs.lemmas.List.Sums.{sum_by-append}
use Rattle.ftl_files.specs.Reading.{total}
use Rattle.ftl_files.specs.declared.reading.SourceFile.{SourceFile}

pub total-append : (files : List SourceFile) (file : SourceFile) →
    total (files ++ file ∷ []) ≡ total files + (0 + length (string_bytes file.text))
total-append files file = sum_by-append (λ f. length (string_bytes f.text)) files (file ∷ [])
