-- The texts of a workspace's files.
use Rattle.std.specs.Prelude.{◌≡◌, ℕ, List, Option, IfSome, IsTrue, length, string_bytes, sum_by}
use Rattle.ftl_files.specs.Paths.{is_below}
use Rattle.ftl_files.specs.declared.reading.SourceFile.{SourceFile}

-- It is below the folder, and its text is what the file at its path holds, where that is known.
pub record IsOf (bytes_at : List ℕ → Option (List ℕ)) (folder : List ℕ) (file : SourceFile) : Type 0 where
  pub below : IsTrue (is_below folder (string_bytes file.path))
  pub text : IfSome (bytes_at (string_bytes file.path)) (λ bytes. string_bytes file.text ≡ bytes)

-- how many bytes their texts have
abbrev pub total : List SourceFile → ℕ
total files = sum_by (λ file. length (string_bytes file.text)) files
