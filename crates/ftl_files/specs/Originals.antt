-- Files, and those of the reference language that they are to be translations of.
use Rattle.std.specs.Prelude.{◌≡◌, ◌≢◌, ◌⊎◌, ◌∷◌, ℕ, List, [], ◌++◌, codes}
use Rattle.ftl_files.specs.Languages.{IsDirect}

-- what is below a folder, with the `/` before it; or nothing, where a path ends with the folder
abbrev pub IsBelow : List ℕ → Type 0
IsBelow rest = (rest ≡ []) ⊎ ((below : List ℕ) × (rest ≡ 47 ∷ below))

-- In the folder `above` the path leads through the folder or the file of another language, and the original, by the
-- same rest, through that of the reference, which is `own`.
pub record IsOriginal (above own path original : List ℕ) : Type 0 where
  pub language : List ℕ
  pub rest : List ℕ
  pub path_is : path ≡ above ++ codes "/" ++ language ++ rest
  pub original_is : original ≡ above ++ codes "/" ++ own ++ rest
  pub direct : IsDirect language
  pub whole : IsBelow rest
  pub other : language ≢ own
