-- Which language a file is of, where each language has a folder.
use Rattle.std.specs.Prelude.{◌≡◌, ◌≢◌, ◌<◌, ℕ, List, ◌++◌, codes, get_or, length}

-- the name has no `/`: it is that of what is directly in a folder
abbrev pub IsDirect : (name : List ℕ) → Type 0
IsDirect name = (i : ℕ) → i < length name → get_or name i 0 ≢ 47

-- The language has its folder directly in `languages`, and the path leads through that.
pub record IsLanguage (languages path language : List ℕ) : Type 0 where
  pub name : List ℕ
  pub rest : List ℕ
  pub language_is : language ≡ languages ++ codes "/" ++ name
  pub path_is : path ≡ language ++ codes "/" ++ rest
  pub direct : IsDirect name
