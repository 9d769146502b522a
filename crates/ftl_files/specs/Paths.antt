-- Which paths are below a folder.
use Rattle.std.specs.Prelude.{ℕ, List, [], ◌∷◌, Bool, false, ◌==◌, ◌&&◌, drop, length, nat_eq}
use Rattle.std.specs.List.{starts_with}

-- a `/` and something more
abbrev pub is_name : List ℕ → Bool
is_name [] = false
is_name (a ∷ []) = false
is_name (a ∷ b ∷ rest) = a == 47

-- the path begins with the folder, and goes on with a name in it
abbrev pub is_below : (folder path : List ℕ) → Bool
is_below folder path = starts_with nat_eq path folder && is_name (drop (length folder) path)
