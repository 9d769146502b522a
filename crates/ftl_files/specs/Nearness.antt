-- How near two files are to one another.
use Rattle.std.specs.Prelude.{ℕ, ◌+◌, ◌==◌, List, [], ◌∷◌, if◌then◌else◌}

-- how often there is a `/` in what both paths begin with
abbrev pub shared_folders : (first second : List ℕ) → ℕ
shared_folders [] second = 0
shared_folders (a ∷ as') [] = 0
shared_folders (a ∷ as') (b ∷ bs) =
    if a == b then (if a == 47 then 1 else 0) + shared_folders as' bs else 0
