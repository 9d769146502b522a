-- Paths relative to a folder.
use Rattle.std.proofs.Common.{◌≡◌, ◌∙◌, ℕ, List, ◌++◌, ◌∷◌, Bor, Option, Some, None, append_assoc, codes, drop, refl}
use Rattle.std.proofs.Common.{sym}
use Rattle.std.proofs.lemmas.List.{append_cancel_left}
use Rattle.std.specs.Prelude.{◌≢◌, MatchOption}

-- what is left of a path without the folder is a `/` and the relative path
pub path_in_folder_is_its_relative : (folder remainder path : List ℕ) (n : ℕ) (r : Option (Bor (List ℕ))) →
    path ≡ folder ++ drop n path →
    remainder ≡ drop n path → MatchOption r ((rest : List ℕ) → remainder ≢ 47 ∷ rest) (λ x. remainder ≡ 47 ∷ x.now) →
    MatchOption r ((relative : List ℕ) → path ≢ folder ++ codes "/" ++ relative)
    (λ relative. path ≡ folder ++ codes "/" ++ relative.now)
path_in_folder_is_its_relative folder remainder path n None from beyond strips = λ relative is.
    strips relative (beyond ∙ append_cancel_left folder _ _ (sym from ∙ is ∙ append_assoc folder (codes "/") relative))
path_in_folder_is_its_relative folder remainder path n (Some x) from beyond strips =
    from ∙ rw (sym beyond, strips, append_assoc folder (codes "/") x.now) refl
