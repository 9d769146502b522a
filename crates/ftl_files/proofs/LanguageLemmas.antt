-- Paths that lead through the folder of a language.
use Rattle.std.proofs.Common.{◌≡◌, ◌∙◌, ◌-◌, ℕ, List, [], ◌++◌, ◌∷◌, Bor, Option, Some, None}
use Rattle.std.proofs.Common.{append_assoc, arith, codes, length, refl, sym, take}
use Rattle.std.proofs.lemmas.List.{append_cancel_left, append_cancel_right}
use Rattle.std.proofs.lemmas.Str.Pattern.{IsSplitOnceResult, split_parts}
use Rattle.std.specs.Prelude.{◌≢◌, IfSome, MatchOption}
use Rattle.ftl_files.specs.Languages.{IsDirect, IsLanguage}

-- the path, by the folder of the language and by what is below it
pub path_is_joined : (languages name rest relative path : List ℕ) → path ≡ languages ++ codes "/" ++ relative →
    relative ≡ name ++ 47 ∷ rest → path ≡ (languages ++ codes "/" ++ name ++ codes "/") ++ rest
path_is_joined languages name rest relative path place parts = place ∙ rw parts (simp append_assoc)

-- what is before the first `/` of a path, and what follows it
pub split_at_slash_gives_folder_name : (relative : List ℕ) (name rest : Bor (List ℕ)) →
    IsSplitOnceResult 47 relative (Some (name, rest)) → (relative ≡ name.now ++ 47 ∷ rest.now) × IsDirect name.now
split_at_slash_gives_folder_name relative name rest splits =
    split_parts 47 relative (Some (name, rest)) splits (omega arith)

-- what a path begins with before its ending
path_is_front_and_ending : (rest path front : List ℕ) (k : ℕ) → path ≡ take (length path - k) path ++ rest →
    front ≡ take (length path - k) path → path ≡ front ++ rest
path_is_front_and_ending rest path front k ends is = ends ∙ rw is refl

-- a language is found
abbrev IsFound : (languages path : List ℕ) → Option (Bor (List ℕ)) → Type 0
IsFound languages path r = MatchOption r ⊥ (λ language. IsLanguage languages path language.now)

-- what a path begins with, before a `/`, is the folder of the language
pub language_at_front_is_found : (languages name rest relative path front : List ℕ) (k : ℕ)
    (r : Option (Bor (List ℕ))) →
    path ≡ languages ++ codes "/" ++ relative → relative ≡ name ++ 47 ∷ rest → IsDirect name →
    path ≡ take (length path - k) path ++ rest → front ≡ take (length path - k) path →
    MatchOption r ((x : List ℕ) → front ≢ x ++ (47 ∷ [])) (λ x. front ≡ x.now ++ (47 ∷ [])) →
    IsFound languages path r
language_at_front_is_found languages name rest relative path front k None place parts direct ends is strips =
    let whole = path_is_joined languages name rest relative path place parts in
    let begins = path_is_front_and_ending rest path front k ends is in
    strips (languages ++ codes "/" ++ name) (append_cancel_right _ _ rest (sym begins ∙ whole))
language_at_front_is_found languages name rest relative path front k (Some x) place parts direct ends is strips =
    let whole = path_is_joined languages name rest relative path place parts in
    let begins = path_is_front_and_ending rest path front k ends is in
    let slash = append_cancel_right front (languages ++ codes "/" ++ name ++ codes "/") rest (sym begins ∙ whole) in
    let folder = append_cancel_right x.now (languages ++ codes "/" ++ name) (codes "/") (sym strips ∙ slash) in
    record {
      name = name;
      rest = rest;
      language_is = folder;
      path_is = whole ∙ rw folder (simp append_assoc);
      direct = direct;
    }

pub found_language_is_language : (languages path : List ℕ) (r : Option (Bor (List ℕ))) → IsFound languages path r →
    IfSome r (λ language. IsLanguage languages path language.now)
found_language_is_language languages path None never = absurd never
found_language_is_language languages path (Some x) is = is

pub found_language_is_not_none : (languages path : List ℕ) (r : Option (Bor (List ℕ))) → IsFound languages path r →
    r ≢ None
found_language_is_not_none languages path None never none = never
found_language_is_not_none languages path (Some x) is none = absurd cc

-- the relative path of what leads through the folder of a language
pub relative_path_begins_with_language : (languages path language relative : List ℕ)
    (l : IsLanguage languages path language) →
    path ≡ languages ++ codes "/" ++ relative → relative ≡ l.name ++ 47 ∷ l.rest
relative_path_begins_with_language languages path language relative l from =
    append_cancel_left (languages ++ codes "/") relative (l.name ++ 47 ∷ l.rest)
    (sym from ∙ l.path_is ∙ rw l.language_is (simp append_assoc))
