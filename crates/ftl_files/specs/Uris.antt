-- URIs of files, and the paths that they name.
use Rattle.std.specs.Prelude.{◌≡◌, ℕ, List, ◌∷◌, ◌++◌, Option, None, Some, codes, drop, nat_eq, string_bytes, IsUtf8}
use Rattle.std.specs.Prelude.{if◌then◌else◌}
use Rattle.std.specs.List.{starts_with}
use Rattle.std.specs.declared.alloc.Global.{Global}
use Rattle.std.specs.declared.string.String.{String}
use Rattle.percent_encoding.specs.Percent.{percent_decode, percent_encode}
use Rattle.ftl_files.specs.declared.uris.TheConstants.{ESCAPED}

-- what comes after `file://`, if it begins with a `/`
abbrev pub escaped_path : List ℕ → Option (List ℕ)
escaped_path uri = if starts_with nat_eq uri (codes "file:///") then Some (drop 7 uri) else None

-- the path is what the escaped one represents; there is none where that is no UTF-8
abbrev pub IsPathIn : Option (List ℕ) → Option (String Global) → Type 0
IsPathIn None None = Unit {0}
IsPathIn None (Some path) = ⊥
IsPathIn (Some escaped) None = ¬ (IsUtf8 (percent_decode escaped))
IsPathIn (Some escaped) (Some path) = string_bytes path ≡ percent_decode escaped

-- the URI that is written for a path
abbrev pub uri_of : List ℕ → List ℕ
uri_of path = codes "file://" ++ percent_encode ESCAPED path

-- the URI names the path, if that begins at the root
abbrev pub NamesPath : (uri path : List ℕ) → Type 0
NamesPath uri path =
    (rest : List ℕ) → path ≡ 47 ∷ rest →
    (escaped : List ℕ) × (escaped_path uri ≡ Some escaped) × (percent_decode escaped ≡ path)
