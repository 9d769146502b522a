-- The entries of a joined body, each of none or one entry of the tree.
use Rattle.std.proofs.Common.{◌≡◌, ℕ, ◌+◌, ◌<◌, List, ◌++◌, length, get_or, take, map, Option, sym, ap, ◌∙◌}
use Rattle.std.proofs.lemmas.List.{map-append}
use Rattle.std.specs.List.{flat_map}
use Rattle.std.specs.Option.{option_to_list}
use Rattle.fluent_syntax_tree.proofs.Lists.{flat_map-to}

pub flat_map_take_next : {A B C : Type 0} (view : B → C) (entries : A → List C) (old new : List B) (made : Option B)
    (xs : List A) (i : ℕ) (x : A) → map view old ≡ flat_map entries (take i xs) → new ≡ old ++ option_to_list made →
    i < length xs → x ≡ get_or xs i x → map view (option_to_list made) ≡ entries x →
    map view new ≡ flat_map entries (take (i + 1) xs)
flat_map_take_next view entries old new made xs i x before is h at same =
    ap (map view) is ∙ map-append view old (option_to_list made)
    ∙ ap (λ l. l ++ map view (option_to_list made)) before
    ∙ ap (λ l. flat_map entries (take i xs) ++ l) same
    ∙ sym (flat_map-to entries xs i x h at)
