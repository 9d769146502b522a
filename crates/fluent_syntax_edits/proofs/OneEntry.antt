-- The text of one entry, written with nothing before it and without junk.
use Rattle.std.proofs.Common.{◌≡◌, ℕ, List, [], ◌∷◌, ◌++◌, ◌∙◌, ap, Bool, false}
use Rattle.fluent_syntax_tree.specs.Entry.{EntryTree}
use Rattle.fluent_syntax_grammar.specs.Written.{Text, written}

pub one_entry_is_written : (bs old : List ℕ) (junk : Bool) (e : EntryTree Text) → bs ≡ old ++ written junk (e ∷ []) →
    old ≡ [] → junk ≡ false → bs ≡ written false (e ∷ [])
one_entry_is_written bs old junk e h k n =
    h ∙ (ap (λ o. o ++ written junk (e ∷ [])) k ∙ ap (λ j. written j (e ∷ [])) n)
